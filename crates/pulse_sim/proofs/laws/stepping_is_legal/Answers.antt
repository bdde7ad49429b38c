use Rattle.std.proofs.lemmas.Option.{slice_get_within}
use Rattle.pulse_sim.proofs.Stepped.{step_ticks, steps_run}
use Rattle.pulse_sim.proofs.laws.stepping_is_legal.Goals as goal

pub returns-clause-ticks : goal.returns-clause-ticks
returns-clause-ticks c = λ circuit steps t word keeps e. step_ticks circuit keeps steps t word e
    (slice_get_within steps t word e)

pub returns-clause-legal : goal.returns-clause-legal
returns-clause-legal c = λ circuit words steps keeps given. steps_run circuit keeps steps words given
