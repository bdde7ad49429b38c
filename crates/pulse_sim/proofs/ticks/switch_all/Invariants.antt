use Rattle.std.specs.Option.{option_copied}
use Rattle.pulse_sim.specs.Code.Steps.{AreSwitched}
use Rattle.pulse_sim.proofs.ticks.switch_all.Given as goal

abbrev pub invariant-loop-number : goal.invariant-loop-number
invariant-loop-number l = AreSwitched l.cells (option_copied l.word) l.numbers l.number-index l.fn.fluxes l.fluxes
