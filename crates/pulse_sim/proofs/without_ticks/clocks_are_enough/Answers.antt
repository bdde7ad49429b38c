use Rattle.pulse_sim.proofs.EveryOrder.{enough}
use Rattle.pulse_sim.proofs.without_ticks.clocks_are_enough.Goals as goal

pub returns : goal.returns
returns c = enough
