use Rattle.pulse_sim.proofs.ShownOnce.{shown_once}
use Rattle.pulse_sim.proofs.laws.shown_once.Goals as goal

pub returns : goal.returns
returns c = shown_once
