use Rattle.pulse_sim.proofs.InPlace.{AreInPhaseBelow}
use Rattle.pulse_sim.proofs.pulses.cells_in_phase.Given as goal

abbrev pub invariant-loop-number : goal.invariant-loop-number
invariant-loop-number l = AreInPhaseBelow l.number l.cells l.phase l.numbers.items
