use Rattle.pulse_sim.proofs.InPlace.{AreByPhaseBelow}
use Rattle.pulse_sim.proofs.pulses.cells_by_phase.Given as goal

abbrev pub invariant-loop-phase : goal.invariant-loop-phase
invariant-loop-phase l = AreByPhaseBelow l.phase l.cells l.phases.items
