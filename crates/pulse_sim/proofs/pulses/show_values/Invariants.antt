use Rattle.pulse_sim.proofs.Readings.{AreShown}
use Rattle.pulse_sim.proofs.pulses.show_values.Given as goal

abbrev pub invariant-loop-place : goal.invariant-loop-place
invariant-loop-place l = AreShown l.place l.outputs l.fluxes l.into
