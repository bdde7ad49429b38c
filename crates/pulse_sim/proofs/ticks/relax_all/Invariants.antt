use Rattle.pulse_sim.specs.Code.Steps.{AreRelaxed}
use Rattle.pulse_sim.proofs.ticks.relax_all.Given as goal

abbrev pub invariant-loop-number : goal.invariant-loop-number
invariant-loop-number l = AreRelaxed l.numbers l.number-index l.fn.fluxes l.fluxes
