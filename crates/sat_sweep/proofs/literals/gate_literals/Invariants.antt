use Rattle.sat_sweep.proofs.Making.{IsMaking}
use Rattle.sat_sweep.proofs.literals.gate_literals.Given as goal

abbrev pub invariant-loop-gate : goal.invariant-loop-gate
invariant-loop-gate l = IsMaking l.fn.graph l.graph l.literals.items l.gates l.gate-index
