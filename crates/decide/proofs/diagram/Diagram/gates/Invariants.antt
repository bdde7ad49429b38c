use Rattle.decide.proofs.Gating.{IsMaking}
use Rattle.decide.proofs.diagram.Diagram.gates.Given as goal

abbrev pub invariant-loop-gate : goal.invariant-loop-gate
invariant-loop-gate l = IsMaking l.fn.self.table.nodes.keys l.self.table.nodes.keys l.edges.items l.gates l.gate-index
