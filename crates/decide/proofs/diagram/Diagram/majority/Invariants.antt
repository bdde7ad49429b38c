use Rattle.decide.specs.Code.Turns.{turns_left}
use Rattle.decide.proofs.Turning.{IsRun}
use Rattle.decide.proofs.diagram.Diagram.majority.Given as goal

abbrev pub invariant-loop-turn : goal.invariant-loop-turn
invariant-loop-turn l = IsRun l.fn.self.table.nodes.keys l.self.table.nodes.keys l.stack.items l.turn l.fn.operands

abbrev pub decreases-loop-turn : goal.decreases-loop-turn
decreases-loop-turn l = turns_left l.self.table.nodes.keys l.stack.items l.turn
