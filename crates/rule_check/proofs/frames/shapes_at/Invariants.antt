use Rattle.rule_check.proofs.Geometry.{AreAtTo}
use Rattle.rule_check.proofs.frames.shapes_at.Given as goal

abbrev pub invariant-loop-number : goal.invariant-loop-number
invariant-loop-number l = AreAtTo l.number-index l.shapes l.numbers l.some.items
