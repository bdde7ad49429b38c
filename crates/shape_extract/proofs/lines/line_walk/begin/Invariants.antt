use Rattle.shape_extract.proofs.LineRoutes.{IsBegunTo}
use Rattle.shape_extract.proofs.lines.line_walk.begin.Given as goal

abbrev pub invariant-loop-n : goal.invariant-loop-n
invariant-loop-n l = IsBegunTo l.n l.shapes l.before l.order.items
