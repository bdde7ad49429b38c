use Rattle.shape_extract.specs.Code.LineWalk.{IsSpreadAlong}
use Rattle.shape_extract.proofs.lines.line_walk.spread.Given as goal

abbrev pub invariant-loop-number : goal.invariant-loop-number
invariant-loop-number l =
    IsSpreadAlong l.number-index l.shapes l.contacts l.fn.before l.fn.order.items l.before l.order.items
