use Rattle.shape_extract.proofs.SidedOrder.{SidedTo}
use Rattle.shape_extract.proofs.distinct_shapes.in_order.Given as goal

abbrev pub invariant-loop-number : goal.invariant-loop-number
invariant-loop-number l = SidedTo l.number l.shapes l.order.items
