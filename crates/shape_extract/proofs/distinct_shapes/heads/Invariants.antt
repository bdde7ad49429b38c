use Rattle.shape_extract.proofs.LeastHeads.{HeadsTo}
use Rattle.shape_extract.proofs.distinct_shapes.heads.Given as goal

abbrev pub invariant-loop-place : goal.invariant-loop-place
invariant-loop-place l = HeadsTo l.place l.shapes l.order.items l.heads.items
