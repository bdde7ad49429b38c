use Rattle.shape_extract.proofs.RowEdges.{DistinctBelow}
use Rattle.shape_extract.proofs.tables.row_edges.distinct.Given as goal

abbrev pub invariant-loop-y : goal.invariant-loop-y
invariant-loop-y l = DistinctBelow l.y-index l.sorted l.numbers.items
