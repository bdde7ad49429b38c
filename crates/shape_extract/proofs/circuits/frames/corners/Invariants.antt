use Rattle.shape_extract.proofs.CornerLists.{CornersBelow}
use Rattle.shape_extract.proofs.circuits.frames.corners.Given as goal

abbrev pub invariant-loop-number : goal.invariant-loop-number
invariant-loop-number l = CornersBelow l.number l.shapes l.corners.items
