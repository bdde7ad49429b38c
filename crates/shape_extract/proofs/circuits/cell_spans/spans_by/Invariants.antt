use Rattle.shape_extract.proofs.FrameSpans.{AreSpansBelow}
use Rattle.shape_extract.proofs.circuits.cell_spans.spans_by.Given as goal

abbrev pub invariant-loop-place : goal.invariant-loop-place
invariant-loop-place l = AreSpansBelow l.place l.shapes l.frames.items l.spans.items
