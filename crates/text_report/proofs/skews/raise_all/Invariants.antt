use Rattle.std.proofs.Common.{length}
use Rattle.shape_extract.specs.CellPlaces.{near_at, far_at}
use Rattle.text_report.proofs.Skewed.{AreSkewsBelow}
use Rattle.text_report.proofs.skews.raise_all.Given as goal

abbrev pub invariant-loop-c : goal.invariant-loop-c
invariant-loop-c l = AreSkewsBelow l.c (length l.fn.skews) (near_at l.spans) (far_at l.spans) l.cells l.skews
