use Rattle.shape_extract.proofs.PinFrameLists.{NumbersTo, IsFrameNumber}
use Rattle.shape_extract.proofs.tables.pin_frames.pin_frames.Given as goal

abbrev pub invariant-loop-p : goal.invariant-loop-p
invariant-loop-p l = NumbersTo (IsFrameNumber l.shapes) l.p l.frames.items
