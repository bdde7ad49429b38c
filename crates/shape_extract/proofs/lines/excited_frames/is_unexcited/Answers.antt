use Rattle.std.proofs.Common.{◌∙◌, sym}
use Rattle.shape_extract.proofs.Marked.{got_at}
use Rattle.shape_extract.proofs.ExcitedEach.{judged}
use Rattle.shape_extract.proofs.lines.excited_frames.is_unexcited.Goals as goal

pub returns : goal.returns
returns c = judged _ _ _ (got_at _ _ _ c.requires.within c.index-shapes-f.is) (sym c.is_frame.ensures
    ∙ c.if-not-is_frame.false) _ c.in_ok-excited.ensures
