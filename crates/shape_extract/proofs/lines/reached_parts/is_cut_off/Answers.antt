use Rattle.std.proofs.Common.{◌∙◌, sym}
use Rattle.shape_extract.proofs.Marked.{got_at}
use Rattle.shape_extract.proofs.LineReach.{cut_off, not_cut_off}
use Rattle.shape_extract.proofs.lines.reached_parts.is_cut_off.Goals as goal

pub returns : goal.returns
returns c = cut_off _ _ _ (got_at _ _ _ c.requires.within c.index-shapes-n.is) (sym c.is_line.ensures
    ∙ c.if-not-is_line.false) _ c.is_reached.ensures

pub returns-then-not-is_line : goal.returns-then-not-is_line
returns-then-not-is_line c = not_cut_off _ _ _ (got_at _ _ _ c.requires.within c.index-shapes-n.is)
    (sym c.is_line.ensures ∙ c.if-not-is_line.true)
