use Rattle.std.proofs.Common.{◌∙◌, sym}
use Rattle.shape_extract.proofs.Marked.{got_at}
use Rattle.shape_extract.proofs.JoinedParts.{misjoined, no_line}
use Rattle.shape_extract.proofs.lines.line_parts.is_misjoined.Goals as goal

pub returns : goal.returns
returns c = misjoined _ _ _ (got_at _ _ _ c.requires.within c.index-shapes-n.is) (sym c.is_line.ensures
    ∙ c.if-not-is_line.false) _ c.has_its_contacts-joined.ensures

pub returns-then-not-is_line : goal.returns-then-not-is_line
returns-then-not-is_line c = no_line _ _ _ (got_at _ _ _ c.requires.within c.index-shapes-n.is)
    (sym c.is_line.ensures ∙ c.if-not-is_line.true)
