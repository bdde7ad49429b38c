use Rattle.std.proofs.Common.{◌∙◌, sym}
use Rattle.shape_extract.proofs.Marked.{got_at}
use Rattle.shape_extract.proofs.BarSides.{not_come, enters_wrongly, crossed}
use Rattle.shape_extract.proofs.lines.crossed_bars.is_not_crossed.Goals as goal

pub returns-then-not-is_reached : goal.returns-then-not-is_reached
returns-then-not-is_reached c =
    not_come _ _ c.requires.lines c.requires.walked _ c.requires.within c.if-not-is_reached.ensures

pub returns-then-not-enters : goal.returns-then-not-enters
returns-then-not-enters c =
    enters_wrongly _ _ c.requires.lines c.requires.walked _ c.requires.within c.if-not-is_part.ensures
    c.if-not-is_reached.ensures c.index-shapes-a.result c.index-shapes-b.result
    (got_at _ _ _ (c.requires.walked.all _ c.if-not-is_reached.ensures) c.index-shapes-a.is)
    (got_at _ _ _ c.requires.within c.index-shapes-b.is) (sym c.enters.ensures ∙ c.if-not-enters.true)

pub returns : goal.returns
returns c =
    crossed _ _ c.requires.lines c.requires.walked _ c.requires.within c.if-not-is_part.ensures
    c.if-not-is_reached.ensures c.index-shapes-a.result c.index-shapes-b.result
    (got_at _ _ _ (c.requires.walked.all _ c.if-not-is_reached.ensures) c.index-shapes-a.is)
    (got_at _ _ _ c.requires.within c.index-shapes-b.is) (sym c.enters.ensures
    ∙ c.if-not-enters.false) _ c.goes_on_wrongly-wrong.ensures
