use Rattle.std.proofs.Common.{◌≡◌, ◌∙◌, ℤ, Some, sym, ap, rules, w64, to_z, of_z}
use Rattle.std.proofs.lemmas.Int.{to_z-of_z}
use Rattle.layout_rules.specs.Rows.{row_of}
use Rattle.layout_rules.proofs.RowLaws.{row_of-certified}
use Rattle.shape_extract.proofs.Marked.{got_at}
use Rattle.shape_extract.proofs.ExcitedEach.{not_come_excites, excites_said, not_inside}
use Rattle.shape_extract.proofs.lines.excited_frames.excites.Goals as goal

pub returns-then-not-is_reached : goal.returns-then-not-is_reached
returns-then-not-is_reached c = not_come_excites _ _ c.requires.lines c.requires.walked _ c.requires.within
    c.args.frame.now c.if-not-is_reached.ensures

pub returns-then-is_within : goal.returns-then-is_within
returns-then-is_within c =
    let same : to_z w64 (of_z w64 c.lower_edge.result) ≡ c.lower_edge.result = search (rules, to_z-of_z) in
    let row_is : row_of c.args.shapes.now c.args.frame.now.rect.y0 ≡ c.row_at-row.result =
    row_of-certified c.args.shapes.now c.args.edges.now c.requires.rows c.row_at-row.result c.args.frame.now.rect.y0
    (c.row_at-row.ensures ∙ ap (λ (y : ℤ). Some y) (same ∙ c.lower_edge.ensures)) in
    excites_said c.args.shapes.now c.args.before.now c.requires.lines c.requires.walked c.args.b c.requires.within
    c.args.frame.now c.if-not-is_part.ensures c.if-not-is_reached.ensures
    c.index-shapes-before.result c.index-shapes-b.result
    (got_at _ _ _ (c.requires.walked.all _ c.if-not-is_reached.ensures) c.index-shapes-before.is)
    (got_at _ _ _ c.requires.within c.index-shapes-b.is)
    (sym c.is_within.ensures ∙ c.if-is_within.true) c.from.result c.row_at-row.result (c.from.ensures
    ∙ c.phase_of.ensures) row_is

pub returns-else-is_within : goal.returns-else-is_within
returns-else-is_within c =
    not_inside c.args.shapes.now c.args.before.now c.requires.lines c.requires.walked c.args.b c.requires.within
    c.args.frame.now c.if-not-is_part.ensures c.if-not-is_reached.ensures
    c.index-shapes-before.result c.index-shapes-b.result
    (got_at _ _ _ (c.requires.walked.all _ c.if-not-is_reached.ensures) c.index-shapes-before.is)
    (got_at _ _ _ c.requires.within c.index-shapes-b.is)
    c.is_within.result c.is_within.ensures c.if-is_within.false
