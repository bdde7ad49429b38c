use Rattle.std.proofs.Common.{◌≡◌, ◌<◌, ◌∙◌, sym, ap, subst, rules, arith, length, Some, ℤ, w64, to_z, of_z}
use Rattle.std.proofs.lemmas.Int.{to_z-of_z}
use Rattle.std.proofs.lemmas.Option.{slice_get_within}
use Rattle.shape_extract.specs.Code.Edges.{IsAmong}
use Rattle.shape_extract.proofs.Marked.{got_at}
use Rattle.shape_extract.proofs.PinFrames.{frame_edge, row_from}
use Rattle.shape_extract.proofs.tables.pin_rows.row_of_pin.Goals as goal

pub bounds-frames-p : goal.bounds-frames-p
bounds-frames-p c = (let lt : c.args.p < length c.args.shapes.now =
    slice_get_within _ _ _ c.requires.pin.shape_is in omega (arith, c.requires.frames.long))

pub bounds-shapes-f : goal.bounds-shapes-f
bounds-shapes-f c = (let lies = c.requires.frames.each c.args.p c.requires.pin in slice_get_within c.args.shapes.now _
    lies.frame lies.frame_is)

pub row_at-requires-clause-among : goal.row_at-requires-clause-among
row_at-requires-clause-among c =
    let lies = c.requires.frames.each c.args.p c.requires.pin in
    let same : to_z w64 (of_z w64 c.lower_edge.result) ≡ c.lower_edge.result = search (rules, to_z-of_z) in
    subst (IsAmong c.args.edges.now) (sym (same ∙ c.lower_edge.ensures))
    (frame_edge c.args.shapes.now c.args.edges.now c.requires.rows c.args.p _ lies c.index-shapes-f.result
    (got_at _ _ _ (slice_get_within c.args.shapes.now _ lies.frame lies.frame_is) c.index-shapes-f.is))

pub returns : goal.returns
returns c =
    let lies = c.requires.frames.each c.args.p c.requires.pin in
    let same : to_z w64 (of_z w64 c.lower_edge.result) ≡ c.lower_edge.result = search (rules, to_z-of_z) in
    row_from c.args.shapes.now c.args.edges.now c.requires.rows c.args.p _ lies c.index-shapes-f.result c.row_at.result
    (got_at _ _ _ (slice_get_within c.args.shapes.now _ lies.frame lies.frame_is) c.index-shapes-f.is)
    (c.row_at.ensures ∙ ap (λ (y : ℤ). Some y) (same ∙ c.lower_edge.ensures))
