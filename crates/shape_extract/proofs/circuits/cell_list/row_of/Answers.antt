use Rattle.std.proofs.Common.{◌≡◌, ◌∙◌, ◌≤◌, ap, rules, arith, length, Some, ℤ, w64, to_z, of_z}
use Rattle.std.specs.Prelude.{slice_get}
use Rattle.std.proofs.lemmas.Int.{to_z-of_z}
use Rattle.std.proofs.lemmas.Option.{slice_get_within}
use Rattle.shape_extract.proofs.CellLists.{row_there, row_fits}
use Rattle.shape_extract.proofs.Each.{item_read}
use Rattle.shape_extract.proofs.circuits.cell_list.row_of.Goals as goal

pub overflow_cast-result : goal.overflow_cast-result
overflow_cast-result c =
    let got = item_read c.as_slice.ensures (slice_get_within _ _ _ c.requires.frame.shape_is) c.index-as_slice-f.is in
    let same : to_z w64 (of_z w64 c.lower_edge.result) ≡ c.lower_edge.result = search (rules, to_z-of_z) in
    let at : slice_get c.args.edges.now c.row_at.result ≡ Some c.index-as_slice-f.result.rect.y0 = c.row_at.ensures
    ∙ ap (λ (y : ℤ). Some y) (same ∙ c.lower_edge.ensures) in
    let small : c.row_at.result ≤ length c.args.tables.now.flat.now.shapes =
    row_fits _ _ c.requires.rows c.args.f c.index-as_slice-f.result got c.requires.frame c.row_at.result at in
    omega arith

pub returns : goal.returns
returns c =
    let got = item_read c.as_slice.ensures (slice_get_within _ _ _ c.requires.frame.shape_is) c.index-as_slice-f.is in
    let same : to_z w64 (of_z w64 c.lower_edge.result) ≡ c.lower_edge.result = search (rules, to_z-of_z) in
    let at : slice_get c.args.edges.now c.row_at.result ≡ Some c.index-as_slice-f.result.rect.y0 = c.row_at.ensures
    ∙ ap (λ (y : ℤ). Some y) (same ∙ c.lower_edge.ensures) in
    row_there _ _ c.requires.rows c.args.f c.index-as_slice-f.result got c.requires.frame c.row_at.result at
