use Rattle.std.proofs.Common.{◌≡◌, ◌∙◌, sym, ap, subst, rules, Some, ℤ, w64, to_z, of_z}
use Rattle.std.proofs.lemmas.Int.{to_z-of_z}
use Rattle.shape_extract.specs.Code.Edges.{IsAmong}
use Rattle.shape_extract.proofs.RowEdges.{row_found, row_missed}
use Rattle.shape_extract.proofs.tables.row_edges.row_at.Goals as goal

pub returns-in-Ok : goal.returns-in-Ok
returns-in-Ok c =
    let same : to_z w64 (of_z w64 c.args.y) ≡ c.args.y = search (rules, to_z-of_z) in
    row_found _ _ _ c.in-Ok.ensures.bound c.in-Ok.ensures.ok ∙ ap (λ (y : ℤ). Some y) same

pub returns-in-Err : goal.returns-in-Err
returns-in-Err c =
    let same : to_z w64 (of_z w64 c.args.y) ≡ c.args.y = search (rules, to_z-of_z) in
    absurd (row_missed c.args.edges.now (to_z w64 (of_z w64 c.args.y)) c.in-Err.row c.requires.rising
    (subst (IsAmong c.args.edges.now) (sym same) c.requires.among) c.in-Err.ensures.position)
