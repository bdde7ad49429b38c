use Rattle.std.proofs.Common.{◌≡◌, ◌∙◌, ◌-◌, sym, ap, subst, rules, arith, Some, ℤ, w64, to_z, of_z}
use Rattle.std.proofs.lemmas.Int.{to_z-of_z}
use Rattle.text_report.specs.Code.Heights.{BelongsTo}
use Rattle.shape_extract.proofs.RowEdges.{row_found}
use Rattle.text_report.proofs.Heights.{row_found_at, row_missed_at}
use Rattle.text_report.proofs.edges.row_at.Goals as goal

pub returns-in-Ok-clause-row : goal.returns-in-Ok-clause-row
returns-in-Ok-clause-row c row belongs =
    let same : to_z w64 (of_z w64 c.args.y) ≡ c.args.y = search (rules, to_z-of_z) in
    row_found_at c.args.edges.now c.args.y c.in-Ok.row row c.requires
    (row_found _ _ _ c.in-Ok.ensures.bound c.in-Ok.ensures.ok ∙ ap (λ (y : ℤ). Some y) same) belongs

pub returns-in-Err-clause-row : goal.returns-in-Err-clause-row
returns-in-Err-clause-row c row belongs =
    let same : to_z w64 (of_z w64 c.args.y) ≡ c.args.y = search (rules, to_z-of_z) in
    let one : c.in-Err.above - 1 ≡ row =
    row_missed_at c.args.edges.now (to_z w64 (of_z w64 c.args.y)) c.in-Err.above row c.requires
    c.in-Err.ensures.bound c.in-Err.ensures.position
    (subst (BelongsTo c.args.edges.now row) (sym same) belongs) in
    omega (arith, c.saturating_sub.ensures, one)
