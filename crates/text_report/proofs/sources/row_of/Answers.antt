use Rattle.std.proofs.Common.{◌≡◌, ◌∙◌, sym, subst, rules, w64, to_z, of_z}
use Rattle.std.proofs.lemmas.Int.{to_z-of_z}
use Rattle.text_report.specs.Code.Heights.{BelongsTo}
use Rattle.text_report.proofs.sources.row_of.Goals as goal

pub returns : goal.returns
returns c row belongs =
    let same : to_z w64 (of_z w64 c.lower_edge.result) ≡ c.lower_edge.result = search (rules, to_z-of_z) in
    c.row_at.ensures.row row (subst (BelongsTo c.args.edges.now row) (sym (same ∙ c.lower_edge.ensures)) belongs)
