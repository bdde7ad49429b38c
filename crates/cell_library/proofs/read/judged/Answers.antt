use Rattle.std.proofs.lemmas.Result.{err_from_is_err_and}
use Rattle.toml.specs.View.{table_view}
use Rattle.cell_library.specs.Code.Stages.{IsDraftOf}
use Rattle.cell_library.proofs.Judged.{refused_early}
use Rattle.cell_library.proofs.read.judged.Goals as goal

pub returns-in_err-draft : goal.returns-in_err-draft
returns-in_err-draft c =
    let refused = err_from_is_err_and c.from_residual.result c.from_residual.ensures.1 in
    rw (refused.1, refused.2)
    (refused_early (table_view c.args.table.now)
    (IsDraftOf (table_view c.args.table.now)) c.in_err-draft.field-0.0 c.in_err-draft.ensures)
