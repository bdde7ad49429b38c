use Rattle.std.proofs.lemmas.Result.{err_from_is_err_and}
use Rattle.cell_library.specs.Library.{limits_of}
use Rattle.aqfp_top.proofs.judge.judge_filed.Goals as goal

pub returns-in_err-circuit-clause-bad : goal.returns-in_err-circuit-clause-bad
returns-in_err-circuit-clause-bad c =
    let p = err_from_is_err_and c.from_residual.result c.from_residual.ensures.1 in
    rw (p.1, p.2) (c.in_err-circuit.ensures.bad (limits_of c.args.cells.now))
