use Rattle.std.proofs.lemmas.Result.{err_from_is_err_and}
use Rattle.aqfp_top.proofs.Sampling.{planning_answers}
use Rattle.aqfp_top.proofs.sample.make.Goals as goal

pub returns-in_err-chip-clause-bad : goal.returns-in_err-chip-clause-bad
returns-in_err-chip-clause-bad c =
    let bad = planning_answers c.args.bits _ _ c.in_err-chip.field-0.0 c.in_ok-net.ensures.ok c.in-Ok.ensures
    c.in_err-chip.ensures.bad in
    let p = err_from_is_err_and c.from_residual-in_err-chip.result c.from_residual-in_err-chip.ensures.1 in
    rw (p.1, p.2) bad
