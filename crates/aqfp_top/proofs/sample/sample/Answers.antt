use Rattle.std.proofs.lemmas.Result.{err_from_is_err_and}
use Rattle.aqfp_top.proofs.Running.{sample_runs, wrong_sample}
use Rattle.aqfp_top.proofs.sample.sample.Goals as goal

pub returns-clause-runs : goal.returns-clause-runs
returns-clause-runs g c =
    sample_runs c.args.bits c.in_ok-made.made _ _ c.print.result c.in_ok-made.ensures.well c.in_ok-made.ensures.ok
    c.print.ensures

pub returns-in_err-made-clause-runs : goal.returns-in_err-made-clause-runs
returns-in_err-made-clause-runs g c =
    let bad = wrong_sample c.args.bits (g.O.Sink.output c.args.out.now) c.in_err-made.field-0.0
    c.in_err-made.ensures.only c.in_err-made.ensures.bad in
    let p = err_from_is_err_and c.from_residual.result c.from_residual.ensures.1 in
    rw (p.1, p.2) bad
