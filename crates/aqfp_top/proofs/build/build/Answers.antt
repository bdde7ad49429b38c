use Rattle.std.proofs.Common.{refl}
use Rattle.std.proofs.lemmas.Result.{err_from_is_err_and}
use Rattle.text_answers.specs.Counts.{counts_text}
use Rattle.aqfp_top.specs.Words.{spelled}
use Rattle.aqfp_top.specs.declared.words.Form.TheVariants.{Make}
use Rattle.aqfp_top.proofs.Steps.{build_only}
use Rattle.aqfp_top.proofs.Storing.{stores_shut}
use Rattle.aqfp_top.proofs.Running.{store_runs, stored_runs}
use Rattle.aqfp_top.proofs.build.build.Goals as goal

pub returns-in_err-store-clause-shut : goal.returns-in_err-store-clause-shut
returns-in_err-store-clause-shut g c = stores_shut _ _ _ _ _ c.in_err-store.ensures

pub returns-clause-only : goal.returns-clause-only
returns-clause-only g c =
    let counts = c.in_ok-chip.chip.counts in
    build_only c.args.planner (counts_text counts.rows counts.cells counts.wires) (g.O.Sink.output c.args.out.now)
    (g.O.Sink.output c.put_counts.new.out) c.put_counts.result c.put_counts.ensures

pub returns-clause-shut : goal.returns-clause-shut
returns-clause-shut g c = stores_shut _ _ _ _ _ c.in_ok-store.ensures

pub returns-in_err-chip-clause-runs : goal.returns-in_err-chip-clause-runs
returns-in_err-chip-clause-runs g c =
    let runs = c.in_err-chip.ensures.refuses (g.O.Sink.output c.args.out.now) in
    let p = err_from_is_err_and c.from_residual.result c.from_residual.ensures.1 in
    rw (p.1, p.2) runs

pub returns-in_err-store-clause-runs : goal.returns-in_err-store-clause-runs
returns-in_err-store-clause-runs g c =
    let runs = store_runs (Make c.args.planner) (g.F.Files.outside c.args.files.now).history
    (g.F.Files.outside c.make.new.files) (g.F.Files.outside c.store.new.files) (spelled c.args.words.now) _ _ _
    (g.O.Sink.output c.args.out.now) c.in_err-store.field-0.0
    c.in_ok-chip.ensures.reads c.word.ensures c.in_err-store.ensures in
    let p = err_from_is_err_and c.from_residual-in_err-store.result c.from_residual-in_err-store.ensures.1 in
    rw (p.1, p.2) runs

pub returns-clause-runs : goal.returns-clause-runs
returns-clause-runs g c =
    stored_runs (Make c.args.planner) _ (g.F.Files.outside c.make.new.files) _ (spelled c.args.words.now) _ _ _ _ _ _ _
    c.put_counts.result c.in_ok-chip.ensures.reads c.word.ensures c.in_ok-store.ensures refl c.put_counts.ensures
