use Rattle.aqfp_top.specs.Words.{spelled}
use Rattle.aqfp_top.proofs.Running.{report_runs}
use Rattle.aqfp_top.proofs.Reporting.{report_only}
use Rattle.aqfp_top.proofs.chip_report.report.Goals as goal

pub returns-clause-only : goal.returns-clause-only
returns-clause-only g c = report_only c.report_texts.result c.report_texts.ensures.only

pub returns-clause-runs : goal.returns-clause-runs
returns-clause-runs g c =
    let texts = c.in_ok-texts.texts in
    report_runs _ _ (spelled c.args.words.now) texts.first.items texts.lib.items c.deref.result.now _ _
    c.report_texts.result c.in_ok-texts.ensures.history c.in_ok-texts.ensures.first_fits
    c.in_ok-texts.ensures.lib_fits c.deref.ensures.value c.report_texts.ensures.answer c.report_texts.ensures.only
    c.report_texts.ensures.prints
