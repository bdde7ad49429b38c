use Rattle.text_report.proofs.FirstReport.{report_computes, frame_computes, start_computes, label_computes}
use Rattle.text_report.proofs.laws.first_chip_report.Goals as goal

pub returns-clause-report : goal.returns-clause-report
returns-clause-report c = report_computes

pub returns-clause-frame : goal.returns-clause-frame
returns-clause-frame c = frame_computes

pub returns-clause-start : goal.returns-clause-start
returns-clause-start c = start_computes

pub returns-clause-label : goal.returns-clause-label
returns-clause-label c = label_computes
