use Rattle.std.proofs.Common.{sym, subst}
use Rattle.aqfp_top.specs.Code.Printing.{PrintsText}
use Rattle.text_report.specs.ReportText.{report_text}
use Rattle.aqfp_top.proofs.OutEnds.{ends_text}
use Rattle.aqfp_top.proofs.chip_report.print.Goals as goal

pub returns : goal.returns
returns g c near far places =
    let text = report_text c.args.chip.now.flat c.args.chip.now.circuit near far c.args.cells.now.limit in
    subst (PrintsText text (g.O.Sink.output c.args.out.now) (g.O.Sink.output c.print_report-printed.new.out))
    (sym c.out_end.ensures)
    (ends_text text _ _ c.print_report-printed.result (c.print_report-printed.ensures.added near far places)
    (c.print_report-printed.ensures.part near far places))
