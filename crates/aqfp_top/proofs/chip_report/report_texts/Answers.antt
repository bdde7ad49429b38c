use Rattle.std.proofs.lemmas.Result.{err_from_is_err_and}
use Rattle.std.proofs.Common.{[], Err}
use Rattle.text_report.specs.ReportText.{report_text}
use Rattle.aqfp_top.specs.Due.{circuit_stages}
use Rattle.aqfp_top.specs.declared.judge.JudgedChip.{JudgedChip}
use Rattle.aqfp_top.proofs.OneStream.{one_layout}
use Rattle.aqfp_top.specs.Reported.{IsReport}
use Rattle.aqfp_top.proofs.Judging.{is_read, layout_answers, cells_answer, cells_fault, broken_fault, circuit_answers}
use Rattle.aqfp_top.proofs.OutEnds.{text_only}
use Rattle.aqfp_top.proofs.Printing.{circuit_prints, layout_prints, text_prints, out_answers}
use Rattle.aqfp_top.proofs.Reporting.{is_report, chip_is_well, out_printing}
use Rattle.aqfp_top.proofs.chip_report.report_texts.Goals as goal

pub returns-in_err-layout-clause-answer : goal.returns-in_err-layout-clause-answer
returns-in_err-layout-clause-answer g c =
    let bad = layout_answers c.args.gds.items c.deref.result.now c.args.lib.now c.in_err-layout.field-0.0
    c.deref.ensures.value c.in_err-layout.ensures.bad [] in
    let p = err_from_is_err_and c.from_residual.result c.from_residual.ensures.1 in
    rw (p.1, p.2) bad

pub returns-in_err-layout-clause-prints : goal.returns-in_err-layout-clause-prints
returns-in_err-layout-clause-prints g c =
    let none = layout_prints (IsReport c.args.gds.items c.args.lib.now)
    (g.O.Sink.output c.args.out.now) c.in_err-layout.field-0.0 c.in_err-layout.ensures.only in
    let p = err_from_is_err_and c.from_residual.result c.from_residual.ensures.1 in
    rw (p.1, p.2) none

pub returns-in_err-cells-clause-answer : goal.returns-in_err-cells-clause-answer
returns-in_err-cells-clause-answer g c =
    let layout = c.in_ok-layout.layout in
    let is = is_read c.args.gds.items c.deref.result.now layout c.deref.ensures.value c.in_ok-layout.ensures.layout
    c.in_ok-layout.ensures.stream c.in_ok-layout.ensures.size in
    let bad = cells_answer c.args.gds.items c.args.lib.now layout c.in_err-cells.field-0.0 is
    c.in_err-cells.ensures.bad [] in
    let p = err_from_is_err_and c.from_residual-in_err-cells.result c.from_residual-in_err-cells.ensures.1 in
    rw (p.1, p.2) bad

pub returns-in_err-cells-clause-prints : goal.returns-in_err-cells-clause-prints
returns-in_err-cells-clause-prints g c =
    let wrong = cells_fault c.args.lib.now c.in_err-cells.field-0.0 c.in_err-cells.ensures.bad in
    let none = circuit_prints (IsReport c.args.gds.items c.args.lib.now)
    (g.O.Sink.output c.args.out.now) c.in_err-cells.field-0.0 wrong in
    let p = err_from_is_err_and c.from_residual-in_err-cells.result c.from_residual-in_err-cells.ensures.1 in
    rw (p.1, p.2) none

pub returns-in_err-chip-clause-answer : goal.returns-in_err-chip-clause-answer
returns-in_err-chip-clause-answer g c =
    let layout = c.in_ok-layout.layout in
    let is = is_read c.args.gds.items c.deref.result.now layout c.deref.ensures.value c.in_ok-layout.ensures.layout
    c.in_ok-layout.ensures.stream c.in_ok-layout.ensures.size in
    let bad = circuit_answers {A = JudgedChip} c.args.gds.items c.args.lib.now layout _
    (Err c.in_err-chip.field-0.0) is c.in_ok-cells.ensures.ok c.in_err-chip.ensures.bad [] in
    let p = err_from_is_err_and c.from_residual-in_err-chip.result c.from_residual-in_err-chip.ensures.1 in
    rw (p.1, p.2) bad

pub returns-in_err-chip-clause-prints : goal.returns-in_err-chip-clause-prints
returns-in_err-chip-clause-prints g c =
    let wrong = broken_fault _ _ c.in_err-chip.field-0.0 c.in_err-chip.ensures.bad in
    let none = circuit_prints (IsReport c.args.gds.items c.args.lib.now)
    (g.O.Sink.output c.args.out.now) c.in_err-chip.field-0.0 wrong in
    let p = err_from_is_err_and c.from_residual-in_err-chip.result c.from_residual-in_err-chip.ensures.1 in
    rw (p.1, p.2) none

pub returns-clause-answer : goal.returns-clause-answer
returns-clause-answer g c =
    let layout = c.in_ok-layout.layout in
    let is = is_read c.args.gds.items c.deref.result.now layout c.deref.ensures.value c.in_ok-layout.ensures.layout
    c.in_ok-layout.ensures.stream c.in_ok-layout.ensures.size in
    let well = chip_is_well (one_layout c.one_wide_reading.ensures.layout) c.args.gds.items c.args.lib.now layout _
    c.in_ok-chip.chip is c.in_ok-cells.ensures.ok c.in_ok-chip.ensures.ok in
    let p = c.cells_have_places.ensures.some c.in_ok-chip.chip.flat c.in_ok-chip.chip.circuit
    c.in_ok-chip.ensures.ok.keeps.extracts.circuit_is in
    out_answers (circuit_stages c.args.gds.items c.args.lib.now) c.print.result well
    (text_only (report_text c.in_ok-chip.chip.flat c.in_ok-chip.chip.circuit p.0 p.1 c.in_ok-cells.cells.limit)
    (g.O.Sink.output c.args.out.now) (g.O.Sink.output c.print.new.out) c.print.result (c.print.ensures p.0 p.1 p.2))

pub returns-clause-prints : goal.returns-clause-prints
returns-clause-prints g c =
    let layout = c.in_ok-layout.layout in
    let is = is_read c.args.gds.items c.deref.result.now layout c.deref.ensures.value c.in_ok-layout.ensures.layout
    c.in_ok-layout.ensures.stream c.in_ok-layout.ensures.size in
    let p = c.cells_have_places.ensures.some c.in_ok-chip.chip.flat c.in_ok-chip.chip.circuit
    c.in_ok-chip.ensures.ok.keeps.extracts.circuit_is in
    let report = is_report c.args.gds.items c.args.lib.now layout _ c.in_ok-chip.chip is c.in_ok-cells.ensures.ok
    c.in_ok-chip.ensures.ok p.0 p.1 p.2 in
    text_prints (IsReport c.args.gds.items c.args.lib.now) _ _ _ c.print.result report (c.print.ensures p.0 p.1 p.2)

pub returns-clause-only : goal.returns-clause-only
returns-clause-only g c =
    let p = c.cells_have_places.ensures.some c.in_ok-chip.chip.flat c.in_ok-chip.chip.circuit
    c.in_ok-chip.ensures.ok.keeps.extracts.circuit_is in
    out_printing (report_text c.in_ok-chip.chip.flat c.in_ok-chip.chip.circuit p.0 p.1 c.in_ok-cells.cells.limit)
    (g.O.Sink.output c.args.out.now) (g.O.Sink.output c.print.new.out) c.print.result (c.print.ensures p.0 p.1 p.2)
