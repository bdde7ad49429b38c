use Rattle.std.proofs.lemmas.Result.{err_from_is_err_and}
use Rattle.aqfp_top.proofs.OneStream.{one_layout}
use Rattle.aqfp_top.specs.Shown.{AreShapes}
use Rattle.aqfp_top.proofs.Judging.{is_read}
use Rattle.aqfp_top.proofs.Printing.{layout_prints}
use Rattle.aqfp_top.proofs.ShowingShapes.{layout_answers, shown_answers, shown_prints, shown_only}
use Rattle.aqfp_top.proofs.shapes.show.Goals as goal

pub returns-in_err-layout-clause-answer : goal.returns-in_err-layout-clause-answer
returns-in_err-layout-clause-answer g c =
    let bad = layout_answers c.args.gds.items c.deref.result.now c.args.first c.args.second c.in_err-layout.field-0.0
    c.deref.ensures.value c.in_err-layout.ensures.bad in
    let p = err_from_is_err_and c.from_residual.result c.from_residual.ensures.1 in
    rw (p.1, p.2) bad

pub returns-in_err-layout-clause-prints : goal.returns-in_err-layout-clause-prints
returns-in_err-layout-clause-prints g c =
    let none = layout_prints (AreShapes c.args.gds.items c.args.first c.args.second)
    (g.O.Sink.output c.args.out.now) c.in_err-layout.field-0.0 c.in_err-layout.ensures.only in
    let p = err_from_is_err_and c.from_residual.result c.from_residual.ensures.1 in
    rw (p.1, p.2) none

pub returns-clause-answer : goal.returns-clause-answer
returns-clause-answer g c =
    let layout = c.in_ok-layout.layout in
    let is = is_read c.args.gds.items c.deref.result.now layout c.deref.ensures.value c.in_ok-layout.ensures.layout
    c.in_ok-layout.ensures.stream c.in_ok-layout.ensures.size in
    shown_answers (one_layout c.one_wide_reading.ensures.layout) c.args.gds.items layout c.args.first c.args.second _
    _ c.show_layout.result is
    c.show_layout.ensures.prints c.show_layout.ensures.bad

pub returns-clause-prints : goal.returns-clause-prints
returns-clause-prints g c =
    let layout = c.in_ok-layout.layout in
    let is = is_read c.args.gds.items c.deref.result.now layout c.deref.ensures.value c.in_ok-layout.ensures.layout
    c.in_ok-layout.ensures.stream c.in_ok-layout.ensures.size in
    shown_prints c.args.gds.items layout c.args.first c.args.second _ _ _ is c.show_layout.ensures.prints

pub returns-clause-only : goal.returns-clause-only
returns-clause-only g c = shown_only _ c.args.first c.args.second c.show_layout.result c.show_layout.ensures.bad
