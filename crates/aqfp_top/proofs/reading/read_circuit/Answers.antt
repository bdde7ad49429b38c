use Rattle.std.proofs.lemmas.Result.{err_from_is_err_and}
use Rattle.aqfp_top.proofs.OneStream.{one_layout}
use Rattle.aqfp_top.proofs.Judging.{is_read, layout_answers, cells_answer, broken_faults, circuit_answers}
use Rattle.aqfp_top.proofs.Judging.{circuits_made, circuit_is_well}
use Rattle.aqfp_top.proofs.reading.read_circuit.Goals as goal

pub returns-in_err-layout-clause-bad : goal.returns-in_err-layout-clause-bad
returns-in_err-layout-clause-bad c =
    let bad = layout_answers c.args.gds.items c.deref.result.now c.args.lib.now c.in_err-layout.field-0.0
    c.deref.ensures.value c.in_err-layout.ensures.bad in
    let p = err_from_is_err_and c.from_residual.result c.from_residual.ensures.1 in
    rw (p.1, p.2) bad

pub returns-in_err-cells-clause-bad : goal.returns-in_err-cells-clause-bad
returns-in_err-cells-clause-bad c =
    let layout = c.in_ok-layout.layout in
    let is = is_read c.args.gds.items c.deref.result.now layout c.deref.ensures.value c.in_ok-layout.ensures.layout
    c.in_ok-layout.ensures.stream c.in_ok-layout.ensures.size in
    let bad = cells_answer c.args.gds.items c.args.lib.now layout c.in_err-cells.field-0.0 is
    c.in_err-cells.ensures.bad in
    let p = err_from_is_err_and c.from_residual-in_err-cells.result c.from_residual-in_err-cells.ensures.1 in
    rw (p.1, p.2) bad

pub returns-clause-ok : goal.returns-clause-ok
returns-clause-ok c =
    let layout = c.in_ok-layout.layout in
    let is = is_read c.args.gds.items c.deref.result.now layout c.deref.ensures.value c.in_ok-layout.ensures.layout
    c.in_ok-layout.ensures.stream c.in_ok-layout.ensures.size in
    circuits_made c.args.gds.items c.args.lib.now layout _ c.circuit_of.result is
    c.in_ok-cells.ensures.ok c.circuit_of.ensures.ok

pub returns-clause-well : goal.returns-clause-well
returns-clause-well c =
    let layout = c.in_ok-layout.layout in
    let is = is_read c.args.gds.items c.deref.result.now layout c.deref.ensures.value c.in_ok-layout.ensures.layout
    c.in_ok-layout.ensures.stream c.in_ok-layout.ensures.size in
    circuit_is_well (one_layout c.one_wide_reading.ensures.layout) c.args.gds.items c.args.lib.now layout _
    c.circuit_of.result is c.in_ok-cells.ensures.ok c.circuit_of.ensures.ok

pub returns-clause-bad : goal.returns-clause-bad
returns-clause-bad c =
    let layout = c.in_ok-layout.layout in
    let is = is_read c.args.gds.items c.deref.result.now layout c.deref.ensures.value c.in_ok-layout.ensures.layout
    c.in_ok-layout.ensures.stream c.in_ok-layout.ensures.size in
    circuit_answers c.args.gds.items c.args.lib.now layout _ c.circuit_of.result is
    c.in_ok-cells.ensures.ok c.circuit_of.ensures.bad

pub returns-clause-only : goal.returns-clause-only
returns-clause-only c = broken_faults _ _ c.circuit_of.result c.circuit_of.ensures.bad
