use Rattle.std.proofs.lemmas.Result.{err_from_is_err_and}
use Rattle.cell_library.specs.Library.{limits_of}
use Rattle.poly_cut.specs.FlatForm.{wide_flat}
use Rattle.aqfp_top.proofs.Judging.{few_shapes, is_judged, is_broken}
use Rattle.aqfp_top.proofs.judge.judged.Goals as goal

pub judge_shapes-requires : goal.judge_shapes-requires
judge_shapes-requires c = few_shapes c.count_is_exact.ensures c.args.layout c.in-Ok.flat c.requires c.in-Ok.ensures

pub returns-in_err-circuit-clause-bad : goal.returns-in_err-circuit-clause-bad
returns-in_err-circuit-clause-bad c =
    let limits = limits_of c.args.cells.now in
    let bad = is_broken c.in-Ok.flat (wide_flat c.args.layout) limits c.in_err-circuit.field-0.0 c.in-Ok.ensures
    c.in_err-circuit.ensures.bad in
    let p = err_from_is_err_and c.from_residual.result c.from_residual.ensures.1 in
    rw (p.1, p.2) bad

pub returns-clause-ok : goal.returns-clause-ok
returns-clause-ok c =
    is_judged c.in-Ok.flat (wide_flat c.args.layout)
    (limits_of c.args.cells.now) c.in_ok-circuit.circuit c.in-Ok.ensures
    (few_shapes c.count_is_exact.ensures c.args.layout c.in-Ok.flat c.requires c.in-Ok.ensures)
    c.in_ok-circuit.ensures.rules c.in_ok-circuit.ensures.circuit
