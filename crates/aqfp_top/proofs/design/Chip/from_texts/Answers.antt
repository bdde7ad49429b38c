use Rattle.std.proofs.lemmas.Result.{err_from_is_err_and}
use Rattle.aqfp_top.proofs.Designing.{cells_answer, plan_fault, plan_answers, design_is_well}
use Rattle.aqfp_top.proofs.design.Chip.from_texts.Goals as goal

pub returns-in_err-cells-clause-bad : goal.returns-in_err-cells-clause-bad
returns-in_err-cells-clause-bad c =
    let bad = cells_answer c.args.planner c.args.net.items c.args.lib.now _ c.in_err-cells.field-0.0
    c.in_ok-net.ensures.ok c.in_err-cells.ensures.bad in
    let p = err_from_is_err_and c.from_residual-in_err-cells.result c.from_residual-in_err-cells.ensures.1 in
    rw (p.1, p.2) bad

pub returns-in_err-chip-clause-bad : goal.returns-in_err-chip-clause-bad
returns-in_err-chip-clause-bad c =
    let bad = plan_answers c.args.planner c.args.net.items c.args.lib.now _ _ c.in_err-chip.field-0.0
    c.in_ok-net.ensures.ok c.in_ok-cells.ensures.ok c.in_err-chip.ensures.bad in
    let p = err_from_is_err_and c.from_residual-in_err-chip.result c.from_residual-in_err-chip.ensures.1 in
    rw (p.1, p.2) bad

pub returns-clause-well : goal.returns-clause-well
returns-clause-well c = design_is_well c.args.planner c.args.net.items c.args.lib.now _ _ c.in_ok-net.ensures.ok
    c.in_ok-cells.ensures.ok c.in_ok-chip.ensures.passes

pub returns-in_err-chip-clause-only : goal.returns-in_err-chip-clause-only
returns-in_err-chip-clause-only c =
    let only = plan_fault c.args.planner _ _ c.in_err-chip.field-0.0 c.in_err-chip.ensures.bad in
    let p = err_from_is_err_and c.from_residual-in_err-chip.result c.from_residual-in_err-chip.ensures.1 in
    rw (p.1, p.2) only
