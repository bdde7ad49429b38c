use Rattle.std.proofs.Common.{List, subst, rules, length}
use Rattle.rowed.specs.declared.row_cell.RowCell.{RowCell}
use Rattle.repeater_rows.proofs.Counted.{counted_lowest, over_lowest, counted_channel, past_channel, counted_all, IsFit}
use Rattle.repeater_rows.proofs.Counted.{IsOver}
use Rattle.repeater_rows.proofs.counting.check_cells.Goals as goal

pub returns-in_err-cells-clause-err : goal.returns-in_err-cells-clause-err
returns-in_err-cells-clause-err c =
    let all = over_lowest c.args.reach c.args.net.now c.requires.known c.in_err-cells.field-0.0
    (subst (λ (row : List RowCell). IsOver 0 (length row) c.in_err-cells.field-0.0) c.cells_at.ensures
    c.in_err-cells.ensures.err) in
    search (rules, all)

pub loop-number-init : goal.loop-number-init
loop-number-init c = counted_lowest c.args.reach c.args.net.now c.requires.known _
    (subst (λ (row : List RowCell). IsFit 0 (length row) c.in_ok-cells.cells) c.cells_at.ensures
    c.in_ok-cells.ensures.ok)

pub returns-in_err-cells-2-clause-err : goal.returns-in_err-cells-2-clause-err
returns-in_err-cells-2-clause-err c =
    let all = past_channel c.args.reach c.args.net.now c.requires.known _ _ c.loop-number.invariant (search rules)
    c.in_err-cells-2.field-0.0 c.in_err-cells-2.ensures.err in
    search (rules, all)

pub loop-number-preserved : goal.loop-number-preserved
loop-number-preserved c = counted_channel c.args.reach c.args.net.now c.requires.known _ _ c.loop-number.invariant
    (search rules) _ c.in_ok-cells-2.ensures.ok

pub returns-clause-few : goal.returns-clause-few
returns-clause-few c = counted_all c.args.reach c.args.net.now c.requires.known _ _ c.loop-number.invariant
    (search rules)
