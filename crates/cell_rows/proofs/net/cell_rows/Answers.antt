use Rattle.cell_rows.proofs.Made.{cells_are}
use Rattle.cell_rows.proofs.net.cell_rows.Goals as goal

pub plan_of-requires-clause-cells : goal.plan_of-requires-clause-cells
plan_of-requires-clause-cells c =
    cells_are c.args.net.now c.in_ok-table.table.gates.items c.args.three c.args.cells.now.levels
    c.in_ok-table.table.used.items c.in_ok-table.table.shown.items c.args.cells.now.last c.known.ensures
    c.in_ok-table.ensures c.requires

pub planned-requires-clause-cells : goal.planned-requires-clause-cells
planned-requires-clause-cells c =
    cells_are c.args.net.now c.in_ok-table.table.gates.items c.args.three c.args.cells.now.levels
    c.in_ok-table.table.used.items c.in_ok-table.table.shown.items c.args.cells.now.last c.known.ensures
    c.in_ok-table.ensures c.requires
