use Rattle.std.proofs.Common.{◌∙◌, sym}
use Rattle.cell_rows.specs.Code.Laying.{view_of}
use Rattle.cell_rows.proofs.Made.{row_is, laid_room}
use Rattle.cell_rows.proofs.Laid.{rows_name, rows_cell}
use Rattle.cell_rows.proofs.net.lay_one.Goals as goal

pub returns-then-name : goal.returns-then-name
returns-then-name c =
    rows_name (view_of c.args.cells.now) c.args.cells.now.levels.now.levels c.args.cells.now.levels.now.last c.args.j
    c.args.rows.now (sym c.is_name_at-name.ensures ∙ c.if-name.true) c.requires.rows

pub row_cell-cell-requires-clause-no_name : goal.row_cell-cell-requires-clause-no_name
row_cell-cell-requires-clause-no_name c = sym c.is_name_at-name.ensures ∙ c.if-name.false

pub put-requires : goal.put-requires
put-requires c =
    laid_room (view_of c.args.cells.now) c.args.cells.now.levels.now.levels c.args.cells.now.levels.now.last c.args.j
    c.row_at-row.result c.args.rows.now
    (row_is c.requires.cells c.args.j c.row_at-row.result c.requires.j
    (sym c.is_name_at-name.ensures ∙ c.if-name.false) c.row_at-row.ensures)
    c.requires.rows

pub returns : goal.returns
returns c =
    let row = row_is c.requires.cells c.args.j c.row_at-row.result c.requires.j
    (sym c.is_name_at-name.ensures ∙ c.if-name.false) c.row_at-row.ensures in
    c.in_ok-put.ensures
    ∙ rows_cell (view_of c.args.cells.now) c.args.cells.now.levels.now.levels c.args.cells.now.levels.now.last c.args.j
    c.row_at-row.result c.row_cell-cell.result c.args.rows.now row.cell row.is row.low c.requires.rows
    c.row_cell-cell.ensures
