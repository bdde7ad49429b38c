-- Rows that are few enough for 32 bits to number the cells of each.
use Rattle.std.specs.Prelude.{◌≤◌, ◌^◌, List}
use Rattle.rowed.specs.declared.row_cell.RowCell.{RowCell}
use Rattle.rowed.specs.Counts.{cells_in}

-- at most 2^32 cells
abbrev pub HasFew : List (List RowCell) → Type 0
HasFew rows = cells_in rows ≤ 2 ^ 32
