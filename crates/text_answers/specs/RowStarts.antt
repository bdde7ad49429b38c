-- Where a row's cells begin in the list of cells, which stand by rising row.
use Rattle.std.specs.Prelude.{◌≡◌, ◌≢◌, ℕ, ◌<◌, ◌≤◌, Bool, true, false, List, length, slice_get, Some}
use Rattle.circuit_extracted.specs.declared.cells.ExCell.{ExCell}

-- the cells before this number stand in lower rows, and the others in this row or above
pub record IsRowStart (cells : List ExCell) (row first : ℕ) : Type 0 where
  pub within : first ≤ length cells
  pub before : (c : ℕ) (cell : ExCell) → c < first → slice_get cells c ≡ Some cell → cell.row < row
  pub from : (c : ℕ) (cell : ExCell) → first ≤ c → slice_get cells c ≡ Some cell → row ≤ cell.row

-- the cell of this number stands in the row, or does not
abbrev pub StandsIn : List ExCell → ℕ → ℕ → Bool → Type 0
StandsIn cells number row true = (number < length cells)
    × ((cell : ExCell) → slice_get cells number ≡ Some cell → cell.row ≡ row)
StandsIn cells number row false = (cell : ExCell) → slice_get cells number ≡ Some cell → cell.row ≢ row
