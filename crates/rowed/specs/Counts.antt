-- How many cells stand in rows, the number of each, and how many wires end at them.
use Rattle.std.specs.Prelude.{◌≡◌, ℕ, ◌+◌, ◌<◌, List, [], ◌∷◌, length, take, Option, Some, None}
use Rattle.rowed.specs.declared.source.Source.{Source}
use Rattle.rowed.specs.declared.row_cell.RowCell.{RowCell}
use Rattle.rowed.specs.RowNets.{row_at}

-- the cells of all rows
abbrev pub cells_in : List (List RowCell) → ℕ
cells_in [] = 0
cells_in (row ∷ rows) = length row + cells_in rows

-- the number of the cell at a place of row r, where cells are numbered row by row: the cells of the rows before, and
-- the place
abbrev pub cell_number : List (List RowCell) → ℕ → ℕ → ℕ
cell_number rows r place = cells_in (take r rows) + place

-- the row and the place of the cell of a number
pub record IsCellAt (rows : List (List RowCell)) (number : ℕ) : Type 0 where
  pub row : ℕ
  pub place : ℕ
  pub within : place < length (row_at rows row)
  pub number_is : number ≡ cell_number rows row place

-- 1 for a pin with a source
abbrev pub fed : Option Source → ℕ
fed None = 0
fed (Some s) = 1

-- the fed pins of a cell
abbrev pub cell_feeds : RowCell → ℕ
cell_feeds c = fed c.source0 + fed c.source1 + fed c.source2

-- the fed pins of a row, each of which has a wire
abbrev pub row_feeds : List RowCell → ℕ
row_feeds [] = 0
row_feeds (c ∷ cells) = cell_feeds c + row_feeds cells

-- the wires of all channels
abbrev pub wires_in : List (List RowCell) → ℕ
wires_in [] = 0
wires_in (row ∷ rows) = row_feeds row + wires_in rows
