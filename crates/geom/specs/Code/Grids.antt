-- Grids of an index over rectangles: each rectangle stands in the cell of its lower left corner, so where the corners
-- of near ones can be follows from how wide and high they are at most.
use Rattle.std.specs.Prelude.{◌≡◌, ℕ, ◌+◌, ◌-◌, ◌*◌, ◌/◌, ◌^◌, ◌≤◌, ◌-ℤ◌, min, List, length, slice_get, Some, All}
use Rattle.geom.specs.Rectangle.{Rectangle, positive_part}
use Rattle.geom.specs.declared.index.grid.Grid.{Grid}

-- the column of a corner this far right of the grid's left edge; the last one holds all that is further
abbrev pub column_at : Grid → ℕ → ℕ
column_at g offset = min (offset / 2 ^ g.shift_x) (g.columns - 1)

-- the row of a corner this far above the grid's lower edge
abbrev pub row_at : Grid → ℕ → ℕ
row_at g offset = min (offset / 2 ^ g.shift_y) (g.rows - 1)

-- cells are numbered row by row
abbrev pub cell_in : Grid → ℕ → ℕ → ℕ
cell_in g row column = g.first + row * g.columns + column

-- the cell of a rectangle's lower left corner
abbrev pub cell_of : Grid → Rectangle → ℕ
cell_of g r = cell_in g (row_at g (positive_part (r.y0 -ℤ g.bottom))) (column_at g (positive_part (r.x0 -ℤ g.left)))

-- the number after that of the grid's last cell
abbrev pub end_of : Grid → ℕ
end_of g = g.first + g.rows * g.columns

-- a rectangle of this width and height may stand in the grid
pub record Reaches (g : Grid) (wide high : ℕ) : Type 0 where
  pub in_x : wide ≤ g.reach_x
  pub in_y : high ≤ g.reach_y

-- the last grid is for every rectangle, and its cells are the last
pub record AreGrids (grids : List Grid) : Type 0 where
  pub last : Grid
  pub last_is : slice_get grids (length grids - 1) ≡ Some last
  pub all_wide : 2 ^ 64 ≤ last.reach_x + 1
  pub all_high : 2 ^ 64 ≤ last.reach_y + 1
  pub below : All (λ g. end_of g ≤ end_of last) grids
