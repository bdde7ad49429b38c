-- Where the lower left corners of near rectangles can be in a grid.
use Rattle.std.specs.Prelude.{ℕ, ◌<◌, ◌≤◌, ◌-ℤ◌}
use Rattle.geom.specs.Rectangle.{Rectangle, positive_part, width, height}
use Rattle.geom.specs.Near.{IsClose}
use Rattle.geom.specs.Code.Grids.{column_at, row_at, Reaches}
use Rattle.geom.specs.Code.Zones.{AreWords}
use Rattle.geom.specs.declared.index.grid.Grid.{Grid}
use Rattle.geom.specs.declared.index.grid.Window.{Window}

-- the corner of this rectangle stands in the window
pub record StandsIn (g : Grid) (w : Window) (r : Rectangle) : Type 0 where
  pub from_left : w.left ≤ column_at g (positive_part (r.x0 -ℤ g.left))
  pub to_right : column_at g (positive_part (r.x0 -ℤ g.left)) ≤ w.right
  pub from_low : w.low ≤ row_at g (positive_part (r.y0 -ℤ g.bottom))
  pub to_high : row_at g (positive_part (r.y0 -ℤ g.bottom)) ≤ w.high

-- the window lies in the grid, and so do the corners of close ones in the window
pub record IsWindow (g : Grid) (rect : Rectangle) (margin : ℕ) (w : Window) : Type 0 where
  pub left_within : w.left < g.columns
  pub right_within : w.right < g.columns
  pub high_within : w.high < g.rows
  pub holds : (r : Rectangle) → AreWords r → IsClose rect r margin → Reaches g (width r) (height r) → StandsIn g w r
