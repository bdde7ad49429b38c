-- The row in which a pin's cell stands, where the pin lies in one frame.
use Rattle.std.specs.Prelude.{◌≡◌, ℕ, List}
use Rattle.geom.specs.declared.shapes.Shape.{Shape}
use Rattle.layout_rules.specs.Rows.{row_of}
use Rattle.layout_rules.specs.Pins.{LiesIn}

-- the pin lies in a frame of this row
pub record IsRowOf (shapes : List Shape) (p row : ℕ) : Type 0 where
  pub frame : ℕ
  pub lies : LiesIn shapes p frame
  pub row_is : row_of shapes lies.frame.rect.y0 ≡ row
