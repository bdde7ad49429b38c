-- The outline of a chip: the least rectangle that holds the frames of all its cells.
use Rattle.std.specs.Prelude.{◌≡◌, ℕ, true, List, All, Option, Some, None, fold, filter}
use Rattle.std.specs.Int.{int_min, int_max}
use Rattle.geom.specs.declared.shapes.Shape.{Shape}
use Rattle.geom.specs.Rectangle.{Rectangle, width, height, within}
use Rattle.layout_rules.specs.Layers.{is_frame}

-- the least rectangle that holds both
abbrev pub joined : Rectangle → Rectangle → Rectangle
joined a b = record { x0 = int_min a.x0 b.x0; y0 = int_min a.y0 b.y0; x1 = int_max a.x1 b.x1; y1 = int_max a.y1 b.y1 }

-- the least rectangle that holds the shape, and the rectangle if there is one
abbrev pub holding : Option Rectangle → Shape → Option Rectangle
holding None s = Some s.rect
holding (Some r) s = Some (joined r s.rect)

-- the least rectangle that holds all frames; there is none without frames
abbrev pub outline : List Shape → Option Rectangle
outline shapes = fold holding None (filter is_frame shapes)

-- the rectangle holds all these frames, and lies within each that does
pub record IsLeastHolding (frames : List Shape) (r : Rectangle) : Type 0 where
  pub holds : All (λ frame. within frame.rect r ≡ true) frames
  pub least : (s : Rectangle) → All (λ frame. within frame.rect s ≡ true) frames → within r s ≡ true

-- a side of the rectangle, or 0 where there is none
abbrev pub side : (Rectangle → ℕ) → Option Rectangle → ℕ
side of None = 0
side of (Some r) = of r

-- how wide and how high the chip is, in nanometres
abbrev pub chip_width : List Shape → ℕ
chip_width shapes = side width (outline shapes)

abbrev pub chip_height : List Shape → ℕ
chip_height shapes = side height (outline shapes)
