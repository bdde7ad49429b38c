-- How far a flat form reaches.
use Rattle.std.specs.Prelude.{ℕ, ◌*◌, ◌^◌, ℤ, pos, neg_ℤ, ◌≤ℤ◌}
use Rattle.geom.specs.Rectangle.{Rectangle}
use Rattle.geom.specs.declared.shapes.Shape.{Shape}
use Rattle.geom.specs.declared.shapes.Label.{Label}
use Rattle.poly_cut.specs.declared.layout.Point.{Point}

-- at most b in absolute value
abbrev pub IsAtMost : ℕ → ℤ → Type 0
IsAtMost b z = (neg_ℤ (pos b) ≤ℤ z) × (z ≤ℤ pos b)

-- each edge of a rectangle is
pub record IsWithin (b : ℕ) (r : Rectangle) : Type 0 where
  pub left : IsAtMost b r.x0
  pub bottom : IsAtMost b r.y0
  pub right : IsAtMost b r.x1
  pub above : IsAtMost b r.y1

-- so a shape
abbrev pub IsShapeWithin : ℕ → Shape → Type 0
IsShapeWithin b s = IsWithin b s.rect

-- and a label
abbrev pub IsLabelWithin : ℕ → Label → Type 0
IsLabelWithin b l = IsAtMost b l.x × IsAtMost b l.y

-- how far a structure reaches from which chains of fewer references than this go down
abbrev pub reach : ℕ → ℕ
reach depth = depth * 2 ^ 33

-- and a point
abbrev pub IsNear : ℕ → Point → Type 0
IsNear b p = IsAtMost b p.x × IsAtMost b p.y
