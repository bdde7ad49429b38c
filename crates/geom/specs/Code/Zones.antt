-- How far a margin or a side reaches from a coordinate, in numbers of 64 bits.
use Rattle.std.specs.Prelude.{ℕ, ℤ, ◌-◌, ◌≤◌, ◌≤ℤ◌, ◌-ℤ◌, ◌↔◌, FitsSigned}
use Rattle.std.specs.Int.{w64}
use Rattle.geom.specs.Rectangle.{Rectangle, positive_part}

-- the numbers from this end on are those no further below the coordinate than the margin
pub record IsLowEnd (low at : ℤ) (margin : ℕ) : Type 0 where
  pub same : (x : ℤ) → FitsSigned w64 x → (low ≤ℤ x) ↔ (positive_part (at -ℤ x) ≤ margin)

-- the numbers up to this end are those no further above the coordinate than the margin
pub record IsHighEnd (high at : ℤ) (margin : ℕ) : Type 0 where
  pub same : (x : ℤ) → FitsSigned w64 x → (x ≤ℤ high) ↔ (positive_part (x -ℤ at) ≤ margin)

-- what is right of this is as much further right of the edge as the reach
pub record IsReached (reached edge : ℤ) (reach : ℕ) : Type 0 where
  pub past : (x : ℤ) → FitsSigned w64 x → positive_part (x -ℤ reached) ≤ positive_part (x -ℤ edge) - reach

-- the coordinates are numbers of 64 bits
pub record AreWords (r : Rectangle) : Type 0 where
  pub x0 : FitsSigned w64 r.x0
  pub y0 : FitsSigned w64 r.y0
  pub x1 : FitsSigned w64 r.x1
  pub y1 : FitsSigned w64 r.y1
