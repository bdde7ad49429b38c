-- What drawing a path's segments asks of them.
use Rattle.std.specs.Prelude.{◌≡◌, ◌≢◌, ◌⊎◌, ◌^◌, ℤ, pos, ◌<ℤ◌, ◌≤ℤ◌}
use Rattle.poly_cut.specs.declared.layout.Point.{Point}
use Rattle.poly_cut.specs.declared.strokes.Reach.{Reach}
use Rattle.poly_cut.specs.declared.strokes.Extent.{Extent}

-- at most half of the greatest width
abbrev pub IsHalfWidth : ℤ → Type 0
IsHalfWidth n = (pos 0 ≤ℤ n) × (n ≤ℤ pos (2 ^ 30))

-- how far a segment goes is short, and its width is not nothing
pub record IsReach (r : Reach) : Type 0 where
  pub some : pos 0 <ℤ r.half
  pub half : IsHalfWidth r.half
  pub under : IsHalfWidth r.under
  pub over : IsHalfWidth r.over

-- high is right of low or above it
pub record IsUpward (low high : Point) : Type 0 where
  pub right : low.x ≤ℤ high.x
  pub above : low.y ≤ℤ high.y
  pub apart : low.y ≡ high.y → low.x <ℤ high.x

-- along x alone, or along y alone, to another point
abbrev pub IsSegment : Point → Point → Type 0
IsSegment p q = ((p.x ≢ q.x) × (p.y ≡ q.y)) ⊎ ((p.x ≡ q.x) × (p.y ≢ q.y))

-- so with its ends named by the path's direction
pub record IsExtent (e : Extent) : Type 0 where
  pub some : pos 0 <ℤ e.half
  pub half : IsHalfWidth e.half
  pub before : IsHalfWidth e.before
  pub behind : IsHalfWidth e.behind
