-- What is kept of a ring.
use Rattle.std.specs.Prelude.{◌≡◌, ◌==◌, ℕ, List, false, length}
use Rattle.geom.specs.Rectangle.{Rectangle}
use Rattle.poly_cut.specs.declared.layout.Point.{Point}
use Rattle.poly_cut.specs.Cuts.{ring_cut}

-- the number of the rectangles into which the ring is cut, and these where some are kept
pub record IsKept (ring : List Point) (count : ℕ) (kept : List Rectangle) : Type 0 where
  pub counted : count ≡ length (ring_cut ring)
  pub same : (length kept == 0) ≡ false → kept ≡ ring_cut ring
