-- How far the excitation has run where it comes to the parts of its line, as the walk adds it up.
use Rattle.std.specs.Prelude.{◌≡◌, ℕ, ◌+◌, ◌*◌, ◌^◌, ◌<◌, ◌≤◌, ◌⊎◌, true, List, length, slice_get, slice_index}
use Rattle.std.specs.Prelude.{Some}
use Rattle.geom.specs.Rectangle.{width, overlap}
use Rattle.geom.specs.declared.shapes.Shape.{Shape}
use Rattle.layout_rules.specs.declared.layers.TheConstants.{BAR, START}
use Rattle.layout_rules.specs.ExcitationLines.{IsPart}
use Rattle.layout_rules.specs.LinePlaces.{way_at, way_into, ComesTo}
use Rattle.shape_extract.specs.declared.circuits.cell_spans.Span.{Span}

-- a start is where it begins; it comes to another part when it has run through the one before
abbrev pub IsWayTo : List Shape → List ℕ → List ℕ → ℕ → ℕ → Type 0
IsWayTo shapes before ways n way = (IsPart shapes START n × (way ≡ 0))
    ⊎ ((IsPart shapes START n → ⊥)
    × (way ≡ slice_index ways (slice_index before n) + way_at shapes (slice_index before n)))

-- it begins at the shape of this number, or comes to it when it has run its way
abbrev pub HasWay : List Shape → List ℕ → List ℕ → ℕ → Type 0
HasWay shapes before ways n = (IsPart shapes START n × (slice_index ways n ≡ 0))
    ⊎ ComesTo shapes (slice_index before n) n (slice_index ways n)

-- each part that is reached has its way, and no way is so long that it can't be added to
pub record AreWays (shapes : List Shape) (before ways : List ℕ) : Type 0 where
  pub long : length ways ≡ length shapes
  pub come : (n : ℕ) → n < length shapes → slice_index before n < length shapes → HasWay shapes before ways n
  pub small : (n : ℕ) → slice_index ways n < 2 ^ 127

-- the first i shapes of the order have their ways
pub record AreWaysBelow (i : ℕ) (shapes : List Shape) (before order ways : List ℕ) : Type 0 where
  pub long : length ways ≡ length shapes
  pub come : (p : ℕ) → p < i → HasWay shapes before ways (slice_index order p)
  pub small : (n : ℕ) → slice_index ways n ≤ i * 2 ^ 64

-- this bar, which the walk reached, lies over the frame of this number
pub record IsUnder (shapes : List Shape) (before : List ℕ) (f bar : ℕ) : Type 0 where
  pub is_bar : IsPart shapes BAR bar
  pub over : (frame : Shape) → slice_get shapes f ≡ Some frame → overlap is_bar.shape.rect frame.rect ≡ true
  pub within : bar < length shapes
  pub reached : slice_index before bar < length shapes

-- the span of a frame by the bar over it
pub record IsSpanUnder (shapes : List Shape) (before ways : List ℕ) (bar : ℕ) (frame : Shape) (span : Span)
    : Type 0 where
  pub before_shape : Shape
  pub before_is : slice_get shapes (slice_index before bar) ≡ Some before_shape
  pub bar_shape : Shape
  pub bar_is : slice_get shapes bar ≡ Some bar_shape
  pub near_is : span.near ≡ slice_index ways bar + way_into before_shape bar_shape frame
  pub far_is : span.far ≡ span.near + width frame.rect
