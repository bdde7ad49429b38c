-- Which rectangles of a list are near one: no further from it than a margin, in x and in y.
use Rattle.std.specs.Prelude.{◌≡◌, ℕ, ◌<◌, ◌≤◌, List, length, map, slice_get, slice_index, Some, All, Contains}
use Rattle.std.specs.List.Sorted.{IsStrictlyIncreasing}
use Rattle.geom.specs.Rectangle.{Rectangle, gap_x, gap_y}
use Rattle.geom.specs.declared.shapes.Shape.{Shape}

-- the rectangles of shapes, in their order
abbrev pub rects_of : List Shape → List Rectangle
rects_of shapes = map (λ s. s.rect) shapes

-- these are the rectangles of the shapes of these numbers, in the order of the numbers
pub record AreRectsAt (shapes : List Shape) (numbers : List ℕ) (rects : List Rectangle) : Type 0 where
  pub long : length rects ≡ length numbers
  pub each : (k : ℕ) (s : Shape) → k < length numbers → slice_get shapes (slice_index numbers k) ≡ Some s
      → slice_get rects k ≡ Some s.rect

-- the gap between the two is at most the margin, in x and in y
pub record IsClose (rect other : Rectangle) (margin : ℕ) : Type 0 where
  pub in_x : gap_x rect other ≤ margin
  pub in_y : gap_y rect other ≤ margin

-- the rectangle of this number is close
pub record IsNear (rects : List Rectangle) (rect : Rectangle) (margin n : ℕ) : Type 0 where
  pub other : Rectangle
  pub other_is : slice_get rects n ≡ Some other
  pub close : IsClose rect other margin

-- the numbers are those of all near ones, rising
pub record AreNear (rects : List Rectangle) (rect : Rectangle) (margin : ℕ) (numbers : List ℕ) : Type 0 where
  pub each : All (IsNear rects rect margin) numbers
  pub complete : (n : ℕ) → IsNear rects rect margin n → Contains numbers n
  pub rising : IsStrictlyIncreasing numbers
