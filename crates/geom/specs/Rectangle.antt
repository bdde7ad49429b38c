-- Rectangles with sides along the axes, in database units of one nanometre.
use Rattle.std.specs.Prelude.{◌≡◌, ℕ, List, slice_get, Some, Bool, max, ℤ, pos, negsuc, ◌<ℤ◌, ◌≤ℤ◌, ◌+ℤ◌, ◌-ℤ◌, int_le}
use Rattle.std.specs.Prelude.{int_lt, ◌&&◌}
use Rattle.std.specs.Int.{int_min, int_max}

-- what a contract sees of a rectangle: its lower left corner and its upper right corner
pub record Rectangle : Type 0 where
  pub x0 : ℤ
  pub y0 : ℤ
  pub x1 : ℤ
  pub y1 : ℤ

-- the width and the height are positive
pub record IsProper (r : Rectangle) : Type 0 where
  pub wide : r.x0 <ℤ r.x1
  pub high : r.y0 <ℤ r.y1

abbrev pub AreProper : List Rectangle → Type 0
AreProper rects = (n : ℕ) (r : Rectangle) → slice_get rects n ≡ Some r → IsProper r

-- the point lies in the rectangle, edges and corners counted
pub record HoldsPoint (r : Rectangle) (x y : ℤ) : Type 0 where
  pub right_of : r.x0 ≤ℤ x
  pub left_of : x ≤ℤ r.x1
  pub above : r.y0 ≤ℤ y
  pub below : y ≤ℤ r.y1

-- some point lies in both
pub record SharePoint (a b : Rectangle) : Type 0 where
  pub x : ℤ
  pub y : ℤ
  pub in_first : HoldsPoint a x y
  pub in_second : HoldsPoint b x y

-- the closed intervals of the two meet in x, and in y
abbrev pub share_x : Rectangle → Rectangle → Bool
share_x a b = int_le a.x0 b.x1 && int_le b.x0 a.x1

abbrev pub share_y : Rectangle → Rectangle → Bool
share_y a b = int_le a.y0 b.y1 && int_le b.y0 a.y1

-- the test for a shared point
abbrev pub share_point : Rectangle → Rectangle → Bool
share_point a b = share_x a b && share_y a b

-- the test for a point in a rectangle
abbrev pub holds_point : Rectangle → ℤ → ℤ → Bool
holds_point r x y = int_le r.x0 x && int_le x r.x1 && (int_le r.y0 y && int_le y r.y1)

-- the first lies within the second, edges counted
abbrev pub within : Rectangle → Rectangle → Bool
within a b = int_le b.x0 a.x0 && int_le a.x1 b.x1 && (int_le b.y0 a.y0 && int_le a.y1 b.y1)

-- the open intervals of the two meet in x, and in y
abbrev pub meet_x : Rectangle → Rectangle → Bool
meet_x a b = int_lt a.x0 b.x1 && int_lt b.x0 a.x1

abbrev pub meet_y : Rectangle → Rectangle → Bool
meet_y a b = int_lt a.y0 b.y1 && int_lt b.y0 a.y1

-- some point is inside both
abbrev pub overlap : Rectangle → Rectangle → Bool
overlap a b = meet_x a b && meet_y a b

-- a difference where it is positive, and otherwise 0
abbrev pub positive_part : ℤ → ℕ
positive_part (pos n) = n
positive_part (negsuc n) = 0

abbrev pub width : Rectangle → ℕ
width r = positive_part (r.x1 -ℤ r.x0)

abbrev pub height : Rectangle → ℕ
height r = positive_part (r.y1 -ℤ r.y0)

-- how far apart the two are in x, and in y
abbrev pub gap_x : Rectangle → Rectangle → ℕ
gap_x a b = max (positive_part (a.x0 -ℤ b.x1)) (positive_part (b.x0 -ℤ a.x1))

abbrev pub gap_y : Rectangle → Rectangle → ℕ
gap_y a b = max (positive_part (a.y0 -ℤ b.y1)) (positive_part (b.y0 -ℤ a.y1))

-- the rectangle grown by a margin on all sides
abbrev pub grown : ℕ → Rectangle → Rectangle
grown margin r =
    record { x0 = r.x0 -ℤ pos margin; y0 = r.y0 -ℤ pos margin; x1 = r.x1 +ℤ pos margin; y1 = r.y1 +ℤ pos margin }

-- the rectangle moved by a vector
abbrev pub moved : ℤ → ℤ → Rectangle → Rectangle
moved x y r = record { x0 = r.x0 +ℤ x; y0 = r.y0 +ℤ y; x1 = r.x1 +ℤ x; y1 = r.y1 +ℤ y }

-- the left edge of a rectangle, which is one without width
abbrev pub left_edge : Rectangle → Rectangle
left_edge r = record { x0 = r.x0; y0 = r.y0; x1 = r.x0; y1 = r.y1 }

-- its right edge
abbrev pub right_edge : Rectangle → Rectangle
right_edge r = record { x0 = r.x1; y0 = r.y0; x1 = r.x1; y1 = r.y1 }

-- the rectangle that two have in common
abbrev pub common : Rectangle → Rectangle → Rectangle
common a b = record { x0 = int_max a.x0 b.x0; y0 = int_max a.y0 b.y0; x1 = int_min a.x1 b.x1; y1 = int_min a.y1 b.y1 }
