-- Planes of shapes: what lies in each, and how it is filed.
use Rattle.std.specs.Prelude.{◌≡◌, ℕ, ◌<◌, Bool, true, List, length, slice_get, slice_index, Some, Contains}
use Rattle.std.specs.List.Sorted.{IsStrictlyIncreasing}
use Rattle.geom.specs.Rectangle.{Rectangle, IsProper}
use Rattle.geom.specs.Near.{AreRectsAt, IsClose}
use Rattle.geom.specs.declared.shapes.Shape.{Shape}
use Rattle.layout_rules.specs.Layers.{is_frame, is_line, is_lower, is_pin, is_upper, is_via}
use Rattle.shape_extract.specs.declared.planes.Plane.{Plane}
use Rattle.shape_extract.specs.declared.planes.Plane.TheVariants.{Lower, Vias, Upper, Frames, Lines, Pins}
use Rattle.shape_extract.specs.declared.planes.FiledPlane.{FiledPlane}
use Rattle.shape_extract.specs.declared.planes.Planes.{Planes}
use Rattle.shape_extract.specs.Searches.{AreThose}
use Rattle.shape_extract.specs.Passing.{PassesIn}

-- the shape lies in the plane
abbrev pub in_plane : Plane → Shape → Bool
in_plane Lower s = is_lower s
in_plane Vias s = is_via s
in_plane Upper s = is_upper s
in_plane Frames s = is_frame s
in_plane Lines s = is_line s
in_plane Pins s = is_pin s

-- the numbers are those of the shapes in the plane, and the index is over their rectangles
pub record IsPlane (plane : Plane) (shapes : List Shape) (filed : FiledPlane) : Type 0 where
  pub those : AreThose (PassesIn (in_plane plane) shapes) filed.numbers.items
  pub index : AreRectsAt shapes filed.numbers.items filed.index

-- the shapes are filed by planes
pub record ArePlanes (shapes : List Shape) (planes : Planes) : Type 0 where
  pub lower : IsPlane Lower shapes planes.lower
  pub vias : IsPlane Vias shapes planes.vias
  pub upper : IsPlane Upper shapes planes.upper
  pub frames : IsPlane Frames shapes planes.frames
  pub lines : IsPlane Lines shapes planes.lines
  pub pins : IsPlane Pins shapes planes.pins

-- in the stead of each of these that is a place there is the number at it
pub record AreNamed (numbers places named : List ℕ) : Type 0 where
  pub long : length named ≡ length places
  pub each : (k : ℕ) → k < length places → slice_index places k < length numbers
      → slice_index named k ≡ slice_index numbers (slice_index places k)

-- the shape of number n lies in the plane, no further than the margin
pub record IsNearIn (plane : Plane) (shapes : List Shape) (rect : Rectangle) (margin n : ℕ) : Type 0 where
  pub shape : Shape
  pub shape_is : slice_get shapes n ≡ Some shape
  pub in_it : in_plane plane shape ≡ true
  pub close : IsClose rect shape.rect margin

-- the numbers, rising, of the shapes in the plane that are no further than the margin; all in the plane are proper
pub record AreNearIn (plane : Plane) (shapes : List Shape) (rect : Rectangle) (margin : ℕ) (found : List ℕ)
    : Type 0 where
  pub within : (k : ℕ) → k < length found → slice_index found k < length shapes
  pub each : (k : ℕ) → k < length found → IsNearIn plane shapes rect margin (slice_index found k)
  pub rising : IsStrictlyIncreasing found
  pub proper : (n : ℕ) (s : Shape) → slice_get shapes n ≡ Some s → in_plane plane s ≡ true → IsProper s.rect
  pub complete : (n : ℕ) (s : Shape) → slice_get shapes n ≡ Some s → in_plane plane s ≡ true
      → IsClose rect s.rect margin → Contains found n
