-- The lower left corners of the frames with the frames' numbers, by which cells are put into their order.
use Rattle.std.specs.Prelude.{◌≡◌, ℕ, true, List, map, Some, slice_get}
use Rattle.geom.specs.declared.shapes.Shape.{Shape}
use Rattle.layout_rules.specs.Layers.{is_frame}
use Rattle.shape_extract.specs.declared.circuits.frames.Corner.{Corner}

-- the lower left corner of the frame of number f
abbrev pub corner_of : Shape → ℕ → Corner
corner_of frame f = record { y = frame.rect.y0; x = frame.rect.x0; number = f }

-- the corner is that of the frame of its number
pub record IsCorner (shapes : List Shape) (corner : Corner) : Type 0 where
  pub frame : Shape
  pub frame_is : slice_get shapes corner.number ≡ Some frame
  pub frame_so : is_frame frame ≡ true
  pub corner_is : corner ≡ corner_of frame corner.number

-- the frame of this number has a corner among these
pub record HasCorner (shapes : List Shape) (corners : List Corner) (f : ℕ) (frame : Shape) : Type 0 where
  pub place : ℕ
  pub there : slice_get corners place ≡ Some (corner_of frame f)

-- the corners of the frames, each once
pub record AreCorners (shapes : List Shape) (corners : List Corner) : Type 0 where
  pub each : (f : ℕ) (frame : Shape) → slice_get shapes f ≡ Some frame → is_frame frame ≡ true
      → HasCorner shapes corners f frame
  pub only : (k : ℕ) (corner : Corner) → slice_get corners k ≡ Some corner → IsCorner shapes corner
  pub once : (k l : ℕ) (c d : Corner) → slice_get corners k ≡ Some c → slice_get corners l ≡ Some d
      → c.number ≡ d.number → k ≡ l

-- the numbers of the frames with these corners
abbrev pub numbers_of : List Corner → List ℕ
numbers_of corners = map (λ corner. corner.number) corners

-- the frame at a place has that place
abbrev pub ArePlaces : List ℕ → List ℕ → Type 0
ArePlaces frames places = (c f : ℕ) → slice_get frames c ≡ Some f → slice_get places f ≡ Some c
