-- The lower edges of the frames as numbers are read from shapes, sorted, and each kept once.
use Rattle.std.specs.Prelude.{◌≡◌, ℕ, suc, ◌<◌, true, List, length, slice_get, Some, ℤ, int_lt}
use Rattle.geom.specs.declared.shapes.Shape.{Shape}
use Rattle.layout_rules.specs.Layers.{is_frame}

-- some frame has this lower edge
pub record IsEdge (shapes : List Shape) (y : ℤ) : Type 0 where
  pub number : ℕ
  pub frame : Shape
  pub frame_is : slice_get shapes number ≡ Some frame
  pub frame_so : is_frame frame ≡ true
  pub edge_is : frame.rect.y0 ≡ y

-- the number is one of the list's
abbrev pub IsAmong : List ℤ → ℤ → Type 0
IsAmong numbers y = (k : ℕ) × (slice_get numbers k ≡ Some y)

-- the lower edges of the frames, in any order and as often as you like
pub record AreEdges (shapes : List Shape) (edges : List ℤ) : Type 0 where
  pub each : (f : ℕ) (frame : Shape) → slice_get shapes f ≡ Some frame → is_frame frame ≡ true
      → IsAmong edges frame.rect.y0
  pub only : (y : ℤ) → IsAmong edges y → IsEdge shapes y

-- each number is less than all after it
abbrev pub Rises : List ℤ → Type 0
Rises edges = (i j : ℕ) (y z : ℤ) → slice_get edges i ≡ Some y → slice_get edges j ≡ Some z → i < j → int_lt y z ≡ true

-- the same numbers, rising
pub record AreDistinct (numbers distinct : List ℤ) : Type 0 where
  pub rising : Rises distinct
  pub each : (y : ℤ) → IsAmong numbers y → IsAmong distinct y
  pub only : (y : ℤ) → IsAmong distinct y → IsAmong numbers y

-- the last number of the list is this one
pub record EndsWith (numbers : List ℤ) (y : ℤ) : Type 0 where
  pub place : ℕ
  pub last : suc place ≡ length numbers
  pub number_is : slice_get numbers place ≡ Some y
