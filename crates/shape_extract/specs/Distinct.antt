-- Shapes without their repetitions: of equal ones the first stands for all.
use Rattle.std.specs.Prelude.{◌≡◌, ◌≢◌, ℕ, ◌<◌, ◌≤◌, List, [], ◌∷◌, length, Option, Some}
use Rattle.std.specs.Prelude.{None, slice_get, slice_index}
use Rattle.geom.specs.declared.shapes.Shape.{Shape}

-- no shape that is equal to the one of number n has a lower number
abbrev pub IsFirst : List Shape → ℕ → Type 0
IsFirst shapes n = (m : ℕ) → m < n → slice_get shapes m ≢ slice_get shapes n

-- these are the shapes of these numbers
pub record AreAt (shapes : List Shape) (numbers : List ℕ) (some : List Shape) : Type 0 where
  pub long : length some ≡ length numbers
  pub each : (k : ℕ) → k < length numbers → slice_get some k ≡ slice_get shapes (slice_index numbers k)

-- the shape where there is one, and then the others
abbrev pub with_first : Option Shape → List Shape → List Shape
with_first None rest = rest
with_first (Some s) rest = s ∷ rest

-- the shapes of these numbers; a number of none is passed over
unfoldable pub kinds_at : List Shape → List ℕ → List Shape
kinds_at shapes [] = []
kinds_at shapes (n ∷ ns) = with_first (slice_get shapes n) (kinds_at shapes ns)

-- the number at this place is of an equal shape and not above this one
pub record StandsFor (shapes : List Shape) (numbers : List ℕ) (n place : ℕ) : Type 0 where
  pub within : place < length numbers
  pub not_above : slice_index numbers place ≤ n
  pub alike : slice_get shapes (slice_index numbers place) ≡ slice_get shapes n

-- rising numbers, and for each shape the place among them of one that stands for it, which for those is their own
pub record ArePlaces (shapes : List Shape) (numbers places : List ℕ) : Type 0 where
  pub below : (k : ℕ) → k < length numbers → slice_index numbers k < length shapes
  pub rising : (j k : ℕ) → j < k → k < length numbers → slice_index numbers j < slice_index numbers k
  pub own : (k : ℕ) → k < length numbers → slice_index places (slice_index numbers k) ≡ k
  pub few : length numbers ≤ length shapes
  pub long : length places ≡ length shapes
  pub each : (n : ℕ) → n < length shapes → StandsFor shapes numbers n (slice_index places n)

-- a shape that is equal to the one of this number and has no greater number is among those of the numbers
pub record HasStandIn (shapes : List Shape) (numbers : List ℕ) (n : ℕ) : Type 0 where
  pub place : ℕ
  pub within : place < length numbers
  pub not_above : slice_index numbers place ≤ n
  pub alike : slice_get shapes (slice_index numbers place) ≡ slice_get shapes n

-- the shapes of rising numbers, of which each is the first of its kind, and stands for all that are equal to it
pub record IsDistinct (shapes : List Shape) (numbers : List ℕ) (some : List Shape) : Type 0 where
  pub those : AreAt shapes numbers some
  pub within : (k : ℕ) → k < length numbers → slice_index numbers k < length shapes
  pub rising : (j k : ℕ) → j < k → k < length numbers → slice_index numbers j < slice_index numbers k
  pub first : (k : ℕ) → k < length numbers → IsFirst shapes (slice_index numbers k)
  pub all : (n : ℕ) → n < length shapes → HasStandIn shapes numbers n
