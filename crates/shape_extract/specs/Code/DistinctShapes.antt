-- Equal shapes brought together, and the least number of each kind.
use Rattle.std.specs.Prelude.{◌≡◌, ◌≢◌, ℕ, ◌<◌, ◌≤◌, List, length, Some, slice_get, slice_index}
use Rattle.geom.specs.declared.shapes.Shape.{Shape}
use Rattle.shape_extract.specs.Distinct.{IsFirst}
use Rattle.shape_extract.specs.declared.distinct_shapes.Sided.{Sided}

-- the shape of number n as equal ones are brought together
abbrev pub sided_of : Shape → ℕ → Sided
sided_of s n = record {
  x0 = s.rect.x0;
  y0 = s.rect.y0;
  x1 = s.rect.x1;
  y1 = s.rect.y1;
  layer = s.layer;
  datatype = s.datatype;
  number = n;
}

-- the shape of this number has a place in the order
pub record HasTurn (order : List Sided) (n : ℕ) : Type 0 where
  pub place : ℕ
  pub sided : Sided
  pub there : slice_get order place ≡ Some sided
  pub number_is : sided.number ≡ n

-- the shapes of these two are equal
abbrev pub AreAlike : List Shape → Sided → Sided → Type 0
AreAlike shapes s t = slice_get shapes s.number ≡ slice_get shapes t.number

-- all shapes, equal ones one after the other by rising number
pub record AreInOrder (shapes : List Shape) (order : List Sided) : Type 0 where
  pub within : (k : ℕ) (s : Sided) → slice_get order k ≡ Some s → s.number < length shapes
  pub all : (n : ℕ) → n < length shapes → HasTurn order n
  pub together : (i j k : ℕ) (r s t : Sided) → i < j → j < k → slice_get order i ≡ Some r → slice_get order j ≡ Some s
      → slice_get order k ≡ Some t → AreAlike shapes r t → AreAlike shapes s t
  pub rising : (i j : ℕ) (s t : Sided) → i ≤ j → slice_get order i ≡ Some s → slice_get order j ≡ Some t
      → AreAlike shapes s t → s.number ≤ t.number

-- for each shape the number of an equal one that is not above its own
pub record AreHeads (shapes : List Shape) (heads : List ℕ) : Type 0 where
  pub long : length heads ≡ length shapes
  pub not_above : (n : ℕ) → n < length shapes → slice_index heads n ≤ n
  pub alike : (n : ℕ) → n < length shapes → slice_get shapes (slice_index heads n) ≡ slice_get shapes n

-- no shape that is equal to the one of number n has a number below the head's
abbrev pub IsLeastHead : List Shape → List ℕ → ℕ → Type 0
IsLeastHead shapes heads n = (m : ℕ) → m < length shapes → slice_get shapes m ≡ slice_get shapes n
    → slice_index heads n ≤ m

-- the head of the one before is the least, and the shape of number n is equal to that one or the first of its kind
pub record GoesOn (shapes : List Shape) (heads : List ℕ) (before n : ℕ) : Type 0 where
  pub least : IsLeastHead shapes heads before
  pub first : slice_get shapes before ≢ slice_get shapes n → IsFirst shapes n

-- the heads are the least numbers of equal shapes
abbrev pub AreLeast : List Shape → List ℕ → Type 0
AreLeast shapes heads = (n : ℕ) → n < length shapes → IsLeastHead shapes heads n

-- these numbers are their own heads
abbrev pub AreOwn : List ℕ → List ℕ → Type 0
AreOwn heads numbers = (k : ℕ) → k < length numbers
    → slice_index heads (slice_index numbers k) ≡ slice_index numbers k
