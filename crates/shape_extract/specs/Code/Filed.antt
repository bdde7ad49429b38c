-- Shapes by their kinds, listed in the kinds' stead.
use Rattle.std.specs.Prelude.{◌≡◌, ℕ, ◌<◌, ◌≤◌, List, length, slice_index}

-- the shape of this number is of one of these kinds
pub record IsOfKinds (places kinds : List ℕ) (n : ℕ) : Type 0 where
  pub within : n < length places
  pub place : ℕ
  pub among : place < length kinds
  pub kind_is : slice_index places n ≡ slice_index kinds place

-- the number is in the list, from this place on
pub record IsFromOn (from : ℕ) (numbers : List ℕ) (n : ℕ) : Type 0 where
  pub place : ℕ
  pub from_on : from ≤ place
  pub within : place < length numbers
  pub is_so : slice_index numbers place ≡ n

-- the shapes that come after shape n in its kind were added
pub record AddsRest (places : List ℕ) (n : ℕ) (old new : List ℕ) : Type 0 where
  pub longer : length old ≤ length new
  pub kept : (k : ℕ) → k < length old → slice_index new k ≡ slice_index old k
  pub within : (k : ℕ) → length old ≤ k → k < length new → slice_index new k < length places
  pub of_kind : (k : ℕ) → length old ≤ k → k < length new
      → slice_index places (slice_index new k) ≡ slice_index places n
  pub all : (m : ℕ) → n < m → m < length places → slice_index places m ≡ slice_index places n
      → IsFromOn (length old) new m

-- the first shape of each of these kinds, and behind them the others of the kinds
pub record ListsMembers (numbers places kinds found : List ℕ) : Type 0 where
  pub longer : length kinds ≤ length found
  pub firsts : (k : ℕ) → k < length kinds → slice_index found k ≡ slice_index numbers (slice_index kinds k)
  pub each : (k : ℕ) → k < length found → IsOfKinds places kinds (slice_index found k)
  pub complete : (n : ℕ) → IsOfKinds places kinds n → IsFromOn 0 found n
