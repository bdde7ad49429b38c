-- The walk along excitation lines from their starts, breadth first: for each shape the one from which it was reached, a
-- start being reached from itself and the number of no shape meaning not yet; and the reached shapes in the order in
-- which they were reached.
use Rattle.std.specs.Prelude.{◌≡◌, ◌≢◌, ℕ, ◌+◌, ◌*◌, ◌<◌, ◌≤◌, ◌⊎◌, List, length, slice_index, sum}
use Rattle.geom.specs.declared.shapes.Shape.{Shape}
use Rattle.layout_rules.specs.declared.layers.TheConstants.{START}
use Rattle.layout_rules.specs.ExcitationLines.{Contact, IsPart}

-- the shape at this place of the order is a contact of the one from which it was reached, which stands earlier
pub record Follows (shapes : List Shape) (before order : List ℕ) (p : ℕ) : Type 0 where
  pub earlier : ℕ
  pub is_earlier : earlier < p
  pub number_is : slice_index order earlier ≡ slice_index before (slice_index order p)
  pub contact : Contact shapes (slice_index order earlier) (slice_index order p)

-- the reached shapes have each one place in the order, and each is a start or follows another
pub record IsLineWalk (shapes : List Shape) (before order : List ℕ) : Type 0 where
  pub long : length before ≡ length shapes
  pub within : (p : ℕ) → p < length order → slice_index order p < length shapes
  pub reached : (p : ℕ) → p < length order → slice_index before (slice_index order p) < length shapes
  pub placed : (k : ℕ) → k < length shapes → slice_index before k < length shapes
      → (p : ℕ) × ((p < length order) × (slice_index order p ≡ k))
  pub once : (p q : ℕ) → p < q → q < length order → slice_index order p ≢ slice_index order q
  pub come : (p : ℕ) → p < length order → IsPart shapes START (slice_index order p) ⊎ Follows shapes before order p

-- the starts are reached
abbrev pub HasStarts : List Shape → List ℕ → Type 0
HasStarts shapes before = (i : ℕ) → IsPart shapes START i → slice_index before i < length shapes

-- the contacts of the first shapes of the order are reached
abbrev pub HasContacts : List Shape → List ℕ → List ℕ → ℕ → Type 0
HasContacts shapes before order done = (p j : ℕ) → p < done → Contact shapes (slice_index order p) j
    → slice_index before j < length shapes

-- the first n of these numbers are reached, and what was reached before stays as it is
pub record IsSpreadAlong (n : ℕ) (shapes : List Shape) (numbers before order new more : List ℕ) : Type 0 where
  pub walk : IsLineWalk shapes new more
  pub kept : (k : ℕ) → slice_index before k < length shapes → slice_index new k ≡ slice_index before k
  pub reached : (p : ℕ) → p < n → slice_index new (slice_index numbers p) < length shapes
  pub longer : length order ≤ length more
  pub prefix : (p : ℕ) → p < length order → slice_index more p ≡ slice_index order p
  pub less : 2 * sum new + length more ≤ 2 * sum before + length order

-- the walk has begun at the starts
pub record IsBegun (shapes : List Shape) (before order : List ℕ) : Type 0 where
  pub walk : IsLineWalk shapes before order
  pub starts : HasStarts shapes before
