-- Another variable order, and circuits whose inputs stand in it.
use Rattle.std.specs.Prelude.{◌≡◌, ℕ, ◌<◌, Bool, false, List, length, map, slice_index_or}
use Rattle.circuit.specs.declared.gate.Gate.{Gate}
use Rattle.circuit.specs.declared.gate.Gate.TheVariants.{Input, Zero, One, Buf, Inv, Maj}

-- input k stands at the place of the order that is its rank
pub record StandsAt (order rank : List ℕ) (k : ℕ) : Type 0 where
  pub within : slice_index_or rank k 0 < length order
  pub back : slice_index_or order (slice_index_or rank k 0) 0 ≡ k

-- the ranks undo the order of n inputs
pub record IsOrder (n : ℕ) (order rank : List ℕ) : Type 0 where
  pub size : length order ≡ n
  pub ranks : length rank ≡ n
  pub stands : (k : ℕ) → k < n → StandsAt order rank k

-- a gate with the input's rank in the place of its number
abbrev pub renumber : List ℕ → Gate → Gate
renumber rank (Input k) = Input (slice_index_or rank k 0)
renumber rank Zero = Zero
renumber rank One = One
renumber rank (Buf x) = Buf x
renumber rank (Inv x) = Inv x
renumber rank (Maj x y z) = Maj x y z

-- a word's values in the order
abbrev pub arranged : List ℕ → List Bool → List Bool
arranged order x = map (λ j. slice_index_or x j false) order
