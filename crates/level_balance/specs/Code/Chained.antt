-- Lists of numbers as chains: each number leads to the next, and an end mark ends the list.
use Rattle.std.specs.Prelude.{◌≡◌, ℕ, ◌<◌, List, [], ◌∷◌, length, drop, slice_index_or}
use Rattle.level_balance.specs.Uses.{uses_of}

-- from this number on the chain goes through the list
abbrev pub Chained : List ℕ → ℕ → ℕ → List ℕ → Type 0
Chained next stop at [] = at ≡ stop
Chained next stop at (q ∷ qs) = (at ≡ q) × (q < stop) × Chained next stop (slice_index_or next q stop) qs

-- the chains and the numbers of the uses from number q on, of gates below a bound
pub record AreLinksFrom (first next fans : List ℕ) (gates : ℕ) (uses : List ℕ) (q : ℕ) : Type 0 where
  pub first_length : length first ≡ gates
  pub next_length : length next ≡ length uses
  pub fans_length : length fans ≡ gates
  pub chains : (g : ℕ) → g < gates → Chained next (length uses) (slice_index_or first g 0) (uses_of g q (drop q uses))
  pub counts : (g : ℕ) → g < gates → slice_index_or fans g 0 ≡ length (uses_of g q (drop q uses))

-- the chains and the numbers of all uses
abbrev pub AreLinks : List ℕ → List ℕ → List ℕ → ℕ → List ℕ → Type 0
AreLinks first next fans gates uses = AreLinksFrom first next fans gates uses 0
