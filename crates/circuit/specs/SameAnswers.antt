-- What two circuits have in common where one computes what the other does: the counts, and the answer to every word.
use Rattle.std.specs.Prelude.{◌≡◌, ℕ, List, Bool, length}

-- the second circuit has the counts and the answers of the first
pub record SameAnswers (inputs inputs' outputs outputs' : ℕ)
    (answer answer' : List Bool → List Bool → Type 0) : Type 0 where
  pub same_inputs : inputs' ≡ inputs
  pub same_outputs : outputs' ≡ outputs
  pub there : (x y : List Bool) → length x ≡ inputs → answer x y → answer' x y
  pub back : (x y : List Bool) → length x ≡ inputs → answer' x y → answer x y
