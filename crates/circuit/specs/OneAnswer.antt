-- A circuit without memory of its own has one answer to each word of as many values as it has inputs.
use Rattle.std.specs.Prelude.{◌≡◌, ℕ, List, Bool, length}

-- each such word has one answer, with a value for each output
pub record HasOneAnswer (inputs outputs : ℕ) (answer : List Bool → List Bool → Type 0) : Type 0 where
  pub some : (x : List Bool) → length x ≡ inputs → (y : List Bool) × answer x y
  pub only : (x y z : List Bool) → length x ≡ inputs → answer x y → answer x z → y ≡ z
  pub whole : (x y : List Bool) → length x ≡ inputs → answer x y → length y ≡ outputs
