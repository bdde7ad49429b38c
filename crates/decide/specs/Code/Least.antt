-- The least word on which two functions differ.
use Rattle.std.specs.Prelude.{◌≡◌, ◌≢◌, ℕ, Bool, List, length}
use Rattle.decide.specs.Verdicts.{Before}

-- the two functions of so many inputs differ on the word, and on none before it
pub record IsLeastWord (inputs : ℕ) (f g : List Bool → Bool) (word : List Bool) : Type 0 where
  pub long : length word ≡ inputs
  pub differ : f word ≢ g word
  pub least : (x : List Bool) → length x ≡ inputs → Before x word → f x ≡ g x
