-- Items of a list that pass a test, by their numbers.
use Rattle.std.specs.Prelude.{◌≡◌, ℕ, Bool, true, List, slice_get, Some}

-- the item of this number passes the test
pub record PassesIn {X : Type 0} (test : X → Bool) (xs : List X) (n : ℕ) : Type 0 where
  pub item : X
  pub item_is : slice_get xs n ≡ Some item
  pub passes_so : test item ≡ true
