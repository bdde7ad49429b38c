use Rattle.std.specs.Prelude.{◌≡◌, true}
use Rattle.sorting.proofs.StandardWords.{passing_is_count, all_pairs, each_pair, non_decreasing, not_falling}
use Rattle.sorting.proofs.laws.words_are_std.Goals as goal

pub returns : goal.returns
returns g c = record {
  count = λ p xs. passing_is_count p xs;
  pairs = λ r xs. all_pairs (λ x y. r x y ≡ true) xs;
  each = λ r xs. each_pair (λ x y. r x y ≡ true) xs;
  rises = λ key b xs. non_decreasing key b xs;
  not_falling = λ key xs. not_falling key xs;
}
