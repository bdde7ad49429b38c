use Rattle.sorting.specs.Sorting.{by_key}
use Rattle.sorting.proofs.SortingLaws.{by_key_moves, by_key_in_order, by_key_same_key, by_key_from_sort}
use Rattle.sorting.proofs.StandardWords.{non_decreasing}
use Rattle.sorting.proofs.laws.sorted_lists.Goals as goal

pub returns : goal.returns
returns g c = record {
  moved = λ key xs. by_key_moves key xs;
  sorted = λ key xs. non_decreasing key 0 (by_key key xs) (by_key_in_order key xs);
  stable = λ key n xs. by_key_same_key key n xs;
  only = λ key xs ys sorted stable. by_key_from_sort key xs ys sorted stable;
}
