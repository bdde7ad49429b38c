use Rattle.sorting.proofs.StandardWords.{order_moves, order_from_moves, same_from_permutation, place_is_position}
use Rattle.sorting.proofs.laws.orders_are_permutations.Goals as goal

pub returns : goal.returns
returns c = record {
  order = order_moves;
  permutation = order_from_moves;
  same = same_from_permutation;
  place = place_is_position;
}
