use Rattle.sorting.proofs.Inverted.{Known}
use Rattle.sorting.proofs.order.places_of.Given as goal

abbrev pub invariant-loop-left : goal.invariant-loop-left
invariant-loop-left l = Known l.order l.places.items l.left

abbrev pub decreases-loop-left : goal.decreases-loop-left
decreases-loop-left l = l.left
