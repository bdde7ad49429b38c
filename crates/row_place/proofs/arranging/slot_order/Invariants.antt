use Rattle.std.proofs.Common.{◌≡◌, ◌++◌, drop}
use Rattle.row_place.proofs.arranging.slot_order.Given as goal

abbrev pub invariant-loop-slot : goal.invariant-loop-slot
invariant-loop-slot l = l.keys.items ++ drop l.slot-index l.slots ≡ l.slots
