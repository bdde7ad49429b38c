use Rattle.std.proofs.Common.{◌≡◌, ◌++◌, map, drop}
use Rattle.row_place.specs.Arranged.{slot_at}
use Rattle.row_place.proofs.arranging.slots_in.Given as goal

abbrev pub invariant-loop-number : goal.invariant-loop-number
invariant-loop-number l =
    l.found.items ++ map (slot_at l.slots) (drop l.number-index l.order) ≡ map (slot_at l.slots) l.order
