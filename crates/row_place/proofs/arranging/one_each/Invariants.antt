use Rattle.std.proofs.Common.{◌≡◌, drop}
use Rattle.row_place.specs.Arranged.{one_each}
use Rattle.row_place.proofs.arranging.one_each.Given as goal

abbrev pub invariant-loop-number : goal.invariant-loop-number
invariant-loop-number l = one_each (drop l.number l.rows) (drop l.number l.slots) ≡ one_each l.rows l.slots
