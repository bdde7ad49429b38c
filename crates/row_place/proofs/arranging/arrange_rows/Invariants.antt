use Rattle.std.proofs.Common.{ℕ, List, [], drop}
use Rattle.row_place.specs.Arranged.{arranged_rows}
use Rattle.row_place.proofs.AllRows.{RowsSo}
use Rattle.row_place.proofs.arranging.arrange_rows.Given as goal

abbrev pub invariant-loop-number : goal.invariant-loop-number
invariant-loop-number l = RowsSo (λ (old : List ℕ). arranged_rows old (drop l.number l.rows) (drop l.number l.slots))
    (arranged_rows [] l.rows l.slots) l.places.items l.placed.items l.lists.items
