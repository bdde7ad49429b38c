use Rattle.std.proofs.Common.{◌≡◌, ◌<◌, ℕ, Some}
use Rattle.rowed.specs.declared.row_cell.RowCell.{RowCell}
use Rattle.rowed.specs.RowNets.{cell_at}
use Rattle.cell_library.specs.Library.{IsGiven}
use Rattle.plan_limits.proofs.limits.gives_kinds.Given as goal

abbrev pub invariant-loop-number : goal.invariant-loop-number
invariant-loop-number l =
    (r c : ℕ) (x : RowCell) → r < l.number → cell_at l.chip.net.rows r c ≡ Some x → IsGiven l.library x.kind
