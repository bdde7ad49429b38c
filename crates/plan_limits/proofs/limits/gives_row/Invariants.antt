use Rattle.std.proofs.Common.{◌≡◌, ◌<◌, ℕ, Some, slice_get}
use Rattle.rowed.specs.declared.row_cell.RowCell.{RowCell}
use Rattle.cell_library.specs.Library.{IsGiven}
use Rattle.plan_limits.proofs.limits.gives_row.Given as goal

abbrev pub invariant-loop-cell : goal.invariant-loop-cell
invariant-loop-cell l =
    (c : ℕ) (x : RowCell) → c < l.cell-index → slice_get l.cells c ≡ Some x → IsGiven l.library x.kind
