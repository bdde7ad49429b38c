use Rattle.std.proofs.Common.{◌≡◌, drop}
use Rattle.placement_check.specs.Code.Cells.{are_above}
use Rattle.placement_check.proofs.cells.are_above.Given as goal

abbrev pub invariant-loop-cell : goal.invariant-loop-cell
invariant-loop-cell l = are_above l.below l.last (drop l.cell-index l.cells) ≡ are_above l.below l.last l.cells
