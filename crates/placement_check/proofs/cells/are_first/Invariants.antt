use Rattle.std.proofs.Common.{◌≡◌, drop}
use Rattle.placement_check.specs.Code.Cells.{are_first}
use Rattle.placement_check.proofs.cells.are_first.Given as goal

abbrev pub invariant-loop-cell : goal.invariant-loop-cell
invariant-loop-cell l = are_first (drop l.cell-index l.cells) ≡ are_first l.cells
