use Rattle.std.proofs.Common.{◌≡◌, ◌++◌, map, drop}
use Rattle.rowed.specs.declared.row_cell.RowCell.{RowCell}
use Rattle.placement_check.proofs.cells.outputs_of.Given as goal

abbrev pub invariant-loop-cell : goal.invariant-loop-cell
invariant-loop-cell l = l.outputs.items ++ map (λ (cell : RowCell). cell.output) (drop l.cell-index l.cells) ≡ map
    (λ (cell : RowCell). cell.output) l.cells
