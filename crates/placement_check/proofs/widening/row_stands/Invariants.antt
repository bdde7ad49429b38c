use Rattle.std.proofs.Common.{◌≡◌, drop}
use Rattle.placement_check.specs.Wider.{row_stands}
use Rattle.placement_check.proofs.widening.row_stands.Given as goal

abbrev pub invariant-loop-cell : goal.invariant-loop-cell
invariant-loop-cell l = row_stands l.places l.marks l.number l.cell (drop l.cell l.cells)
    ≡ row_stands l.places l.marks l.number 0 l.cells
