use Rattle.std.proofs.Common.{◌≡◌, ◌++◌, drop}
use Rattle.placement_check.specs.Code.Cells.{pins_of}
use Rattle.placement_check.proofs.cells.pins_of.Given as goal

abbrev pub invariant-loop-cell : goal.invariant-loop-cell
invariant-loop-cell l = l.pins.items ++ pins_of (drop l.cell-index l.cells) ≡ pins_of l.cells
