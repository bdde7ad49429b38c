use Rattle.std.proofs.Common.{◌≡◌, ◌+◌, drop}
use Rattle.plan_compact.specs.Junctions.{row_junctions}
use Rattle.plan_compact.proofs.sizes.row_junctions.Given as goal

abbrev pub invariant-loop-cell : goal.invariant-loop-cell
invariant-loop-cell l = l.junctions + row_junctions (drop l.cell-index l.cells) ≡ row_junctions l.cells
