use Rattle.std.proofs.Common.{◌≡◌, ◌+◌, drop}
use Rattle.rowed.specs.Counts.{row_feeds}
use Rattle.rowed.proofs.row_cell.row_feeds.Given as goal

abbrev pub invariant-loop-cell : goal.invariant-loop-cell
invariant-loop-cell l = l.number + row_feeds (drop l.cell-index l.cells) ≡ row_feeds l.cells
