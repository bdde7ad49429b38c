use Rattle.std.proofs.Common.{◌≡◌, ◌+◌, drop}
use Rattle.rowed.specs.Counts.{cells_in}
use Rattle.rowed.proofs.placed.Placed.cell_count.Given as goal

abbrev pub invariant-loop-row : goal.invariant-loop-row
invariant-loop-row l = l.count + cells_in (drop l.row-index l.self.net.rows) ≡ cells_in l.self.net.rows
