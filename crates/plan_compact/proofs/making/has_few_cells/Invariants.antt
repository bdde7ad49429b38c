use Rattle.std.proofs.Common.{◌≡◌, ◌+◌, ◌≤◌, drop}
use Rattle.rowed.specs.Counts.{cells_in}
use Rattle.plan_compact.proofs.making.has_few_cells.Given as goal

abbrev pub invariant-loop-row : goal.invariant-loop-row
invariant-loop-row l =
    (l.count + cells_in (drop l.row-index l.chip.net.rows) ≡ cells_in l.chip.net.rows) × (l.count ≤ 2000000)
