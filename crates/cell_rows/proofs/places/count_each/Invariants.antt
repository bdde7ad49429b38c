use Rattle.std.proofs.Common.{◌≡◌}
use Rattle.cell_rows.specs.Code.Laying.{view_of, counts_of, ArePlaces}
use Rattle.cell_rows.proofs.places.count_each.Given as goal

abbrev pub invariant-loop-j : goal.invariant-loop-j
invariant-loop-j l =
    (l.counts ≡ counts_of l.fn.cells l.j)
    × ArePlaces (view_of l.fn.cells) l.fn.cells.levels.now.levels l.places.items l.j
