use Rattle.std.proofs.Common.{◌≡◌}
use Rattle.cell_rows.specs.Code.Laying.{AreUsedBefore, laid_to}
use Rattle.cell_rows.proofs.net.lay_each.Given as goal

abbrev pub invariant-loop-j : goal.invariant-loop-j
invariant-loop-j l = AreUsedBefore l.fn.cells l.used l.j × (l.rows ≡ laid_to l.fn.cells l.j)
