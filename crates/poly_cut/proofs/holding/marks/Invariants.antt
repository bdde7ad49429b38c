use Rattle.std.proofs.Common.{◌≡◌, ◌-◌, ◌≤◌}
use Rattle.poly_cut.specs.Code.Holding.{held}
use Rattle.poly_cut.proofs.holding.marks.Given as goal

abbrev pub invariant-levels : goal.invariant-levels
invariant-levels l = record { is : l.marks.items ≡ held l.depth l.structures; within : l.depth ≤ 65 }

abbrev pub decreases-levels : goal.decreases-levels
decreases-levels l = 65 - l.depth
