use Rattle.std.proofs.Common.{◌≡◌, ◌++◌, ◌-◌, drop}
use Rattle.poly_cut.specs.Rings.{edges}
use Rattle.poly_cut.specs.Code.Sweeping.{ends_of, steep}
use Rattle.poly_cut.proofs.ends.ends.Given as goal

abbrev pub invariant-loop-i : goal.invariant-loop-i
invariant-loop-i l = l.ends.items ++ ends_of (steep (edges (drop (l.i - 1) l.ring))) ≡ ends_of (steep (edges l.ring))
