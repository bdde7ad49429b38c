use Rattle.std.proofs.Common.{◌≡◌}
use Rattle.sat_sweep.proofs.sweep.Sweep.compare_with_class.Given as goal

abbrev pub invariant-loop : goal.invariant-loop
invariant-loop l = l.merged ≡ l.fn.merged
