use Rattle.std.proofs.Common.{ℕ, ◌<◌, get_or}
use Rattle.test_fixtures.proofs.checked.all_name.Given as goal

abbrev pub invariant-loop-place : goal.invariant-loop-place
invariant-loop-place l = (k : ℕ) → k < l.place → get_or l.outputs k 0 < l.count
