use Rattle.std.proofs.Common.{◌≡◌, ◌*◌, ◌<◌, ℕ, length, get_or}
use Rattle.mig_merge.proofs.merged.first_found.Given as goal

abbrev pub invariant-loop-input : goal.invariant-loop-input
invariant-loop-input l = record {
  size : length l.found.items ≡ l.input;
  each : (i : ℕ) → i < l.input → get_or l.found.items i 0 ≡ 2 * i;
}
