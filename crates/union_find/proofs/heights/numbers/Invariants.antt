use Rattle.std.proofs.Common.{◌≡◌, ◌<◌, ℕ, length}
use Rattle.std.specs.Prelude.{slice_index}
use Rattle.union_find.proofs.heights.numbers.Given as goal

abbrev pub invariant-loop-number : goal.invariant-loop-number
invariant-loop-number l = record {
  long : length l.numbers.items ≡ l.number;
  each : (k : ℕ) → k < l.number → slice_index l.numbers.items k ≡ k;
}
