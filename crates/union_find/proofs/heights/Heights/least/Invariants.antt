use Rattle.std.proofs.Common.{◌≡◌, ◌<◌, ℕ, length}
use Rattle.std.specs.Prelude.{slice_index}
use Rattle.union_find.specs.Forests.{trees}
use Rattle.union_find.specs.Code.Shapes.{IsShaped}
use Rattle.union_find.proofs.heights.Heights.least.Given as goal

abbrev pub invariant-loop-node : goal.invariant-loop-node
invariant-loop-node l = record {
  long : length l.heights.items ≡ l.node;
  each : (h root : ℕ → ℕ) → IsShaped (trees l.self) h root → (s : ℕ) → s < l.node
      → slice_index l.heights.items s ≡ h s;
}
