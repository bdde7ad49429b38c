use Rattle.std.proofs.Common.{ℕ, ◌<◌, ◌+◌, ◌*◌, ◌-◌, length}
use Rattle.std.specs.Prelude.{slice_index, sum}
use Rattle.shape_extract.specs.Code.Walk.{IsDoneTo}
use Rattle.shape_extract.proofs.connectivity.net_walk.grow.Given as goal

abbrev pub invariant-loop-done : goal.invariant-loop-done
invariant-loop-done l = record {
  done_to : IsDoneTo l.done l.mark l.kinds l.walk;
  still : (k : ℕ) → slice_index l.fn.walk.labels.items k < length l.kinds
      → slice_index l.walk.labels.items k < length l.kinds;
}

abbrev pub decreases-loop-done : goal.decreases-loop-done
decreases-loop-done l = 2 * sum l.walk.labels.items + length l.walk.order.items - l.done
