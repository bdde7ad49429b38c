use Rattle.std.proofs.Common.{◌≤◌, ◌+◌, ◌*◌, ◌-◌, length}
use Rattle.std.specs.Prelude.{sum}
use Rattle.shape_extract.specs.Code.LineWalk.{IsLineWalk, HasStarts, HasContacts}
use Rattle.shape_extract.proofs.lines.line_walk.follow.Given as goal

abbrev pub invariant-loop-done : goal.invariant-loop-done
invariant-loop-done l = record {
  walk : IsLineWalk l.shapes l.before l.order.items;
  starts : HasStarts l.shapes l.before;
  contacts : HasContacts l.shapes l.before l.order.items l.done;
  within : l.done ≤ length l.order.items;
}

abbrev pub decreases-loop-done : goal.decreases-loop-done
decreases-loop-done l = 2 * sum l.before + length l.order.items - l.done
