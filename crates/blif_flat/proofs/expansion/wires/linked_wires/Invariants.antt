use Rattle.std.proofs.Common.{◌≡◌, ◌+◌, ◌*◌, ◌≤◌, ◌++◌, reverse}
use Rattle.std.specs.List.{AllByRecursion}
use Rattle.blif_flat.specs.DesignSize.{size_limit}
use Rattle.blif_flat.specs.Expansion.{wires}
use Rattle.blif_flat.specs.Code.Wired.{wires_of, listed_from, turns_from}
use Rattle.blif_flat.proofs.Walking.{HasReachedCalls}
use Rattle.blif_flat.proofs.expansion.wires.linked_wires.Given as goal

abbrev pub invariant-loop-frame : goal.invariant-loop-frame
invariant-loop-frame l = record {
  whole : wires_of l.places.items ++ listed_from l.models (l.calls + 1) (reverse l.frames.items) ≡ wires l.models;
  reached : AllByRecursion (HasReachedCalls l.models (reverse l.order)) (reverse l.frames.items);
  counted : turns_from l.models (reverse l.frames.items) + l.calls ≤ 1 + 2 * size_limit;
}

abbrev pub decreases-loop-frame : goal.decreases-loop-frame
decreases-loop-frame l = turns_from l.models (reverse l.frames.items)
