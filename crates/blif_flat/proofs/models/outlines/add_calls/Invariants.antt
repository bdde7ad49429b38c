use Rattle.std.proofs.Common.{◌≡◌, ℕ, List, ◌+◌, ◌++◌, Option, take, drop, length}
use Rattle.std.specs.List.{flat_map}
use Rattle.blif_flat.specs.Code.Blocks.{call_names, wide}
use Rattle.blif_flat.specs.Code.Joins.{ArePlaces}
use Rattle.blif_flat.proofs.models.outlines.add_calls.Given as goal

abbrev pub invariant-loop-call : goal.invariant-loop-call
invariant-loop-call l = record {
  places : (names : List (Option (List ℕ))) → ArePlaces l.fn.places.entries l.count names
      → ArePlaces l.places.entries l.next
      (names ++ flat_map (call_names (wide l.design) l.design) (take l.call-index l.calls));
  room : l.next + length (flat_map (call_names (wide l.design) l.design) (drop l.call-index l.calls))
      ≡ l.count + length (flat_map (call_names (wide l.design) l.design) l.calls);
}
