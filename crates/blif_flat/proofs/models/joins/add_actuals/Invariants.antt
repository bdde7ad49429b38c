use Rattle.std.proofs.Common.{◌≡◌, ℕ, List, Option, Some, ◌+◌, ◌++◌, map, take, drop, length}
use Rattle.blif_flat.specs.Code.Joins.{actuals_in, ArePlaces}
use Rattle.blif_flat.proofs.models.joins.add_actuals.Given as goal

abbrev pub invariant-loop-port : goal.invariant-loop-port
invariant-loop-port l = record {
  places : (names : List (Option (List ℕ))) → ArePlaces l.fn.places.entries l.count names
      → ArePlaces l.places.entries l.next (names ++ map (λ n. Some n) (actuals_in l.call (take l.port-index l.ports)));
  room : l.next + length (actuals_in l.call (drop l.port-index l.ports)) ≡ l.count + length (actuals_in l.call l.ports);
}
