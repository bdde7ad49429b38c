use Rattle.std.proofs.Common.{◌≡◌, ◌+◌, ℕ, List, [], ◌∷◌, ◌++◌, Option, Some, take}
use Rattle.std.specs.List.{flat_map}
use Rattle.blif_flat.specs.Code.Joins.{ArePlaces}
use Rattle.blif_flat.proofs.models.outlines.add_inputs.Given as goal

abbrev pub invariant-loop-input : goal.invariant-loop-input
invariant-loop-input l = record {
  places : (names : List (Option (List ℕ))) → ArePlaces l.fn.places.entries l.count names
      → ArePlaces l.places.entries l.next (names ++ flat_map (λ n. Some n.name ∷ []) (take l.input-index l.inputs));
  next : l.next ≡ l.count + l.input-index;
}
