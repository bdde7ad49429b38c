use Rattle.std.proofs.Common.{◌≡◌, ◌+◌, ℕ, List, [], ◌∷◌, ◌++◌, Option, Some, take}
use Rattle.std.specs.List.{flat_map}
use Rattle.blif_flat.specs.Code.Joins.{ArePlaces}
use Rattle.blif_flat.proofs.models.outlines.add_defs.Given as goal

abbrev pub invariant-loop-def : goal.invariant-loop-def
invariant-loop-def l = record {
  places : (names : List (Option (List ℕ))) → ArePlaces l.fn.places.entries l.count names
      → ArePlaces l.places.entries l.next (names ++ flat_map (λ d. Some d.output ∷ []) (take l.def-index l.defs));
  next : l.next ≡ l.count + l.def-index;
}
