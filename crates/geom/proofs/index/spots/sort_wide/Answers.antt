use Rattle.std.proofs.Common.{rules}
use Rattle.std.proofs.lemmas.List.Sorted.{IsNonDecreasingBy-from_sort_by_key}
use Rattle.geom.specs.declared.index.spots.Spot.{Spot}
use Rattle.geom.proofs.index.spots.sort_wide.Goals as goal

pub returns-clause-rising : goal.returns-clause-rising
returns-clause-rising c = IsNonDecreasingBy-from_sort_by_key (λ (s : Spot). s.cell) _
    c.sort_unstable_by_key.ensures.sorted (λ a r f h. search rules)
