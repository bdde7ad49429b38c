use Rattle.std.proofs.Common.{subst, sym, eqb}
use Rattle.std.specs.List.Sorted.{IsStrictlyIncreasing}
use Rattle.std.proofs.lemmas.List.Filters.{dedup_is}
use Rattle.std.proofs.lemmas.Map.Keys.{IsStrictlyIncreasing-dedup}
use Rattle.geom.proofs.Filing.{listed_once}
use Rattle.geom.proofs.index.buckets.make_rising.Goals as goal

pub returns-then-not-is_rising-clause-rising : goal.returns-then-not-is_rising-clause-rising
returns-then-not-is_rising-clause-rising c = subst IsStrictlyIncreasing
    (sym (dedup_is eqb _ _ c.dedup.ensures.filtered)) (IsStrictlyIncreasing-dedup _ c.sort_unstable.ensures.sorted)

pub returns-then-not-is_rising-clause-same : goal.returns-then-not-is_rising-clause-same
returns-then-not-is_rising-clause-same c = listed_once _ _ _ c.sort_unstable.ensures.permutation
    (dedup_is eqb _ _ c.dedup.ensures.filtered)
