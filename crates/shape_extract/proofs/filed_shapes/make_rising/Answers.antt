use Rattle.std.proofs.Common.{subst, sym, eqb}
use Rattle.std.specs.List.Sorted.{IsStrictlyIncreasing}
use Rattle.std.proofs.lemmas.List.Filters.{dedup_is}
use Rattle.std.proofs.lemmas.Map.Keys.{IsStrictlyIncreasing-dedup}
use Rattle.geom.proofs.Filing.{listed_once}
use Rattle.shape_extract.proofs.filed_shapes.make_rising.Goals as goal

pub returns-clause-rising : goal.returns-clause-rising
returns-clause-rising c = subst IsStrictlyIncreasing (sym (dedup_is eqb _ _ c.dedup.ensures.filtered))
    (IsStrictlyIncreasing-dedup _ c.sort_unstable.ensures.sorted)

pub returns-clause-same : goal.returns-clause-same
returns-clause-same c = listed_once _ _ _ c.sort_unstable.ensures.permutation
    (dedup_is eqb _ _ c.dedup.ensures.filtered)
