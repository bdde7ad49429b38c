use Rattle.std.proofs.lemmas.List.Filters.{FiltersInPlace}
use Rattle.shape_extract.specs.Searches.{passes_with}
use Rattle.shape_extract.proofs.pairs.keep_kinds.Given as goal

abbrev pub invariant-loop-at : goal.invariant-loop-at
invariant-loop-at g l = FiltersInPlace
    (passes_with (g.T.PairTest.passes l.test) l.first l.kinds) l.initial.places.items l.places.items l.kept l.at
