use Rattle.std.proofs.lemmas.List.Filters.{FiltersInPlace}
use Rattle.shape_extract.specs.Searches.{passes_with}
use Rattle.shape_extract.proofs.pairs.keep_passing.Given as goal

abbrev pub invariant-loop-place : goal.invariant-loop-place
invariant-loop-place g l = FiltersInPlace
    (passes_with (g.T.PairTest.passes l.test) l.first l.shapes) l.initial.numbers.items l.numbers.items l.kept l.place
