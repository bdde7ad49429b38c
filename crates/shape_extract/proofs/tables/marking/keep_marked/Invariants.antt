use Rattle.std.proofs.lemmas.List.Filters.{FiltersInPlace}
use Rattle.layout_rules.specs.Labels.{marks}
use Rattle.shape_extract.specs.Searches.{passes_at}
use Rattle.shape_extract.proofs.tables.marking.keep_marked.Given as goal

abbrev pub invariant-loop-at : goal.invariant-loop-at
invariant-loop-at l = FiltersInPlace
    (passes_at (marks l.label) l.kinds) l.initial.places.items l.places.items l.kept l.at
