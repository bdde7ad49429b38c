use Rattle.shape_extract.proofs.InPlanes.{AreNamedTo}
use Rattle.shape_extract.proofs.planes.name_places.Given as goal

abbrev pub invariant-loop-at : goal.invariant-loop-at
invariant-loop-at l = AreNamedTo l.at l.numbers l.initial.found.items l.found.items
