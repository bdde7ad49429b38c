use Rattle.shape_extract.proofs.FramePlaces.{PlacesBelow}
use Rattle.shape_extract.proofs.circuits.frames.places_of.Given as goal

abbrev pub invariant-loop-place : goal.invariant-loop-place
invariant-loop-place l = PlacesBelow l.place l.shapes l.frames l.places.items
