use Rattle.shape_extract.specs.Passing.{PassesIn}
use Rattle.shape_extract.specs.Planes.{in_plane}
use Rattle.shape_extract.proofs.Searching.{AreThoseBelow}
use Rattle.shape_extract.proofs.planes.places_in.Given as goal

abbrev pub invariant-loop-place : goal.invariant-loop-place
invariant-loop-place l = AreThoseBelow l.place (PassesIn (in_plane l.plane) l.kinds) l.places.items
