use Rattle.shape_extract.specs.Passing.{PassesIn}
use Rattle.shape_extract.specs.Planes.{in_plane}
use Rattle.shape_extract.proofs.Searching.{AreThoseBelow}
use Rattle.shape_extract.proofs.planes.numbers_in.Given as goal

abbrev pub invariant-loop-number : goal.invariant-loop-number
invariant-loop-number l = AreThoseBelow l.number (PassesIn (in_plane l.plane) l.shapes) l.numbers.items
