use Rattle.std.proofs.Common.{◌-◌, length}
use Rattle.shape_extract.proofs.Members.{RestTo}
use Rattle.shape_extract.proofs.filed_shapes.list_rest.Given as goal

abbrev pub invariant-loop-later : goal.invariant-loop-later
invariant-loop-later l = RestTo l.places l.n l.later l.initial.found.items l.found.items

abbrev pub decreases-loop-later : goal.decreases-loop-later
decreases-loop-later l = length l.places - l.later
