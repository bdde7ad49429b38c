use Rattle.shape_extract.proofs.Members.{MembersTo}
use Rattle.shape_extract.proofs.filed_shapes.list_members.Given as goal

abbrev pub invariant-loop-at : goal.invariant-loop-at
invariant-loop-at l = MembersTo l.at l.numbers l.places l.initial.found.items l.found.items
