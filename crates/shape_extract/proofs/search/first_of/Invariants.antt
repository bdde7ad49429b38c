use Rattle.shape_extract.proofs.Searching.{NoneBelow}
use Rattle.shape_extract.proofs.search.first_of.Given as goal

abbrev pub invariant-loop-a : goal.invariant-loop-a
invariant-loop-a g l = NoneBelow (g.P.Part.reported l.part) l.a
