use Rattle.maj_mapping.proofs.Cubing.{Literals}
use Rattle.maj_mapping.proofs.cubes.literals.Given as goal

abbrev pub invariant-loop-i : goal.invariant-loop-i
invariant-loop-i l = Literals l.fn.maker l.plane l.inputs l.maker l.made.items l.i
