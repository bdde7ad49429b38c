use Rattle.maj_mapping.proofs.Cubing.{Cubes}
use Rattle.maj_mapping.proofs.cubes.cubes.Given as goal

abbrev pub invariant-loop-one : goal.invariant-loop-one
invariant-loop-one l = Cubes l.fn.maker l.inputs l.cubes l.maker l.made.items l.one-index
