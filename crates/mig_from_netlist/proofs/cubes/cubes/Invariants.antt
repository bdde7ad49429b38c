use Rattle.mig_from_netlist.proofs.Joining.{Cubes}
use Rattle.mig_from_netlist.proofs.cubes.cubes.Given as goal

abbrev pub invariant-loop-one : goal.invariant-loop-one
invariant-loop-one l = Cubes l.fn.builder l.builder l.made.items l.cubes l.inputs l.one-index
