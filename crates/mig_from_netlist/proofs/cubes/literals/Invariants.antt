use Rattle.mig_from_netlist.proofs.Joining.{Literals}
use Rattle.mig_from_netlist.proofs.cubes.literals.Given as goal

abbrev pub invariant-loop-i : goal.invariant-loop-i
invariant-loop-i l = Literals l.plane l.inputs l.made.items l.i
