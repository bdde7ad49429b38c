use Rattle.mig_from_netlist.proofs.decompose.+decompose.Given as goal

abbrev pub decreases-decompose : goal.decreases-decompose
decreases-decompose l = l.most
