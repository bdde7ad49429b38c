use Rattle.std.proofs.Common.{length}
use Rattle.mig_from_netlist.proofs.fold.+fold.Given as goal

abbrev pub decreases-fold : goal.decreases-fold
decreases-fold l = length l.literals.now
