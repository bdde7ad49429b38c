use Rattle.std.proofs.Common.{length}
use Rattle.maj_mapping.proofs.maker.Maker.+fold.Given as goal

abbrev pub decreases-fold : goal.decreases-fold
decreases-fold l = length l.operands.now
