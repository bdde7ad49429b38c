use Rattle.mig_rewrite.proofs.choose.choose.Given as goal

abbrev pub decreases-loop-left : goal.decreases-loop-left
decreases-loop-left l = l.left
