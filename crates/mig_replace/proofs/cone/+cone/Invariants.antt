use Rattle.mig_replace.proofs.cone.+cone.Given as goal

abbrev pub decreases-cone : goal.decreases-cone
decreases-cone l = l.most
