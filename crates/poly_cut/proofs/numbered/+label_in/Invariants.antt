use Rattle.poly_cut.proofs.numbered.+label_in.Given as goal

abbrev pub decreases-label_in : goal.decreases-label_in
decreases-label_in l = l.depth
