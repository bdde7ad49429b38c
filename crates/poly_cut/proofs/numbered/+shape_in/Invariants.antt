use Rattle.poly_cut.proofs.numbered.+shape_in.Given as goal

abbrev pub decreases-shape_in : goal.decreases-shape_in
decreases-shape_in l = l.depth
