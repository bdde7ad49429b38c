use Rattle.aqfp_top.proofs.pieces.+add_decimal.Given as goal

abbrev pub decreases-add_decimal : goal.decreases-add_decimal
decreases-add_decimal g l = l.n
