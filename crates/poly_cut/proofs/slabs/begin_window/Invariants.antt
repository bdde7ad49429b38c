use Rattle.poly_cut.proofs.Openings.{Advances}
use Rattle.poly_cut.proofs.slabs.begin_window.Given as goal

abbrev pub invariant-loop-pair : goal.invariant-loop-pair
invariant-loop-pair l = Advances l.from l.pair l.ends l.walls l.level l.initial.stack l.stack
