use Rattle.std.proofs.Common.{drop}
use Rattle.poly_cut.proofs.Endings.{Ending}
use Rattle.poly_cut.proofs.closing.end_window.Given as goal

abbrev pub invariant-loop-pair : goal.invariant-loop-pair
invariant-loop-pair l = Ending l.initial.pair l.pair (drop l.number l.ends) l.walls l.level.y l.initial.rects l.rects
