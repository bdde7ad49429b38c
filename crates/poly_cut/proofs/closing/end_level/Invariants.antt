use Rattle.std.proofs.Common.{◌-◌, length}
use Rattle.poly_cut.proofs.Endings.{Ended}
use Rattle.poly_cut.proofs.closing.end_level.Given as goal

abbrev pub invariant-windows : goal.invariant-windows
invariant-windows l = Ended l.number l.ends l.walls l.level.y l.last l.initial.rects l.rects

abbrev pub decreases-windows : goal.decreases-windows
decreases-windows l = length l.ends - l.number
