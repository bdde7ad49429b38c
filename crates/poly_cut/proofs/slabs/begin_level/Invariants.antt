use Rattle.std.proofs.Common.{◌-◌, length}
use Rattle.poly_cut.proofs.Openings.{AdvancesAll}
use Rattle.poly_cut.proofs.slabs.begin_level.Given as goal

abbrev pub invariant-windows : goal.invariant-windows
invariant-windows l = AdvancesAll l.from l.number l.ends l.walls l.level l.initial.stack l.stack

abbrev pub decreases-windows : goal.decreases-windows
decreases-windows l = length l.ends - l.number
