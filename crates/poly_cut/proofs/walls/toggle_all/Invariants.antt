use Rattle.std.proofs.Common.{◌≤◌, ◌-◌, length, drop}
use Rattle.poly_cut.proofs.OffWindows.{Toggled}
use Rattle.poly_cut.proofs.walls.toggle_all.Given as goal

abbrev pub invariant-pairs : goal.invariant-pairs
invariant-pairs l = record {
  within : l.number ≤ length l.ends;
  toggled : Toggled l.walls.items (drop l.number l.ends) l.initial.walls.items l.ends;
}

abbrev pub decreases-pairs : goal.decreases-pairs
decreases-pairs l = length l.ends - l.number
