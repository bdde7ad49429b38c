use Rattle.std.proofs.Common.{◌≡◌, drop}
use Rattle.cell_netlist.specs.Code.Covers.{takes_each}
use Rattle.cell_netlist.proofs.covers.takes_each.Given as goal

abbrev pub invariant-loop-i : goal.invariant-loop-i
invariant-loop-i l = takes_each (drop l.i l.plane) (drop l.i l.values) ≡ takes_each l.plane l.values
