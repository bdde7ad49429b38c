use Rattle.std.proofs.Common.{◌≡◌, take}
use Rattle.cell_netlist.specs.Uses.{named}
use Rattle.cell_netlist.proofs.counts.named.Given as goal

abbrev pub invariant-loop-def : goal.invariant-loop-def
invariant-loop-def l = l.signals.items ≡ named (take l.def-index l.defs)
