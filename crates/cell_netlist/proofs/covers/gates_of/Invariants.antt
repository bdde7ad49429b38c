use Rattle.std.proofs.Common.{take}
use Rattle.cell_netlist.specs.Kinds.{AreGatesOf}
use Rattle.cell_netlist.proofs.covers.gates_of.Given as goal

abbrev pub invariant-loop-def : goal.invariant-loop-def
invariant-loop-def l = AreGatesOf (take l.def-index l.defs) l.gates.items
