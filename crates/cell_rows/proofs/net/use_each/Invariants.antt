use Rattle.std.proofs.Common.{◌+◌, ◌++◌, length, take}
use Rattle.cell_netlist.specs.Tables.{AreCounts}
use Rattle.cell_netlist.specs.Uses.{named}
use Rattle.cell_rows.proofs.net.use_each.Given as goal

abbrev pub invariant-loop-signal : goal.invariant-loop-signal
invariant-loop-signal l =
    AreCounts l.used (l.fn.cells.net.now.inputs + length l.fn.cells.net.now.defs)
    (named (take l._j l.fn.cells.net.now.defs) ++ take l.signal-index l.def.inputs)
