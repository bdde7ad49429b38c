use Rattle.union_find.specs.Forests.{trees}
use Rattle.cell_netlist.specs.Code.Progress.{IsAdded}
use Rattle.cell_netlist.proofs.levels.add_rises.Given as goal

abbrev pub invariant-loop-signal : goal.invariant-loop-signal
invariant-loop-signal l = IsAdded (trees l.fn.heights) (trees l.heights) l.inputs l.upper l.signals l.signal-index
