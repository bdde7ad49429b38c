use Rattle.std.proofs.Common.{length, take}
use Rattle.cell_netlist.specs.Tables.{AreCounts}
use Rattle.cell_netlist.proofs.counts.count_into.Given as goal

abbrev pub invariant-loop-number : goal.invariant-loop-number
invariant-loop-number l = AreCounts l.counts (length l.fn.counts) (take l.number-index l.numbers)
