use Rattle.union_find.specs.Forests.{trees}
use Rattle.cell_netlist.specs.Code.Progress.{IsAligned}
use Rattle.cell_netlist.proofs.outputs.align.Given as goal

abbrev pub invariant-loop-node : goal.invariant-loop-node
invariant-loop-node l = IsAligned (trees l.fn.heights) (trees l.heights) l.first l.nodes l.node-index
