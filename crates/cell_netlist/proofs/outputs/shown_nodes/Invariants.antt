use Rattle.cell_netlist.specs.Code.Tabled.{view_of}
use Rattle.cell_netlist.specs.Code.Progress.{AreShownNodes}
use Rattle.cell_netlist.proofs.outputs.shown_nodes.Given as goal

abbrev pub invariant-loop-output : goal.invariant-loop-output
invariant-loop-output l =
    AreShownNodes (view_of l.fn.tabled) l.outputs l.nodes.items l.output-index
