-- What the pass from netlists to graphs gives.
use Rattle.std.specs.Prelude.{List, length}
use Rattle.blif_read.specs.Parts.{NetView}
use Rattle.blif_read.specs.Netlist.{IsNetlist}
use Rattle.blif_read.specs.Equations as equations
use Rattle.circuit.specs.SameAnswers.{SameAnswers}
use Rattle.mig.specs.Graphs.{GraphView, IsGraph, IsAnswer}

-- a graph with the answers of a netlist
pub record IsGraphOf (net : NetView) (graph : GraphView) : Type 0 where
  pub net_keeps : IsNetlist net
  pub graph_keeps : IsGraph graph
  pub same : SameAnswers net.inputs graph.inputs (length net.outputs) (length graph.outputs)
      (equations.IsAnswer net) (IsAnswer graph)
