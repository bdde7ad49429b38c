-- Graphs with the answers of one netlist.
use Rattle.std.specs.Prelude.{◌≡◌, ℕ, List, Some, slice_get}
use Rattle.blif_read.specs.Parts.{NetView}
use Rattle.mig.specs.Graphs.{GraphView}
use Rattle.mig_from_netlist.specs.Passes.{IsGraphOf}

-- each of the graphs has the answers of the netlist
pub record AreGraphsOf (net : NetView) (graphs : List GraphView) : Type 0 where
  pub each : (k : ℕ) (graph : GraphView) → slice_get graphs k ≡ Some graph → IsGraphOf net graph
