-- Placed nets that answer as one of some graphs.
use Rattle.std.specs.Prelude.{◌≡◌, ℕ, List, length, Some, slice_get}
use Rattle.circuit.specs.SameAnswers.{SameAnswers}
use Rattle.rowed.specs.RowNets as rows
use Rattle.rowed.specs.PlacedNets.{PlacedView}
use Rattle.mig.specs.Graphs.{GraphView}
use Rattle.mig.specs.Graphs as graphs

-- the placed net has the counts of one of these graphs, and its answer to every word
pub record AnswersAsOneOf (among : List GraphView) (chip : PlacedView) : Type 0 where
  pub which : ℕ
  pub graph : GraphView
  pub there : slice_get among which ≡ Some graph
  pub same : SameAnswers graph.inputs chip.net.inputs (length graph.outputs) chip.net.outputs
      (graphs.IsAnswer graph) (rows.IsAnswer chip.net)
