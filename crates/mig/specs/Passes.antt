-- What a pass over graphs gives.
use Rattle.std.specs.Prelude.{length}
use Rattle.circuit.specs.SameAnswers.{SameAnswers}
use Rattle.mig.specs.Graphs.{GraphView, IsGraph, IsAnswer}

-- a graph with the answers of a graph
pub record IsRebuilt (from to : GraphView) : Type 0 where
  pub keeps : IsGraph to
  pub same : SameAnswers from.inputs to.inputs (length from.outputs) (length to.outputs) (IsAnswer from) (IsAnswer to)
