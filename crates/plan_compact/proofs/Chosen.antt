-- A placed net that answers as one of some graphs.
use Rattle.std.proofs.Common.{◌≡◌, ℕ, List, Bool, length, Some, sym, ◌∙◌}
use Rattle.std.specs.Prelude.{slice_get}
use Rattle.circuit.specs.SameAnswers.{SameAnswers}
use Rattle.rowed.specs.RowNets as rows
use Rattle.rowed.specs.PlacedNets.{PlacedView}
use Rattle.mig.specs.Graphs.{GraphView}
use Rattle.mig.specs.Graphs as graphs
use Rattle.plan_compact.specs.Chips.{AnswersAsOneOf}

-- it answers so where it answers as the graph of some number
pub answers_as_one : (among : List GraphView) (which : ℕ) (graph : GraphView) (chip : PlacedView)
    → slice_get among which ≡ Some graph
    → SameAnswers graph.inputs chip.net.inputs (length graph.outputs) chip.net.outputs
    (graphs.IsAnswer graph) (rows.IsAnswer chip.net)
    → AnswersAsOneOf among chip
answers_as_one among which graph chip there same = record {
  which = which;
  graph = graph;
  there = there;
  same = same;
}

-- where all of the graphs answer as one circuit, so does it
pub answers_as_all : (inputs outputs : ℕ) (answer : List Bool → List Bool → Type 0) (among : List GraphView)
    (chip : PlacedView)
    → ((k : ℕ) (g : GraphView) → slice_get among k ≡ Some g
    → SameAnswers inputs g.inputs outputs (length g.outputs) answer (graphs.IsAnswer g))
    → AnswersAsOneOf among chip
    → SameAnswers inputs chip.net.inputs outputs chip.net.outputs answer (rows.IsAnswer chip.net)
answers_as_all inputs outputs answer among chip each one =
    let first = each one.which one.graph one.there in
    let second = one.same in
    record {
      same_inputs = second.same_inputs ∙ first.same_inputs;
      same_outputs = second.same_outputs ∙ first.same_outputs;
      there = λ x y e a. second.there x y (e ∙ sym first.same_inputs) (first.there x y e a);
      back = λ x y e a. first.back x y e (second.back x y (e ∙ sym first.same_inputs) a);
    }
