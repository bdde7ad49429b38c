-- A circuit that computes what another does that computes what a third does computes what the third does.
use Rattle.std.specs.Prelude.{◌≡◌, ℕ, List, Bool, length}
use Rattle.std.proofs.Common.{sym, ◌∙◌}
use Rattle.circuit.specs.SameAnswers.{SameAnswers}

-- the answers of the first and the third circuit are the same
pub same_then : (i j k o p q : ℕ) (f g h : List Bool → List Bool → Type 0)
    → SameAnswers i j o p f g → SameAnswers j k p q g h → SameAnswers i k o q f h
same_then i j k o p q f g h a b = record {
  same_inputs = b.same_inputs ∙ a.same_inputs;
  same_outputs = b.same_outputs ∙ a.same_outputs;
  there = λ x y e m. b.there x y (e ∙ sym a.same_inputs) (a.there x y e m);
  back = λ x y e m. a.back x y e (b.back x y (e ∙ sym a.same_inputs) m);
}
