-- A chip that realises one relation of words and answers realises each other one that has the same answers.
use Rattle.std.proofs.Common.{◌≡◌, ℕ, suc, sym, ◌∙◌, arith, Bool, List, [], ◌∷◌, length, All}
use Rattle.std.specs.List.{AllZip}
use Rattle.circuit.specs.SameAnswers.{SameAnswers}
use Rattle.layout_rules.specs.Limits.{Limits}
use Rattle.circuit_extracted.specs.Circuits.{CircuitView}
use Rattle.layout_realises.specs.Realises.{Realises}

module _ (i j o q : ℕ) (f g : List Bool → List Bool → Type 0) (same : SameAnswers i j o q f g) where
  -- answers of the second relation are those of the first
  answers_as : (words replies : List (List Bool)) → All (λ word. length word ≡ i) words → AllZip g words replies
      → AllZip f words replies
  answers_as [] [] wide all = tt
  answers_as [] (y ∷ ys) wide all = absurd all
  answers_as (x ∷ xs) [] wide all = absurd all
  answers_as (x ∷ xs) (y ∷ ys) wide all =
      (same.back x y (wide 0 [] (omega arith)) all.0, answers_as xs ys (λ k d h. wide (suc k) d (omega arith)) all.1)

  widths_as : (words : List (List Bool)) → All (λ word. length word ≡ i) words → All (λ word. length word ≡ j) words
  widths_as words wide k d h = wide k d h ∙ sym same.same_inputs

  pub realises_as : (bytes : List ℕ) (limits : Limits) (circuit : CircuitView) (delay : ℕ)
      → Realises bytes limits j q g circuit delay → Realises bytes limits i o f circuit delay
  realises_as bytes limits circuit delay r = record {
    layout = r.layout;
    writable = r.writable;
    stream = r.stream;
    rules = r.rules;
    extracted = r.extracted;
    input_count = r.input_count ∙ same.same_inputs;
    output_count = r.output_count ∙ same.same_outputs;
    answers_all = λ words wide.
        let h = r.answers_all words (widths_as words wide) in
        record {
          replies = h.replies;
          are_answers = answers_as words h.replies wide h.are_answers;
          by_clocks = h.by_clocks;
        };
  }
