-- A verdict on the gates of a chip and of a netlist is true of their answers.
use Rattle.std.proofs.Common.{ℕ, ◌≡◌, ◌<◌, ◌+◌, Bool, false, List, length, sym, ap, subst, ◌∙◌, arith}
use Rattle.std.proofs.lemmas.List.{get_or-map, length-map}
use Rattle.circuit.specs.PlainNets.{PlainView}
use Rattle.circuit.specs.PlainNets as plain
use Rattle.circuit.specs.SameAnswers.{SameAnswers}
use Rattle.plan_build.proofs.SameThen.{same_then}
use Rattle.blif_read.specs.Parts.{NetView}
use Rattle.blif_read.specs.Equations as equations
use Rattle.blif_read.specs.Netlist.{IsNetlist}
use Rattle.maj_mapping.specs.Plan.{map_net}
use Rattle.maj_mapping.proofs.MappedNets.{same_inputs, same_count, keeps}
use Rattle.circuit_gates.specs.CellGates.{cells_of}
use Rattle.circuit_extracted.specs.Circuits.{CircuitView}
use Rattle.circuit_extracted.specs.Answers.{IsAnswer}
use Rattle.circuit.specs.CellNets.{IsCells, value}
use Rattle.circuit.proofs.CellAnswers.{some_answer, the_answer}
use Rattle.decide.specs.Subfunctions.{HasAtMost}
use Rattle.decide.specs.Verdicts.{shown, IsLeastDifference, IsVerdict, IsRefusal}
use Rattle.decide.specs.Verdicts as verdicts
use Rattle.decide.specs.declared.refusal.DecideRefusal.TheVariants.{TooMany}
use Rattle.decide.specs.declared.verdict.Verdict.{Verdict}
use Rattle.decide.specs.declared.verdict.Verdict.TheVariants.{Equal, LeastDifference, SomeDifference}
use Rattle.aqfp_top.specs.Comparing.{at, AgreeAt, DifferAt, IsFirstDifference, IsSomeDifference, IsTrueOf}
use Rattle.aqfp_top.specs.Comparing.{AreManyFunctions}

-- the first circuit has the counts and the answers of the second
same_back : (i j o p : ℕ) (f g : List Bool → List Bool → Type 0) → SameAnswers i j o p f g → SameAnswers j i p o g f
same_back i j o p f g s = record {
  same_inputs = sym s.same_inputs;
  same_outputs = sym s.same_outputs;
  there = λ x y e m. s.back x y (e ∙ s.same_inputs) m;
  back = λ x y e m. s.there x y (e ∙ s.same_inputs) m;
}

-- an output of an answer is the value of its gate
at_answer : (net : PlainView) (word answer : List Bool) (k : ℕ) → IsCells net → plain.IsAnswer net word answer
    → k < length net.outputs → at answer k ≡ shown net k word
at_answer net word answer k ok is lt = ap (λ a. at a k) (the_answer net word answer ok is)
    ∙ get_or-map (value net.gates word) net.outputs k 0 false lt

module _ (circuit : CircuitView) (view : NetView) (a b : PlainView) (a_cells : IsCells a) (b_cells : IsCells b)
    (first : SameAnswers circuit.inputs a.inputs (length circuit.outputs) (length a.outputs)
    (IsAnswer circuit) (plain.IsAnswer a))
    (second : SameAnswers view.inputs b.inputs (length view.outputs) (length b.outputs)
    (equations.IsAnswer view) (plain.IsAnswer b))
    (inputs : view.inputs ≡ circuit.inputs) (outputs : length view.outputs ≡ length circuit.outputs)
    (a_is : a ≡ cells_of circuit) (b_is : b ≡ map_net view) where
  many : (k : ℕ) → k < length circuit.outputs → k < length a.outputs
  many k lt = let is = first.same_outputs in omega arith

  many_too : (k : ℕ) → k < length circuit.outputs → k < length b.outputs
  many_too k lt = let is = second.same_outputs in omega arith

  -- where the gates agree, the answers do
  agree : (k : ℕ) (x : List Bool) → k < length circuit.outputs → length x ≡ circuit.inputs → shown a k x ≡ shown b k x
      → AgreeAt circuit view k x
  agree k x lt long same answer reply p q =
      at_answer a x answer k a_cells (first.there x answer long p) (many k lt) ∙ same
      ∙ sym (at_answer b x reply k b_cells (second.there x reply (long ∙ sym inputs) q) (many_too k lt))

  -- where they differ, some answers do
  differ : (k : ℕ) (x : List Bool) → k < length circuit.outputs → length x ≡ circuit.inputs
      → (shown a k x ≡ shown b k x → ⊥) → DifferAt circuit view k x
  differ k x lt long other =
      let answer = some_answer a x a_cells in
      let reply = some_answer b x b_cells in
      record {
        answer = answer.0;
        reply = reply.0;
        answers = first.back x answer.0 long answer.1;
        replies = second.back x reply.0 (long ∙ sym inputs) reply.1;
        differ = λ same. other
            (sym (at_answer a x answer.0 k a_cells answer.1 (many k lt)) ∙ same
            ∙ at_answer b x reply.0 k b_cells reply.1 (many_too k lt));
      }

  first_difference : (output : ℕ) (word : List Bool) → IsLeastDifference a b output word
      → IsFirstDifference circuit view output word
  first_difference output word d =
      let within : output < length circuit.outputs =
      (let lt : output < length a.outputs = d.output_within in let is = first.same_outputs in omega arith) in
      let long : length word ≡ circuit.inputs = d.long ∙ first.same_inputs in
      record {
        output_within = within;
        long = long;
        differ = differ output word within long d.differ;
        least_output = λ k x lt wide. agree k x (below k output (length circuit.outputs) lt within) wide
            (d.least_output k x lt (wide ∙ sym first.same_inputs));
        least_word = λ x wide before. agree output x within wide (d.least_word x (wide ∙ sym first.same_inputs) before);
      }
    where
      below : (k m n : ℕ) → k < m → m < n → k < n
      below k m n p q = omega arith

  some_difference : (output : ℕ) (word : List Bool) → verdicts.IsSomeDifference a b output word
      → IsSomeDifference circuit view output word
  some_difference output word d =
      let within : output < length circuit.outputs =
      (let lt : output < length a.outputs = d.output_within in let is = first.same_outputs in omega arith) in
      let long : length word ≡ circuit.inputs = d.long ∙ first.same_inputs in
      record {
        output_within = within;
        long = long;
        differ = differ output word within long d.differ;
        many = λ few. d.many (subst (λ x. HasAtMost a x 1000000) (sym b_is)
            (subst (λ x. HasAtMost x (map_net view) 1000000) (sym a_is) few));
      }

  pub truth : (verdict : Verdict) → IsVerdict a b verdict → IsTrueOf circuit view verdict
  truth Equal same =
      same_then circuit.inputs a.inputs view.inputs (length circuit.outputs) (length a.outputs) (length view.outputs)
      (IsAnswer circuit) (plain.IsAnswer a) (equations.IsAnswer view) first
      (same_then a.inputs b.inputs view.inputs (length a.outputs) (length b.outputs) (length view.outputs)
      (plain.IsAnswer a) (plain.IsAnswer b) (equations.IsAnswer view) same
      (same_back view.inputs b.inputs (length view.outputs) (length b.outputs) (equations.IsAnswer view)
      (plain.IsAnswer b) second))
  truth (LeastDifference output word) least = first_difference output word least
  truth (SomeDifference output word) some = some_difference output word some

-- The same of the gates of the chip's cells and of those that the netlist is mapped to.

pub gate_inputs : (circuit : CircuitView) (view : NetView) (a b : PlainView) → a ≡ cells_of circuit → b ≡ map_net view
    → view.inputs ≡ circuit.inputs → b.inputs ≡ a.inputs
gate_inputs circuit view a b a_is b_is same = ap (λ (n : PlainView). n.inputs) b_is
    ∙ (same_inputs view ∙ (same ∙ ap (λ (n : PlainView). n.inputs) (sym a_is)))

pub gate_outputs : (circuit : CircuitView) (view : NetView) (a b : PlainView) → a ≡ cells_of circuit → b ≡ map_net view
    → length view.outputs ≡ length circuit.outputs → length b.outputs ≡ length a.outputs
gate_outputs circuit view a b a_is b_is same =
    ap (λ (n : PlainView). length n.outputs) b_is
    ∙ (same_count view ∙ (same
    ∙ (sym (length-map circuit.outputs (λ source. circuit.inputs + source.cell))
    ∙ ap (λ (n : PlainView). length n.outputs) (sym a_is))))

pub chip_truth : (circuit : CircuitView) (view : NetView) (a b : PlainView) (verdict : Verdict) → IsCells a → IsCells b
    → a ≡ cells_of circuit → b ≡ map_net view → IsNetlist view
    → SameAnswers circuit.inputs a.inputs (length circuit.outputs) (length a.outputs) (IsAnswer circuit)
    (plain.IsAnswer a) → view.inputs ≡ circuit.inputs → length view.outputs ≡ length circuit.outputs
    → IsVerdict a b verdict → IsTrueOf circuit view verdict
chip_truth circuit view a b verdict a_cells b_cells a_is b_is keeps_net same inputs outputs says =
    truth circuit view a b a_cells b_cells same (keeps view b keeps_net b_is) inputs outputs a_is b_is verdict says

pub chip_functions : (circuit : CircuitView) (view : NetView) (a b : PlainView) (functions : ℕ) → a ≡ cells_of circuit
    → b ≡ map_net view → IsRefusal a b (TooMany functions) → AreManyFunctions circuit view functions
chip_functions circuit view a b functions a_is b_is refused = (
  refused.0,
  λ few. refused.1
      (subst (λ x. HasAtMost a x 1000000) (sym b_is)
      (subst (λ x. HasAtMost x (map_net view) 1000000) (sym a_is) few)),
)

pub ruleset compares = (gate_inputs, gate_outputs, chip_truth, chip_functions)
