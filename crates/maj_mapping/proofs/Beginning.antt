-- The inputs of a net, made one after the other.
use Rattle.std.proofs.Common.{◌≡◌, ℕ, zero, suc, ◌+◌, ◌-◌, ◌<◌, ◌≤◌, List, [], ◌∷◌, ◌++◌, replicate, Option, Some, None}
use Rattle.std.proofs.Common.{refl, sym, ap, ◌∙◌, arith, append_assoc, append-nil, add-one, length, length-append}
use Rattle.circuit.specs.declared.gate.Gate.{Gate}
use Rattle.circuit.specs.declared.gate.Gate.TheVariants.{Input}
use Rattle.maj_mapping.specs.Plan.{input_gates, input_names}
use Rattle.maj_mapping.specs.Code.MakerView.{MakerView, with_gates}

pub record Begins (inputs input : ℕ) (maker : MakerView) : Type 0 where
  pub same : maker.inputs ≡ inputs
  pub gates : maker.gates ++ input_gates input (inputs - input) ≡ input_gates 0 inputs

next_inputs : (i left : ℕ) (k : ℕ) → left ≡ suc k → input_gates i left ≡ Input i ∷ input_gates (suc i) k
next_inputs i left k e = ap (input_gates i) e

pub one_more : (inputs input : ℕ) (before after : MakerView) → input < inputs → Begins inputs input before
    → after ≡ with_gates before (before.gates ++ Input input ∷ []) → Begins inputs (input + 1) after
one_more inputs input before after lt b is = record {
  same = ap (λ (m : MakerView). m.inputs) is ∙ b.same;
  gates =
      let more : suc input ≡ input + 1 = omega arith in
      let left : inputs - input ≡ suc (inputs - (input + 1)) = omega arith in
      ap (λ (m : MakerView). m.gates ++ input_gates (input + 1) (inputs - (input + 1))) is
      ∙ append_assoc before.gates (Input input ∷ []) (input_gates (input + 1) (inputs - (input + 1)))
      ∙ ap (λ j. before.gates ++ Input input ∷ input_gates j (inputs - (input + 1))) (sym more)
      ∙ ap (λ gs. before.gates ++ gs) (sym (next_inputs input (inputs - input) (inputs - (input + 1)) left))
      ∙ b.gates;
}

next_names : (i left k : ℕ) → left ≡ suc k → input_names i left ≡ Some i ∷ input_names (suc i) k
next_names i left k e = ap (input_names i) e

-- one more input has its gate
pub one_name : (inputs input : ℕ) (before after : List (Option ℕ)) → input < inputs
    → before ++ input_names input (inputs - input) ≡ input_names 0 inputs → after ≡ before ++ Some input ∷ []
    → after ++ input_names (input + 1) (inputs - (input + 1)) ≡ input_names 0 inputs
one_name inputs input before after lt b is =
    let more : suc input ≡ input + 1 = omega arith in
    let left : inputs - input ≡ suc (inputs - (input + 1)) = omega arith in
    ap (λ (m : List (Option ℕ)). m ++ input_names (input + 1) (inputs - (input + 1))) is
    ∙ append_assoc before (Some input ∷ []) (input_names (input + 1) (inputs - (input + 1)))
    ∙ ap (λ j. before ++ Some input ∷ input_names j (inputs - (input + 1))) (sym more)
    ∙ ap (λ gs. before ++ gs) (sym (next_names input (inputs - input) (inputs - (input + 1)) left))
    ∙ b

-- all inputs have their gates
pub all_names : (inputs input : ℕ) (made : List (Option ℕ))
    → made ++ input_names input (inputs - input) ≡ input_names 0 inputs → inputs ≤ input
    → made ≡ input_names 0 inputs ++ replicate {A = Option ℕ} 0 None
all_names inputs input made e past =
    let none : inputs - input ≡ 0 = omega arith in
    sym (append-nil made) ∙ ap (λ k. made ++ input_names input k) (sym none) ∙ e
    ∙ sym (append-nil (input_names 0 inputs))

pub one_none : (n k : ℕ) (before after : List (Option ℕ)) → before ≡ input_names 0 n ++ replicate {A = Option ℕ} k None
    → after ≡ before ++ None ∷ [] → after ≡ input_names 0 n ++ replicate {A = Option ℕ} (k + 1) None
one_none n k before after b is = is ∙ ap (λ xs. xs ++ None ∷ []) b
    ∙ append_assoc (input_names 0 n) (replicate {A = Option ℕ} k None) (None ∷ [])
    ∙ ap (λ xs. input_names 0 n ++ xs) (last k ∙ ap (λ j. replicate {A = Option ℕ} j None) (sym (add-one k)))
  where
    last : (k : ℕ) → replicate {A = Option ℕ} k None ++ None ∷ [] ≡ None ∷ replicate {A = Option ℕ} k None
    last zero = refl
    last (suc k) = ap (λ (xs : List (Option ℕ)). None ∷ xs) (last k)

-- how many gates there are before an input
pub begun_size : (inputs input : ℕ) (maker : MakerView) → Begins inputs input maker
    → length maker.gates + (inputs - input) ≡ inputs
begun_size inputs input maker b =
    let all = ap (λ (gs : List Gate). length gs) b.gates in
    let parts = length-append maker.gates (input_gates input (inputs - input)) in
    omega (arith, all, parts, input_size input (inputs - input), input_size 0 inputs)
  where
    input_size : (i k : ℕ) → length (input_gates i k) ≡ k
    input_size i zero = refl
    input_size i (suc k) = ap suc (input_size (suc i) k)

-- and after one more
pub one_longer : (before after : MakerView) (g : Gate) → after ≡ with_gates before (before.gates ++ g ∷ [])
    → length after.gates ≡ length before.gates + 1
one_longer before after g is = ap (λ (m : MakerView). length m.gates) is ∙ length-append before.gates (g ∷ [])
