-- Values that are computed in the order of the gates.
use Rattle.std.proofs.Common.{◌≡◌, ℕ, ◌+◌, ◌<◌, Bool, false, List, [], ◌∷◌, ◌++◌, map, length, get_or, Result, Ok, Err}
use Rattle.std.proofs.Common.{sym, ap, ◌∙◌, subst, arith, inl, inr}
use Rattle.std.specs.Prelude.{IfOk}
use Rattle.std.proofs.lemmas.Option.{slice_get-get_or}
use Rattle.std.proofs.lemmas.Bool.{cases_lt}
use Rattle.std.proofs.lemmas.List.{get_or_append_left}
use Rattle.std.proofs.Math.Seq.{get_or-append_seam}
use Rattle.circuit.specs.Gates.{gate_value, valuation}
use Rattle.circuit.specs.PlainNets.{PlainView, IsAnswer}
use Rattle.circuit.specs.declared.gate.Gate.{Gate}
use Rattle.circuit.specs.declared.gate.Gate.TheVariants.{Input}
use Rattle.circuit.specs.CellNets.{AreCells, IsCells, value}
use Rattle.circuit.proofs.CellAnswers.{gate_same, value_fits, same_shown}

-- one more value
pub one_more : (n : ℕ) (gates : List Gate) (word values read more : List Bool) (k : ℕ) (v : Bool) → AreCells n gates
    → k < length gates → length values ≡ k → read ≡ values
    → v ≡ gate_value word (valuation read) (get_or gates k (Input 0)) → more ≡ values ++ v ∷ []
    → ((i : ℕ) → i < k → valuation values i ≡ value gates word i)
    → (i : ℕ) → i < k + 1 → valuation more i ≡ value gates word i
one_more n gates word values read more k v ok lt size r val is agrees i below =
    ap (λ vs. valuation vs i) is ∙ elim (cases_lt i k) [
      | inl small ↦ get_or_append_left values (v ∷ []) false i (omega arith) ∙ agrees i small
      | inr large ↦
          let gate = get_or gates k (Input 0) in
          let at : i ≡ k = omega arith in
          let here = slice_get-get_or gates k (Input 0) lt in
          ap (λ j. valuation (values ++ v ∷ []) j) (at ∙ sym size) ∙ get_or-append_seam values v [] false
          ∙ val ∙ ap (λ vs. gate_value word (valuation vs) gate) r
          ∙ gate_same n k gate (ok k gate here) word (valuation values) (value gates word) agrees
          ∙ sym (value_fits n gates ok word k gate here) ∙ ap (value gates word) (sym at)
    ]

answers : (net : PlainView) (word values answer : List Bool) → IsCells net
    → ((i : ℕ) → i < length net.gates → valuation values i ≡ value net.gates word i)
    → answer ≡ map (valuation values) net.outputs → IsAnswer net word answer
answers net word values answer ok agrees e = record {
  values = value net.gates word;
  fit = value_fits net.inputs net.gates ok.gates_read word;
  shown = e ∙ same_shown (valuation values) (value net.gates word) (length net.gates) agrees net.outputs ok.each_output;
}

-- what the code shows is the answer
pub shown_answers : {E : Type 0} (r : Result (List Bool) E) (net self : PlainView) (gates : List Gate)
    (outputs : List ℕ) (word given values read : List Bool)
    → IsCells net → net ≡ self → gates ≡ net.gates → outputs ≡ net.outputs → given ≡ word → read ≡ values
    → ((i : ℕ) → i < length gates → valuation values i ≡ value gates given i)
    → IfOk r (λ answer. answer ≡ map (valuation read) outputs) → IfOk r (λ answer. IsAnswer self word answer)
shown_answers (Err e) net self gates outputs word given values read ok n d o g r agrees shown = tt
shown_answers (Ok answer) net self gates outputs word given values read ok n d o g r agrees shown =
    subst (λ x. IsAnswer x word answer) n
    (answers net word values answer ok
    (subst (λ w. (i : ℕ) → i < length net.gates → valuation values i ≡ value net.gates w i) g
    (subst (λ gs. (i : ℕ) → i < length gs → valuation values i ≡ value gs given i) d agrees))
    (shown ∙ ap (λ vs. map (valuation vs) outputs) r ∙ ap (map (valuation values)) o))
