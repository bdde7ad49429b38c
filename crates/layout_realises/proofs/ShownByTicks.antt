-- What a chip's circuit shows by clocks it shows by ticks too, where its answers have a bit for each output.
use Rattle.std.proofs.Common.{◌≡◌, ℕ, ◌-◌, Bool, List, [], ◌∷◌, length, All, refl, sym, ap, ◌∙◌, arith, suc}
use Rattle.std.specs.List.{AllByRecursion, AllZip}
use Rattle.std.proofs.lemmas.List.Elements.{All-from_recursion}
use Rattle.circuit_extracted.specs.Circuits.{CircuitView}
use Rattle.pulse_sim.specs.Shows.{Shows}
use Rattle.pulse_sim.specs.Clocked.{ShowsByClocks}
use Rattle.layout_realises.specs.Realises.{AnswersAll}

as_many : (R : List Bool → List Bool → Type 0) (xs ys : List (List Bool)) → AllZip R xs ys → length ys ≡ length xs
as_many R [] [] all = refl
as_many R [] (z ∷ ys) all = absurd all
as_many R (x ∷ xs) [] all = absurd all
as_many R (x ∷ xs) (z ∷ ys) all = ap suc (as_many R xs ys all.1)

module _ (inputs outputs : ℕ) (answers : List Bool → List Bool → Type 0)
    (whole : (word answer : List Bool) → length word ≡ inputs → answers word answer → length answer ≡ outputs) where
  each_wide : (words replies : List (List Bool)) → All (λ word. length word ≡ inputs) words
      → AllZip answers words replies → AllByRecursion (λ answer. length answer ≡ outputs) replies
  each_wide [] [] wide all = tt
  each_wide [] (y ∷ ys) wide all = absurd all
  each_wide (x ∷ xs) [] wide all = absurd all
  each_wide (x ∷ xs) (y ∷ ys) wide all =
      (whole x y (wide 0 [] (omega arith)) all.0, each_wide xs ys (λ k d h. wide (suc k) d (omega arith)) all.1)

  pub shown_by_ticks : (circuit : CircuitView) → circuit.inputs ≡ inputs
      → length circuit.outputs ≡ outputs
      → ((words replies : List (List Bool)) → length replies ≡ length words
      → All (λ word. length word ≡ circuit.inputs) words
      → All (λ answer. length answer ≡ length circuit.outputs) replies
      → ShowsByClocks circuit (circuit.rows - 1) words replies → Shows circuit (circuit.rows - 1) words replies)
      → (words : List (List Bool)) → All (λ word. length word ≡ inputs) words
      → (all : AnswersAll circuit (circuit.rows - 1) answers words)
      → Shows circuit (circuit.rows - 1) words all.replies
  shown_by_ticks circuit ins outs enough words wide all =
      let each : All (λ answer. length answer ≡ outputs) all.replies =
      All-from_recursion (λ answer. length answer ≡ outputs) all.replies
      (each_wide words all.replies wide all.are_answers) in
      enough words all.replies (as_many answers words all.replies all.are_answers)
      (λ k d h. wide k d h ∙ sym ins) (λ k d h. each k d h ∙ sym outs) all.by_clocks
