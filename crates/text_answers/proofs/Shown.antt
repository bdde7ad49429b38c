-- What is read off the settled run are the answers that every run shows.
use Rattle.std.proofs.Common.{◌≡◌, ℕ, zero, suc, ◌+◌, ◌*◌, ◌<◌, ◌≤◌, Bool, true, false, List, [], ◌∷◌, ◌++◌, length}
use Rattle.std.proofs.Common.{map, take, get_or, refl, sym, ap, ◌∙◌, arith, add-one}
use Rattle.std.specs.List.{AllZip}
use Rattle.std.proofs.lemmas.List.{take_more, take_all}
use Rattle.std.proofs.lemmas.Option.{slice_get-get_or}
use Rattle.circuit_extracted.specs.Circuits.{CircuitView}
use Rattle.circuit_extracted.specs.Answers.{IsAnswer}
use Rattle.pulse_sim.specs.Fluxes.{sign}
use Rattle.pulse_sim.specs.Pulsing.{is_plus}
use Rattle.pulse_sim.specs.Runs.{IsLegalRun}
use Rattle.pulse_sim.specs.Settled.{settled_run}
use Rattle.pulse_sim.specs.Shows.{Shows}
use Rattle.text_answers.specs.Counts.{delay_of}
use Rattle.text_answers.specs.WordLines.{values_at, first_answers, answers_to}

-- where each word has an answer the words have answers
pub some_answers : (circuit : CircuitView) → ((word : List Bool) → (answer : List Bool) × IsAnswer circuit word answer)
    → (words : List (List Bool)) → (answers : List (List Bool)) × AllZip (IsAnswer circuit) words answers
some_answers circuit each [] = ([], tt)
some_answers circuit each (word ∷ words) = let one = each word in let rest = some_answers circuit each words in
    (one.0 ∷ rest.0, (one.1, rest.1))

value_of_sign : (value : Bool) → is_plus (sign value) ≡ value
value_of_sign true = refl
value_of_sign false = refl

values_of_signs : (word : List Bool) → map is_plus (map sign word) ≡ word
values_of_signs [] = refl
values_of_signs (value ∷ word) = ap (λ v. v ∷ map is_plus (map sign word)) (value_of_sign value)
    ∙ ap (λ w. value ∷ w) (values_of_signs word)

module _ (circuit : CircuitView) (words answers : List (List Bool)) (legal : (n : ℕ)
    → IsLegalRun circuit words n (settled_run circuit words))
    (shows : Shows circuit (delay_of circuit) words answers) where
  value_shown : (k : ℕ) → k < length answers → values_at circuit words (4 * k + delay_of circuit) ≡ get_or answers k []
  value_shown k within =
      ap (map is_plus) (shows.shown (suc (4 * k + delay_of circuit)) (settled_run circuit words)
      (legal (suc (4 * k + delay_of circuit))) k (get_or answers k [])
      (slice_get-get_or answers k [] within) (omega arith))
      ∙ values_of_signs (get_or answers k [])

  first_are : (k : ℕ) → k ≤ length answers → first_answers circuit words k ≡ take k answers
  first_are zero le = refl
  first_are (suc k) le =
      ap (λ xs. xs ++ values_at circuit words (4 * k + delay_of circuit) ∷ []) (first_are k (omega (arith, le)))
      ∙ (ap (λ x. take k answers ++ x ∷ []) (value_shown k (omega (arith, le)))
      ∙ (sym (take_more answers k [] (omega (arith, le))) ∙ ap (λ n. take n answers) (add-one k)))

  pub answers_are : answers_to circuit words ≡ answers
  answers_are = ap (first_answers circuit words) (sym shows.as_many)
      ∙ (first_are (length answers) (omega arith) ∙ take_all (length answers) answers (omega arith))
