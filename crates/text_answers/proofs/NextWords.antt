-- The words of a text one after another, and the answer to each.
use Rattle.std.proofs.Common.{◌≡◌, ℕ, zero, suc, ◌+◌, ◌*◌, ◌<◌, ◌≤◌, Bool, List, [], ◌∷◌, ◌++◌, inl, inr, length, drop}
use Rattle.std.proofs.Common.{get_or, All, refl, sym, ap, subst, ◌∙◌, arith}
use Rattle.std.specs.List.{AllZip}
use Rattle.std.specs.Str.Lines.{lines}
use Rattle.std.proofs.Math.ListN.{get_or-append, length-append}
use Rattle.std.proofs.Math.Seq.{get_or-append_seam}
use Rattle.std.proofs.lemmas.Bool.{cases_eq}
use Rattle.std.proofs.lemmas.List.{length-map, drop-drop, get_or-drop, get_or-map}
use Rattle.std.proofs.lemmas.List.Elements.{All-drop, AllZip-get_or}
use Rattle.circuit_extracted.specs.Circuits.{CircuitView}
use Rattle.circuit_extracted.specs.Answers.{IsAnswer}
use Rattle.text_answers.specs.Code.Lanes.{in_lane}
use Rattle.text_answers.specs.Counts.{delay_of}
use Rattle.text_answers.specs.WordLines.{values_at, first_answers, answers_to}
use Rattle.text_answers.specs.WordsText.{word_of, words_of}
use Rattle.text_answers.proofs.Reading.{lengths_of}

-- ---- what is left of a text

-- the lines that are left are as wide as the words
pub left_wide : (text rest : List ℕ) (k width n : ℕ) → lines rest ≡ drop k (lines text)
    → All (λ w. length w ≡ width) (words_of text) → n ≡ width → All (λ line. length line ≡ n) (lines rest)
left_wide text rest k width n here wide long = rw (here, long)
    (All-drop (λ line. length line ≡ width) k (lines text) (lengths_of width (lines text) wide))

-- and what is left after some of them
pub left_after : (text rest after : List ℕ) (k n : ℕ) → lines rest ≡ drop k (lines text)
    → lines after ≡ drop n (lines rest) → lines after ≡ drop (k + n) (lines text)
left_after text rest after k n here left = left ∙ (ap (drop n) here ∙ drop-drop n k (lines text))

-- the word of a line that is left
left_word : (text rest : List ℕ) (words : List (List Bool)) (k l : ℕ) → lines rest ≡ drop k (lines text)
    → words_of text ≡ words → k + l < length words → word_of (get_or (lines rest) l []) ≡ get_or words (k + l) []
left_word text rest words k l here same some =
    let within : k + l < length (lines text) = omega (arith, ap length same, length-map (lines text) word_of) in
    ap (λ (ls : List (List ℕ)). word_of (get_or ls l [])) here
    ∙ (ap word_of (get_or-drop k (lines text) l [])
    ∙ (sym (get_or-map word_of (lines text) (k + l) [] [] within)
    ∙ ap (λ (ws : List (List Bool)). get_or ws (k + l) []) same))

-- ---- the answer that is due

first_long : (circuit : CircuitView) (words : List (List Bool)) (n : ℕ) → length (first_answers circuit words n) ≡ n
first_long circuit words zero = refl
first_long circuit words (suc n) =
    (let k = first_long circuit words n in omega
    (arith, length-append (first_answers circuit words n) (values_at circuit words (4 * n + delay_of circuit) ∷ [])))

first_at : (circuit : CircuitView) (words : List (List Bool)) (n k : ℕ) (d : List Bool) → k < n
    → get_or (first_answers circuit words n) k d ≡ values_at circuit words (4 * k + delay_of circuit)
first_at circuit words zero k d lt = absurd (omega arith)
first_at circuit words (suc n) k d lt =
    let front : List (List Bool) = first_answers circuit words n in
    let last : List Bool = values_at circuit words (4 * n + delay_of circuit) in
    let long : length front ≡ n = first_long circuit words n in
    elim (cases_eq k n) [
      | inl e ↦ ap (λ (j : ℕ). get_or (front ++ last ∷ []) j d) (e ∙ sym long)
          ∙ (get_or-append_seam front last [] d
          ∙ ap (λ (j : ℕ). values_at circuit words (4 * j + delay_of circuit)) (sym e))
      | inr ne ↦ get_or-append front (last ∷ []) d k (omega arith) ∙ first_at circuit words n k d (omega arith)
    ]

-- what the settled run shows is the answer to each word of a block
pub block_due : (circuit : CircuitView) (text rest : List ℕ) (words : List (List Bool)) (lanes : List ℕ) (k n : ℕ)
    → AllZip (IsAnswer circuit) words (answers_to circuit words) → lines rest ≡ drop k (lines text)
    → words_of text ≡ words → k + n ≤ length words →
    ((l : ℕ) → l < n → in_lane l lanes ≡ word_of (get_or (lines rest) l [])) → (l : ℕ) → l < n
    → IsAnswer circuit (in_lane l lanes) (values_at circuit words (4 * (k + l) + delay_of circuit))
block_due circuit text rest words lanes k n zip here same some read l lt =
    let due : IsAnswer circuit (get_or words (k + l) []) (get_or (answers_to circuit words) (k + l) []) = AllZip-get_or
    (IsAnswer circuit) words (answers_to circuit words) (k + l) [] [] zip (omega arith) in
    let word : get_or words (k + l) [] ≡ in_lane l lanes =
    sym (read l lt ∙ left_word text rest words k l here same (omega arith)) in
    subst (λ w. IsAnswer circuit w (values_at circuit words (4 * (k + l) + delay_of circuit))) word
    (subst (IsAnswer circuit (get_or words (k + l) []))
    (first_at circuit words (length words) (k + l) [] (omega arith)) due)
