-- Printing answers one after another.
use Rattle.std.proofs.Common.{◌≡◌, ℕ, zero, suc, ◌+◌, ◌*◌, ◌-◌, ◌≤◌, Bool, List, [], ◌∷◌, ◌++◌, length, refl, sym, ap}
use Rattle.std.proofs.Common.{subst, ◌∙◌, arith, append_assoc, append-nil, add-one, Result, Ok, Err, OnOk, IfErr}
use Rattle.std.specs.List.{flat_map}
use Rattle.std.proofs.lemmas.List.Concat.{flat_map-append}
use Rattle.aq_base.specs.Output.{Output, printed}
use Rattle.aq_base.specs.declared.store.StoreRefusal.{StoreRefusal}
use Rattle.circuit_extracted.specs.Circuits.{CircuitView}
use Rattle.text_answers.specs.Counts.{counts_line, delay_of}
use Rattle.text_answers.specs.WordLines.{word_line, values_at, first_answers, answers_to, answers_text}
use Rattle.text_answers.specs.Printing.{PrintsWithin, IsPrinted, PutsPage, RefusesPage}
use Rattle.text_answers.proofs.Pages.{within_first, nothing_printed, all_put}

-- one answer more
pub answers_more : (circuit : CircuitView) (words : List (List Bool)) (k : ℕ) (answer : List Bool)
    → answer ≡ values_at circuit words (4 * k + delay_of circuit) →
    answers_text circuit (first_answers circuit words k) ++ word_line answer ≡ answers_text circuit
    (first_answers circuit words (k + 1))
unfolding answers_text
answers_more circuit words k answer shown =
    append_assoc (counts_line circuit) (flat_map word_line (first_answers circuit words k)) (word_line answer)
    ∙ ap (λ lines. counts_line circuit ++ lines) (
    ap (λ line. flat_map word_line (first_answers circuit words k) ++ line) (sym (append-nil (word_line answer)))
    ∙ (sym (flat_map-append word_line (first_answers circuit words k) (answer ∷ []))
    ∙ (ap (λ a. flat_map word_line (first_answers circuit words k ++ a ∷ [])) shown
    ∙ ap (λ n. flat_map word_line (first_answers circuit words n)) (sym (add-one k)))))

-- the text of the first answers is the beginning of the text of more of them
pub record Begins (front whole : List ℕ) : Type 0 where
  pub rest : List ℕ
  pub whole_is : whole ≡ front ++ rest

begins_more : (circuit : CircuitView) (words : List (List Bool)) (k m : ℕ)
    → Begins (answers_text circuit (first_answers circuit words k))
    (answers_text circuit (first_answers circuit words (k + m)))
begins_more circuit words k zero =
    record {
      rest = [];
      whole_is = let same : ◌≡◌ {A = ℕ} (k + 0) k =
          omega arith in ap (λ n. answers_text circuit (first_answers circuit words n)) same
          ∙ sym (append-nil (answers_text circuit (first_answers circuit words k)));
    }
begins_more circuit words k (suc m) =
    let one : Begins (answers_text circuit (first_answers circuit words k))
    (answers_text circuit (first_answers circuit words (k + m))) = begins_more circuit words k m in
    let line : List ℕ = word_line (values_at circuit words (4 * (k + m) + delay_of circuit)) in
    record {
      rest = one.rest ++ line;
      whole_is = (let same : ◌≡◌ {A = ℕ} (k + suc m) (k + m + 1) =
          omega arith in ap (λ n. answers_text circuit (first_answers circuit words n)) same)
          ∙ (sym (answers_more circuit words (k + m) _ refl)
          ∙ (ap (λ t. t ++ line) one.whole_is
          ∙ append_assoc (answers_text circuit (first_answers circuit words k)) one.rest line));
    }

-- some first bytes of the first answers' text are some of the whole
pub prefix_of_answers : (circuit : CircuitView) (words : List (List Bool)) (k n : ℕ) (before now : Output)
    (why : StoreRefusal) → k ≤ n → PrintsWithin before now (answers_text circuit (first_answers circuit words k)) why
    → PrintsWithin before now (answers_text circuit (first_answers circuit words n)) why
prefix_of_answers circuit words k n before now why le part =
    let more : Begins (answers_text circuit (first_answers circuit words k))
    (answers_text circuit (first_answers circuit words (k + (n - k)))) = begins_more circuit words k (n - k) in
    let whole : answers_text circuit (first_answers circuit words n) ≡ answers_text circuit
    (first_answers circuit words k) ++ more.rest =
    (let same : ◌≡◌ {A = ℕ} n (k + (n - k)) =
    omega (arith, le) in ap (λ m. answers_text circuit (first_answers circuit words m)) same) ∙ more.whole_is in
    rw whole (within_first more.rest part)

-- before the first answer the page has the counts line
pub begins_with_counts : (old : Output) (page : List ℕ) (circuit : CircuitView) (words : List (List Bool))
    → page ≡ counts_line circuit → IsPrinted old old page (answers_text circuit (first_answers circuit words 0))
unfolding answers_text
begins_with_counts old page circuit words made = nothing_printed old page (counts_line circuit ++ [])
    (append-nil (counts_line circuit) ∙ sym made)

-- the last page is put
pub all_answered : (circuit : CircuitView) (words : List (List Bool)) (before old now : Output) (page left : List ℕ)
    (k : ℕ) (result : Result (Unit {0}) StoreRefusal) → k ≡ length words →
    IsPrinted before old page (answers_text circuit (first_answers circuit words k))
    → OnOk result (PutsPage old now page left) → OnOk result (left ≡ [])
    → OnOk result (now ≡ printed (answers_text circuit (answers_to circuit words)) before)
all_answered circuit words before old now page left k (Ok x) end is put empty =
    all_put before now (answers_text circuit (answers_to circuit words))
    (subst (λ n. IsPrinted before now [] (answers_text circuit (first_answers circuit words n))) end
    (subst (λ l. IsPrinted before now l (answers_text circuit (first_answers circuit words k))) empty
    (put before (answers_text circuit (first_answers circuit words k)) is)))
all_answered circuit words before old now page left k (Err e) end is put empty = tt

pub answers_refused : (circuit : CircuitView) (words : List (List Bool))
    (before old now : Output) (page : List ℕ) (k : ℕ)
    (result : Result (Unit {0}) StoreRefusal) → k ≡ length words
    → IsPrinted before old page (answers_text circuit (first_answers circuit words k))
    → IfErr result (RefusesPage old now page)
    → IfErr result (PrintsWithin before now (answers_text circuit (answers_to circuit words)))
answers_refused circuit words before old now page k (Ok x) end is refused = tt
answers_refused circuit words before old now page k (Err why) end is refused =
    subst (λ n. PrintsWithin before now (answers_text circuit (first_answers circuit words n)) why) end
    (refused before (answers_text circuit (first_answers circuit words k)) is)
