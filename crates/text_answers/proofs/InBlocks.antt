-- Blocks of words: their lines are read, and the lines of their answers are printed.
use Rattle.std.proofs.Common.{◌≡◌, ◌≢◌, ℕ, zero, suc, ◌+◌, ◌*◌, ◌-◌, ◌<◌, ◌≤◌, Bool, List, [], ◌∷◌, ◌++◌, All, length}
use Rattle.std.proofs.Common.{drop, get_or, refl, sym, ap, subst, ◌∙◌, arith, inl, inr, append_assoc, append-nil}
use Rattle.std.proofs.Common.{add-one}
use Rattle.std.specs.Str.Lines.{lines}
use Rattle.std.proofs.lemmas.Bool.{cases_eq}
use Rattle.std.proofs.lemmas.List.Elements.{All-drop}
use Rattle.std.proofs.lemmas.Option.{get_or_from_slice_get}
use Rattle.aq_base.specs.Output.{Output}
use Rattle.aq_base.specs.declared.store.StoreRefusal.{StoreRefusal}
use Rattle.circuit_extracted.specs.Answers.{IsAnswer}
use Rattle.circuit_extracted.specs.Circuits.{CircuitView}
use Rattle.text_answers.specs.Code.Lanes.{in_lane, lines_of}
use Rattle.text_answers.specs.Counts.{delay_of}
use Rattle.text_answers.specs.Printing.{PrintsWithin, IsPrinted, PrintsLine, RefusesLine}
use Rattle.text_answers.specs.WordLines.{word_line, values_at, first_answers, answers_text}
use Rattle.text_answers.specs.WordsText.{word_of}
use Rattle.text_answers.proofs.Answering.{Begins, answers_more}
use Rattle.text_answers.proofs.Pages.{within_first}
use Rattle.text_answers.proofs.Reading.{drop_step, get_step, first_fits}

-- ---- reading

-- the next line is as long as all are
pub next_long : (text rest line after : List ℕ) (k width : ℕ) → lines rest ≡ drop k (lines text)
    → lines rest ≡ line ∷ lines after → All (λ l. length l ≡ width) (lines text) → length line ≡ width
next_long text rest line after k width left cut wide =
    first_fits rest line (lines after) width cut
    (subst (All (λ (l : List ℕ). length l ≡ width)) (sym left)
    (All-drop (λ l. length l ≡ width) k (lines text) wide))

-- what is left after the next line
pub next_left : (text rest line after : List ℕ) (k : ℕ) → lines rest ≡ drop k (lines text)
    → lines rest ≡ line ∷ lines after → lines after ≡ drop (k + 1) (lines text)
next_left text rest line after k left cut = sym (drop_step k (lines text) line (lines after) (sym left ∙ cut))

-- the word of one more lane
pub words_more : (text rest line after : List ℕ) (k : ℕ) (old new : List ℕ) → lines rest ≡ drop k (lines text)
    → lines rest ≡ line ∷ lines after → in_lane k new ≡ word_of line
    → ((l : ℕ) → l < 128 → l ≢ k → in_lane l new ≡ in_lane l old) → k < 128 →
    ((i : ℕ) → i < k → in_lane i old ≡ word_of (get_or (lines text) i [])) → (i : ℕ) → i < k + 1
    → in_lane i new ≡ word_of (get_or (lines text) i [])
words_more text rest line after k old new left cut here others lane so_far i lt = elim (cases_eq i k) [
  | inl e ↦
      let line_is : get_or (lines text) k [] ≡ line = get_or_from_slice_get (lines text) k line []
      (get_step k (lines text) line (lines after) (sym left ∙ cut)) in
      ap (λ (j : ℕ). in_lane j new) e
      ∙ (here ∙ (ap word_of (sym line_is) ∙ ap (λ (j : ℕ). word_of (get_or (lines text) j [])) (sym e)))
  | inr ne ↦ others i (omega arith) ne ∙ so_far i (omega arith)
]

-- ---- printing

pub same_lines : (first second : ℕ → List Bool) (n : ℕ) → ((l : ℕ) → l < n → first l ≡ second l)
    → lines_of first n ≡ lines_of second n
same_lines first second zero same = refl
same_lines first second (suc n) same =
    ap (λ text. text ++ word_line (first n)) (same_lines first second n (λ l lt. same l (omega arith)))
    ∙ ap (λ word. lines_of second n ++ word_line word) (same n (omega arith))

-- the lines of the lanes are those of the answers, which are the only ones
pub answer_lines : (circuit : CircuitView) (words passed answers shown : List ℕ) (answer : ℕ → List Bool) (n : ℕ)
    → n ≤ 128 → ((word first second : List Bool) → IsAnswer circuit word first → IsAnswer circuit word second
    → first ≡ second) → passed ≡ words → shown ≡ answers →
    ((l : ℕ) → l < 128 → IsAnswer circuit (in_lane l passed) (in_lane l answers))
    → ((l : ℕ) → l < n → IsAnswer circuit (in_lane l words) (answer l))
    → lines_of (λ l. in_lane l shown) n ≡ lines_of answer n
answer_lines circuit words passed answers shown answer n few only kept same are due = same_lines
    (λ l. in_lane l shown) answer n (λ l lt.
    ap (in_lane l) same ∙ only (in_lane l words) (in_lane l answers) (answer l)
    (subst (λ (ws : List ℕ). IsAnswer circuit (in_lane l ws) (in_lane l answers)) kept (are l (omega arith)))
    (due l lt))

-- the first lines begin the lines of more words
lines_begin : (word : ℕ → List Bool) (k m : ℕ) → Begins (lines_of word k) (lines_of word (k + m))
lines_begin word k zero =
    record {
      rest = [];
      whole_is = let same : ◌≡◌ {A = ℕ} (k + 0) k = omega arith in ap (lines_of word) same
          ∙ sym (append-nil (lines_of word k));
    }
lines_begin word k (suc m) =
    let one : Begins (lines_of word k) (lines_of word (k + m)) = lines_begin word k m in
    record {
      rest = one.rest ++ word_line (word (k + m));
      whole_is = (let same : ◌≡◌ {A = ℕ} (k + suc m) (suc (k + m)) = omega arith in ap (lines_of word) same)
          ∙ (ap (λ t. t ++ word_line (word (k + m))) one.whole_is
          ∙ append_assoc (lines_of word k) one.rest (word_line (word (k + m))));
    }

pub lines_more : (word : ℕ → List Bool) (k : ℕ) (first old new : Output) (page left more : List ℕ)
    → PrintsLine first old page left (lines_of word k) → PrintsLine old new left more (word_line (word k))
    → PrintsLine first new page more (lines_of word (k + 1))
lines_more word k first old new page left more so_far one = λ before text printed.
    subst (IsPrinted before new more) (append_assoc text (lines_of word k) (word_line (word k))
    ∙ ap (λ n. text ++ lines_of word n) (sym (add-one k)))
    (one before (text ++ lines_of word k) (so_far before text printed))

pub lines_refused : (word : ℕ → List Bool) (k n : ℕ) (first old now : Output) (page left : List ℕ) (why : StoreRefusal)
    → k < n → PrintsLine first old page left (lines_of word k) → RefusesLine old now left (word_line (word k)) why
    → RefusesLine first now page (lines_of word n) why
lines_refused word k n first old now page left why lt so_far refused = λ before text printed.
    let more : Begins (lines_of word (suc k)) (lines_of word (suc k + (n - suc k))) =
    lines_begin word (suc k) (n - suc k) in
    let whole : lines_of word n ≡ lines_of word (suc k) ++ more.rest =
    (let same : ◌≡◌ {A = ℕ} n (suc k + (n - suc k)) = omega (arith, lt) in ap (lines_of word) same)
    ∙ more.whole_is in
    let some : PrintsWithin before now (text ++ lines_of word (suc k)) why = subst (λ t. PrintsWithin before now t why)
    (append_assoc text (lines_of word k) (word_line (word k)))
    (refused before (text ++ lines_of word k) (so_far before text printed)) in
    subst (λ t. PrintsWithin before now t why) (append_assoc text (lines_of word (suc k)) more.rest
    ∙ ap (λ t. text ++ t) (sym whole)) (within_first more.rest some)

-- the lines of a block of answers come behind those of the first answers
pub block_text : (circuit : CircuitView) (words : List (List Bool)) (k n : ℕ) →
    answers_text circuit (first_answers circuit words k) ++ lines_of
    (λ l. values_at circuit words (4 * (k + l) + delay_of circuit)) n ≡ answers_text circuit
    (first_answers circuit words (k + n))
block_text circuit words k zero = append-nil (answers_text circuit (first_answers circuit words k))
    ∙ (let same : ◌≡◌ {A = ℕ} k (k + 0) =
    omega arith in ap (λ m. answers_text circuit (first_answers circuit words m)) same)
block_text circuit words k (suc n) =
    sym (append_assoc (answers_text circuit (first_answers circuit words k))
    (lines_of (λ l. values_at circuit words (4 * (k + l) + delay_of circuit)) n)
    (word_line (values_at circuit words (4 * (k + n) + delay_of circuit))))
    ∙ (ap (λ t. t ++ word_line (values_at circuit words (4 * (k + n) + delay_of circuit)))
    (block_text circuit words k n)
    ∙ (answers_more circuit words (k + n) _ refl
    ∙ (let same : ◌≡◌ {A = ℕ} (k + n + 1) (k + suc n) =
    omega arith in ap (λ m. answers_text circuit (first_answers circuit words m)) same)))
