-- Reading a words text line by line.
use Rattle.std.proofs.Common.{◌≡◌, ℕ, zero, suc, ◌+◌, ◌-◌, ◌<◌, ◌≤◌, ◌/◌, ◌%◌, Bool, true, false, List, [], ◌∷◌, ◌++◌}
use Rattle.std.proofs.Common.{length, take, drop, map, get_or, slice_get, Some, All, set, add-one, sym, ap, subst, ◌∙◌}
use Rattle.std.proofs.Common.{arith}
use Rattle.std.specs.Option.{option_map}
use Rattle.std.specs.Str.Lines.{lines}
use Rattle.std.proofs.lemmas.List.{drop-drop, length-drop, take_all, take_more, get_or-drop, length-map, drop_all}
use Rattle.std.proofs.lemmas.List.{get_or-map, take_more_set}
use Rattle.std.proofs.lemmas.List.Elements.{All-append, All-drop, All-map}
use Rattle.std.proofs.lemmas.Bool.Decides.{nat_tests}
use Rattle.std.proofs.lemmas.Option.{slice_get-get_or, slice_get-map, slice_get_past}
use Rattle.pulse_sim.specs.Pulsing.{Pulsing}
use Rattle.pulse_sim.specs.Settled.{settled_run, settled_tick}
use Rattle.text_answers.specs.Running.{entered, present_word, IsWaiting, IsFed, IsRunning}
use Rattle.text_answers.specs.WordsText.{is_one, is_word, word_of, words_of, SaysWords, IsBadLine}

-- Steps of a list that is read item by item: the first n are read, and the rest begins with x.

pub within_list : {X : Type 0} (n : ℕ) (all : List X) (x : X) (more : List X) → drop n all ≡ x ∷ more → n < length all
within_list n all x more e = let long : ◌≡◌ {A = ℕ} (length all - n) (suc (length more)) = sym (length-drop n all)
    ∙ ap length e in omega (arith, long)

pub drop_step : {X : Type 0} (n : ℕ) (all : List X) (x : X) (more : List X) → drop n all ≡ x ∷ more
    → drop (n + 1) all ≡ more
drop_step n all x more e = sym (drop-drop 1 n all) ∙ ap (drop 1) e

first_is : {X : Type 0} (n : ℕ) (all : List X) (x : X) (more : List X) → drop n all ≡ x ∷ more → get_or all n x ≡ x
first_is n all x more e = subst (λ m. get_or all m x ≡ x) (omega arith) (sym (get_or-drop n all 0 x)
    ∙ ap (λ xs. get_or xs 0 x) e)

pub get_step : {X : Type 0} (n : ℕ) (all : List X) (x : X) (more : List X) → drop n all ≡ x ∷ more
    → slice_get all n ≡ Some x
get_step n all x more e = slice_get-get_or all n x (within_list n all x more e)
    ∙ ap (λ y. Some y) (first_is n all x more e)

take_step : {X : Type 0} (n : ℕ) (all : List X) (x : X) (more : List X) → drop n all ≡ x ∷ more
    → take (n + 1) all ≡ take n all ++ x ∷ []
take_step n all x more e = take_more all n x (within_list n all x more e)
    ∙ ap (λ y. take n all ++ y ∷ []) (first_is n all x more e)

pub at_end : {X : Type 0} (n : ℕ) (all : List X) → drop n all ≡ [] → length all ≤ n
at_end n all e = let long : ◌≡◌ {A = ℕ} (length all - n) 0 = sym (length-drop n all)
    ∙ ap length e in omega (arith, long)

-- the lines so far are words, and the rest of the text has the others
pub record IsReadTo (width : ℕ) (text rest : List ℕ) (count : ℕ) : Type 0 where
  pub left : lines rest ≡ drop count (lines text)
  pub good : All (λ line. is_word width line ≡ true) (take count (lines text))
  pub within : count ≤ length (lines text)
  pub room : count + length rest ≤ length text

one_word : (width : ℕ) (line : List ℕ) → is_word width line ≡ true → (k : ℕ) (d : List ℕ) → k < length (line ∷ [])
    → is_word width (get_or (line ∷ []) k d) ≡ true
one_word width line good zero d lt = good
one_word width line good (suc k) d lt = absurd (omega arith)

pub read_more : (width : ℕ) (text rest after line : List ℕ) (count : ℕ) → IsReadTo width text rest count
    → lines rest ≡ line ∷ lines after → length after < length rest → is_word width line ≡ true
    → IsReadTo width text after (count + 1)
read_more width text rest after line count so_far cut shorter good =
    let here : drop count (lines text) ≡ line ∷ lines after = sym so_far.left ∙ cut in
    record {
      left = sym (drop_step count (lines text) line (lines after) here);
      good = rw (take_step count (lines text) line (lines after) here)
          (All-append (λ l. is_word width l ≡ true) (take count (lines text)) (line ∷ []) so_far.good
          (one_word width line good));
      within = let w = within_list count (lines text) line (lines after) here in omega (arith, w);
      room = let r = so_far.room in omega (arith, r, shorter);
    }

pub read_bad : (width : ℕ) (text rest after line : List ℕ) (count number : ℕ) → IsReadTo width text rest count
    → lines rest ≡ line ∷ lines after → is_word width line ≡ false → number ≡ count + 1 → IsBadLine width text number
read_bad width text rest after line count number so_far cut bad e = record {
  index = count;
  number_is = e;
  line = line;
  line_is = get_step count (lines text) line (lines after) (sym so_far.left ∙ cut);
  bad = bad;
  before = so_far.good;
}

pub read_all : (width : ℕ) (text rest : List ℕ) (count : ℕ) → IsReadTo width text rest count → rest ≡ []
    → SaysWords width text × (count ≡ length (lines text))
read_all width text rest count so_far e =
    let none : drop count (lines text) ≡ [] = sym so_far.left ∙ ap lines e in
    let end : length (lines text) ≤ count = at_end count (lines text) none in
    let all : take count (lines text) ≡ lines text = take_all count (lines text) end in
    let w = so_far.within in
    (subst (All (λ line. is_word width line ≡ true)) all so_far.good, omega (arith, end, w))

-- The words of a text enter one after another, each at a time that is a multiple of four.

entered_at : (time : ℕ) → time % 4 ≡ 0 → entered time ≡ time / 4
entered_at time e = omega arith

entered_after : (time : ℕ) → time % 4 ≡ 0 → entered (time + 1) ≡ time / 4 + 1
entered_after time e = omega arith

-- no word is left
pub none_enters : (text rest : List ℕ) (word : List Bool) (is_given : Bool) (time width : ℕ) → time % 4 ≡ 0 → rest ≡ []
    → IsWaiting text rest word is_given time width → IsFed text rest word false time width
none_enters text rest word is_given time width e none waiting =
    let dropped : drop (time / 4) (lines text) ≡ [] = ap (λ n. drop n (lines text)) (sym (entered_at time e))
    ∙ (sym waiting.to_enter ∙ ap lines none) in
    let end : length (lines text) ≤ time / 4 = at_end (time / 4) (lines text) dropped in
    record {
      wide = waiting.wide;
      buffer = waiting.buffer;
      to_enter = ap lines none ∙ sym
          (drop_all (entered (time + 1)) (lines text) (omega (arith, end, entered_after time e)));
      present = slice_get-map word_of (lines text) (time / 4)
          ∙ ap (option_map word_of) (slice_get_past (lines text) (time / 4) end);
    }

-- the next line's word enters
pub one_enters : (text rest line after : List ℕ) (word new : List Bool) (is_given : Bool) (time width : ℕ)
    → time % 4 ≡ 0 → lines rest ≡ line ∷ lines after → new ≡ word_of line → length new ≡ length word →
    IsWaiting text rest word is_given time width → IsFed text after new true time width
one_enters text rest line after word new is_given time width e cut copied long waiting =
    let here : drop (time / 4) (lines text) ≡ line ∷ lines after = ap (λ n. drop n (lines text))
    (sym (entered_at time e)) ∙ (sym waiting.to_enter ∙ cut) in
    record {
      wide = waiting.wide;
      buffer = long ∙ waiting.buffer;
      to_enter = sym (drop_step (time / 4) (lines text) line (lines after) here)
          ∙ ap (λ n. drop n (lines text)) (sym (entered_after time e));
      present = slice_get-map word_of (lines text) (time / 4)
          ∙ (ap (option_map word_of) (get_step (time / 4) (lines text) line (lines after) here)
          ∙ ap (λ w. Some w) (sym copied));
    }

pub lengths_of : (width : ℕ) (all : List (List ℕ)) → All (λ w. length w ≡ width) (map word_of all)
    → All (λ line. length line ≡ width) all
lengths_of width all wide k d lt =
    sym (length-map (get_or all k d) is_one)
    ∙ (ap length (sym (get_or-map word_of all k d (word_of d) lt))
    ∙ wide k (word_of d) (rw (length-map all word_of) lt))

-- each line of the rest is as long as the buffer
pub lines_fit : (text rest : List ℕ) (word : List Bool) (is_given : Bool) (time width : ℕ)
    → IsWaiting text rest word is_given time width → All (λ line. length line ≡ length word) (lines rest)
lines_fit text rest word is_given time width waiting =
    rw (waiting.to_enter, waiting.buffer)
    (All-drop (λ line. length line ≡ width) (entered time) (lines text)
    (lengths_of width (lines text) waiting.wide))

pub waiting_at : (text rest : List ℕ) (word : List Bool) (is_given : Bool) (time now width : ℕ) → now ≡ time
    → IsWaiting text rest word is_given time width → IsWaiting text rest word is_given now width
waiting_at text rest word is_given time now width e waiting =
    subst (λ t. IsWaiting text rest word is_given t width) (sym e) waiting

-- the tick of the time
pub runs_on : (text rest : List ℕ) (word : List Bool) (is_given : Bool) (time : ℕ) (old new : Pulsing) → time ≡ old.time
    → IsFed text rest word is_given time old.circuit.inputs
    → old.fluxes ≡ settled_run old.circuit (words_of text) old.time →
    new ≡ record {
      circuit = old.circuit;
      time = old.time + 1;
      fluxes = settled_tick old.circuit (present_word is_given word) old.time old.fluxes;
    } → IsRunning text rest word is_given new
runs_on text rest word is_given time old new at fed settled made =
    subst (IsRunning text rest word is_given) (sym made) (record {
      waiting = record {
        wide = fed.wide;
        buffer = fed.buffer;
        to_enter = fed.to_enter ∙ ap (λ t. drop (entered (t + 1)) (lines text)) at;
        present = λ later. ap (slice_get (words_of text)) (omega (arith, later, at)) ∙ fed.present;
      };
      settled = rw settled
          (ap (λ w. settled_tick old.circuit w old.time (settled_run old.circuit (words_of text) old.time))
          (sym (ap (λ t. slice_get (words_of text) (t / 4)) (sym at) ∙ fed.present))
          ∙ ap (settled_run old.circuit (words_of text)) (sym (add-one old.time)));
    })

-- the words of a text that says words are as wide as its lines
pub words_wide : (width : ℕ) (text : List ℕ) → SaysWords width text → All (λ w. length w ≡ width) (words_of text)
words_wide width text says = All-map (λ w. length w ≡ width) word_of (lines text)
    (λ k d lt. length-map (get_or (lines text) k d) is_one ∙ wide_line width (get_or (lines text) k d) (says k d lt))
  where
    wide_line : (w : ℕ) (line : List ℕ) → is_word w line ≡ true → length line ≡ w
    wide_line w line good = grind (arith, nat_tests)

-- the first line of the rest is as long as the buffer
pub first_fits : (rest line : List ℕ) (more : List (List ℕ)) (n : ℕ) → lines rest ≡ line ∷ more
    → All (λ l. length l ≡ n) (lines rest) → length line ≡ n
first_fits rest line more n cut fit = let here : All (λ l. length l ≡ n) (line ∷ more) =
    subst (All (λ l. length l ≡ n)) cut fit in here zero line (omega arith)

-- one more value of a word
pub copied_more : (line : List ℕ) (into new : List Bool) (place : ℕ) → place < length line → length into ≡ length line
    → take place into ≡ take place (word_of line) →
    new ≡ set into place (is_one (get_or line place 0)) → take (place + 1) new ≡ take (place + 1) (word_of line)
copied_more line into new place within long so_far made =
    let b : Bool = is_one (get_or line place 0) in
    rw made (take_more_set into place b (rw long within)
    ∙ (ap (λ xs. xs ++ b ∷ []) so_far
    ∙ sym (take_more (word_of line) place b (rw (length-map line is_one) within)
    ∙ ap (λ y. take place (word_of line) ++ y ∷ []) (get_or-map is_one line place 0 b within))))
