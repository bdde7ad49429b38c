-- A netlist that is written definition by definition, where each signal is defined by earlier ones: no line of it has a
-- fault, and its lines say its definitions.
use Rattle.std.proofs.Common.{◌≡◌, ℕ, ◌+◌, ◌<◌, ◌≤◌, ◌||◌, ◌&&◌, ◌==◌, not, cond, nat_lt, Bool, true, false, List, []}
use Rattle.std.proofs.Common.{◌∷◌, ◌++◌, length, map, Option, Some, None, refl, sym, ap, ◌∙◌, subst, arith, codes}
use Rattle.std.specs.List.{list_any, list_all, flat_map, AllByRecursion, range_with_len}
use Rattle.std.specs.Option.{option_or}
use Rattle.std.proofs.lemmas.Bool.{and_parts, ltb-true, le-ltb}
use Rattle.std.proofs.lemmas.List.{length-map}
use Rattle.blif_read.specs.Lines.{Line, is_empty}
use Rattle.blif_read.specs.Statements.{word, arguments, is_names, is_end, is_row, front_of, last_of, truth}
use Rattle.blif_read.specs.Parts.{signals}
use Rattle.blif_read.specs.Faults.{cover_above, before_of, is_control, is_token_fault, is_second_model, is_unsupported}
use Rattle.blif_read.specs.Faults.{has_shape, is_same, row_fault, kind_in, added_in, adds_again, duplicate_in, kind_of}
use Rattle.blif_read.specs.Faults.{at_line, line_fault}
use Rattle.blif_read.specs.declared.words.Statement.TheVariants.{Row}
use Rattle.blif_read.specs.declared.before.Before.{Before}
use Rattle.blif_read.specs.declared.netlist.LineKind.TheVariants.{Duplicate}
use Rattle.blif_read.proofs.PlainLines.{is_inked}
use Rattle.blif_read.proofs.Within.{all_join}
use Rattle.blif_flat.proofs.WrittenLines.{IsToken, IsWritten, numbered}
use Rattle.blif_flat.proofs.NumberedNames.{AreNames, IsEarlier, fresh, one_more}

-- the definition of a signal: the signals that it reads, and the rows of its cover
pub record Definition : Type 0 where
  pub feeds : List ℕ
  pub rows : List (List (List ℕ))

abbrev pub line : ℕ → List (List ℕ) → Line
line n tokens = record { number = n; tokens = tokens }

-- a row of a cover of so many places, which is true there
pub record IsRow (width : ℕ) (row : List (List ℕ)) : Type 0 where
  pub is_row : word (line 0 row) ≡ Row
  pub shape : has_shape width row ≡ true
  pub value : truth row ≡ Some true
  pub written : IsWritten row

-- the definition of signal s
pub record IsDefinition (s : ℕ) (d : Definition) : Type 0 where
  pub feeds : AllByRecursion (λ t. t < s) d.feeds
  pub rows : AllByRecursion (IsRow (length d.feeds)) d.rows

abbrev pub AreDefined : ℕ → List Definition → Type 0
AreDefined s [] = Unit {0}
AreDefined s (d ∷ ds) = IsDefinition s d × AreDefined (s + 1) ds

abbrev pub names_tokens : (ℕ → List ℕ) → ℕ → Definition → List (List ℕ)
names_tokens name s d = codes ".names" ∷ map name d.feeds ++ name s ∷ []

abbrev pub end_tokens : List (List ℕ)
end_tokens = codes ".end" ∷ []

-- the lines from the definition of signal s on
abbrev pub body : (ℕ → List ℕ) → ℕ → List Definition → List (List (List ℕ))
body name s [] = end_tokens ∷ []
body name s (d ∷ ds) = names_tokens name s d ∷ (d.rows ++ body name (s + 1) ds)

abbrev pub whole : (ℕ → List ℕ) → ℕ → List Definition → List ℕ → List (List (List ℕ))
whole name inputs ds outs =
    (codes ".model" ∷ codes "aqfp" ∷ []) ∷ (codes ".inputs" ∷ map name (range_with_len 0 inputs)) ∷
    (codes ".outputs" ∷ map name outs) ∷ body name inputs ds

-- ---- lists

pub front_is : (xs : List (List ℕ)) (x : List ℕ) → front_of (xs ++ x ∷ []) ≡ xs
front_is [] x = refl
front_is (y ∷ []) x = refl
front_is (y ∷ z ∷ xs) x = ap (λ f. y ∷ f) (front_is (z ∷ xs) x)

pub last_is : (xs : List (List ℕ)) (x : List ℕ) → last_of (xs ++ x ∷ []) ≡ x ∷ []
last_is [] x = refl
last_is (y ∷ []) x = refl
last_is (y ∷ z ∷ xs) x = last_is (z ∷ xs) x

some_argument : (xs : List (List ℕ)) (x : List ℕ) → is_empty (xs ++ x ∷ []) ≡ false
some_argument [] x = refl
some_argument (y ∷ xs) x = refl

pub off_both : (a b : Bool) → a ≡ false → b ≡ false → a || b ≡ false
off_both a b e f = rw (e, f) refl

-- ---- tokens have no control bytes

clear_byte : (b : ℕ) → is_inked b ≡ true → is_control b ≡ false
clear_byte b inked =
    let parts = and_parts (nat_lt 35 b) (not (b == 92) && not (b == 127)) inked in
    let more = and_parts (not (b == 92)) (not (b == 127)) parts.1 in
    let large : 35 < b = ltb-true 35 b parts.0 in
    let wide : nat_lt b 32 ≡ false = le-ltb b 32 (omega (arith, large)) in
    off_both (nat_lt b 32 && not (b == 9)) (b == 127) (rw wide refl) (is_not (b == 127) more.1)
  where
    is_not : (a : Bool) → not a ≡ true → a ≡ false
    is_not true e = absurd (cc)
    is_not false e = refl

clear_bytes : (bytes : List ℕ) → list_all is_inked bytes ≡ true → list_any is_control bytes ≡ false
clear_bytes [] e = refl
clear_bytes (b ∷ bytes) e =
    let both = and_parts (is_inked b) (list_all is_inked bytes) e in
    off_both (is_control b) (list_any is_control bytes) (clear_byte b both.0) (clear_bytes bytes both.1)

clear_token : (token : List ℕ) → IsToken token → list_any is_control token ≡ false
clear_token [] is = absurd is
clear_token (b ∷ bytes) is = clear_bytes (b ∷ bytes) is

clear_tokens : (tokens : List (List ℕ)) → AllByRecursion IsToken tokens → list_any (list_any is_control) tokens ≡ false
clear_tokens [] each = refl
clear_tokens (token ∷ tokens) each = off_both (list_any is_control token) (list_any (list_any is_control) tokens)
    (clear_token token each.0) (clear_tokens tokens each.1)

pub clear_line : (tokens : List (List ℕ)) → IsWritten tokens → list_any (list_any is_control) tokens ≡ false
clear_line [] is = absurd is
clear_line (token ∷ tokens) is = clear_tokens (token ∷ tokens) (is.0, is.1)

-- ---- the fault of a line

pub no_kind : (before : Before) (l : Line) → is_token_fault l ≡ false → is_second_model before l ≡ false
    → is_unsupported false before l ≡ false
    → cond (is_row (word l)) (row_fault before.cover l.tokens) None ≡ None → kind_in false before l ≡ None
no_kind before l a b c d = rw (a, b, c) d

pub passes : (before : List Line) (l : Line) (lines : List Line) → kind_in false (before_of before) l ≡ None
    → adds_again (flat_map added_in before) (added_in l) ≡ false
    → line_fault false before (l ∷ lines) ≡ line_fault false (l ∷ before) lines
passes before l lines k a =
    let none : kind_of false before l ≡ None = ap (λ x. option_or x (duplicate_in before l)) k
    ∙ ap (λ b. cond b (Some Duplicate) None) a in
    ap (λ x. option_or (at_line l.number x) (line_fault false (l ∷ before) lines)) none

-- what is known of the lines before: none is `.end`, and the names that are known are those of earlier signals
pub record Stands (name : ℕ → List ℕ) (s : ℕ) (before : List Line) : Type 0 where
  pub going : list_any (λ l. is_end (word l)) before ≡ false
  pub known : AllByRecursion (IsEarlier name s) (flat_map added_in before)

-- the lines before are a definition with so many places, and rows that are true there
record InCover (width : ℕ) (before : List Line) : Type 0 where
  first : Option Bool
  above : cover_above before ≡ Some (record { width = width; first = first })
  same : is_same first true ≡ true

-- ---- a row

row_kind : (width n : ℕ) (row : List (List ℕ)) (before : List Line) → IsRow width row
    → list_any (λ l. is_end (word l)) before ≡ false → InCover width before
    → kind_in false (before_of before) (line n row) ≡ None
row_kind width n row before is going cover =
    let w : word (line n row) ≡ Row = is.is_row in
    let token : is_token_fault (line n row) ≡ false =
    off_both (list_any (list_any is_control) row) (is_names (word (line n row)) && is_empty (arguments (line n row)))
    (clear_line row is.written) (rw w refl) in
    let model : is_second_model (before_of before) (line n row) ≡ false = rw w refl in
    let supported : is_unsupported false (before_of before) (line n row) ≡ false = rw (w, going) refl in
    let fits : row_fault (Some (record { width = width; first = cover.first })) row
    ≡ None = rw (is.shape, is.value, cover.same) refl in
    no_kind (before_of before) (line n row) token model supported
    (ap (λ x. cond (is_row x) (row_fault (cover_above before) row) None) w ∙ ap (λ c. row_fault c row) cover.above
    ∙ fits)

row_adds : (n : ℕ) (row : List (List ℕ)) → word (line n row) ≡ Row → added_in (line n row) ≡ []
row_adds n row w = rw w refl

same_or : (first : Option Bool) → is_same first true ≡ true → is_same (option_or first (Some true)) true ≡ true
same_or None e = refl
same_or (Some b) e = e

still_in : (width n : ℕ) (row : List (List ℕ)) (before : List Line) → IsRow width row → InCover width before
    → InCover width (line n row ∷ before)
still_in width n row before is cover = record {
  first = option_or cover.first (Some true);
  above = rw (is.is_row, is.value, cover.above) refl;
  same = same_or cover.first cover.same;
}

still_stands : (name : ℕ → List ℕ) (s n : ℕ) (row : List (List ℕ)) (before : List Line) → word (line n row) ≡ Row
    → Stands name s before → Stands name s (line n row ∷ before)
still_stands name s n row before w st = record {
  going = rw w st.going;
  known = subst (AllByRecursion (IsEarlier name s))
      (sym (ap (λ added. added ++ flat_map added_in before) (row_adds n row w))) st.known;
}

module _ (name : ℕ → List ℕ) (total : ℕ) (names : AreNames name total) where
  -- rows pass, whatever follows
  rows_pass : (s width n : ℕ) (rows rest : List (List (List ℕ))) (before : List Line)
      → AllByRecursion (IsRow width) rows → InCover width before → Stands name s before
      → ((m : ℕ) (after : List Line) → Stands name s after → line_fault false after (numbered m rest) ≡ None)
      → line_fault false before (numbered n (rows ++ rest)) ≡ None
  rows_pass s width n [] rest before each cover st later = later n before st
  rows_pass s width n (row ∷ rows) rest before each cover st later =
      let w : word (line n row) ≡ Row = each.0.is_row in
      passes before (line n row) (numbered (n + 1) (rows ++ rest)) (row_kind width n row before each.0 st.going cover)
      (ap (adds_again (flat_map added_in before)) (row_adds n row w))
      ∙ rows_pass s width (n + 1) rows rest (line n row ∷ before) each.1 (still_in width n row before each.0 cover)
      (still_stands name s n row before w st) later

  -- names of signals are tokens
  pub tokens_are : (signals : List ℕ) → AllByRecursion (λ s. s < total) signals
      → AllByRecursion IsToken (map name signals)
  tokens_are [] each = tt
  tokens_are (s ∷ signals) each = (names.token s each.0, tokens_are signals each.1)

  pub within : (s t : ℕ) → s ≤ t → (signals : List ℕ) → AllByRecursion (λ x. x < s) signals
      → AllByRecursion (λ x. x < t) signals
  within s t h [] each = tt
  within s t h (x ∷ signals) each = let below = each.0 in (omega (arith, below, h), within s t h signals each.1)

  pub names_written : (s : ℕ) (d : Definition) → s < total → IsDefinition s d → IsWritten (names_tokens name s d)
  names_written s d p is = (
    refl,
    all_join IsToken (map name d.feeds) (name s ∷ [])
        (tokens_are d.feeds (within s total (omega arith) d.feeds is.feeds)) (names.token s p, tt),
  )

  names_kind : (s n : ℕ) (d : Definition) (before : List Line) → s < total → IsDefinition s d
      → list_any (λ l. is_end (word l)) before ≡ false
      → kind_in false (before_of before) (line n (names_tokens name s d)) ≡ None
  names_kind s n d before p is going =
      let l = line n (names_tokens name s d) in
      let clear = clear_line (names_tokens name s d) (names_written s d p is) in
      let some = some_argument (map name d.feeds) (name s) in
      no_kind (before_of before) l (off_both (list_any (list_any is_control) (names_tokens name s d))
      (is_empty (map name d.feeds ++ name s ∷ [])) clear some) refl going refl

  names_add : (s n : ℕ) (d : Definition) → added_in (line n (names_tokens name s d)) ≡ name s ∷ []
  names_add s n d = last_is (map name d.feeds) (name s)

  begins : (s n : ℕ) (d : Definition) (before : List Line)
      → InCover (length d.feeds) (line n (names_tokens name s d) ∷ before)
  begins s n d before = record {
    first = None;
    above = ap (λ front. Some (record { width = length front; first = None })) (front_is (map name d.feeds) (name s))
        ∙ ap (λ w. Some (record { width = w; first = None })) (length-map d.feeds name);
    same = refl;
  }

  stands_next : (s n : ℕ) (d : Definition) (before : List Line) → Stands name s before
      → Stands name (s + 1) (line n (names_tokens name s d) ∷ before)
  stands_next s n d before st = record {
    going = st.going;
    known = subst (AllByRecursion (IsEarlier name (s + 1)))
        (sym (ap (λ added. added ++ flat_map added_in before) (names_add s n d)))
        (one_more name total names s (flat_map added_in before) st.known);
  }

  pub body_passes : (s n : ℕ) (ds : List Definition) (before : List Line) → s + length ds ≤ total → AreDefined s ds
      → Stands name s before → line_fault false before (numbered n (body name s ds)) ≡ None
  body_passes s n [] before h each st = passes before (line n end_tokens) []
      (no_kind (before_of before) (line n end_tokens) refl refl st.going refl) refl
  body_passes s n (d ∷ ds) before h each st =
      let p : s < total = omega arith in
      let l = line n (names_tokens name s d) in
      let new : adds_again (flat_map added_in before) (added_in l)
      ≡ false = ap (adds_again (flat_map added_in before)) (names_add s n d)
      ∙ rw (fresh name total names s (flat_map added_in before) p st.known) refl in
      passes before l (numbered (n + 1) (d.rows ++ body name (s + 1) ds))
      (names_kind s n d before p each.0 st.going) new
      ∙ rows_pass (s + 1) (length d.feeds) (n + 1) d.rows (body name (s + 1) ds) (l ∷ before) each.0.rows
      (begins s n d before) (stands_next s n d before st)
      (λ m after st. body_passes (s + 1) m ds after (omega arith) each.1 st)
