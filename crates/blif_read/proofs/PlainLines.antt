-- The logical lines of a text that is put together of whole lines, without comments and joined lines: a line at a time,
-- and in a line a token at a time.
use Rattle.std.proofs.Common.{◌≡◌, ℕ, ◌+◌, ◌-◌, ◌%◌, ◌^◌, ◌<◌, ◌≤◌, Bool, true, false, not, ◌||◌, ◌&&◌, ◌==◌, nat_lt}
use Rattle.std.proofs.Common.{List, [], ◌∷◌, ◌++◌}
use Rattle.std.proofs.Common.{length, map, get_or, slice_index, None, All, refl, sym, ap, ◌∙◌, arith, append_assoc}
use Rattle.std.specs.Fmt.{decimal}
use Rattle.std.specs.List.{filter, slice_split, list_all}
use Rattle.std.specs.Str.Lines.{strip_carriage_return}
use Rattle.std.proofs.lemmas.Bool.{ne_eqb, and_from, and_parts, or_left, lt-ltb, not_from_false}
use Rattle.std.proofs.lemmas.Fmt.{decimal_by_steps}
use Rattle.std.proofs.lemmas.List.{take_all}
use Rattle.std.proofs.lemmas.List.Elements.{filter-append}
use Rattle.std.proofs.lemmas.List.Folds.{list_all-append}
use Rattle.std.proofs.lemmas.List.Splits.{slice_split_at, slice_split_none}
use Rattle.std.proofs.lemmas.List.Sums.{AllPass-from_list_all, position_or_len_is}
use Rattle.blif_read.specs.Lines.{is_feed, is_number_sign, is_blank, is_token, stripped, physical_lines}
use Rattle.blif_read.specs.Lines.{without_comment}
use Rattle.blif_read.specs.Lines.{before_backslash, before_lines, joined, cut, tokens_of, has_tokens}
pub use Rattle.blif_read.specs.Code.Reading.{lines_from}
use Rattle.blif_read.proofs.Cuts.{has_part, stripped_next}
use Rattle.blif_read.proofs.Joining.{tokens_joined}

-- a byte of a token, and one of a line: neither has a control byte, the sign of a comment or a backslash
abbrev pub is_inked : ℕ → Bool
is_inked b = nat_lt 35 b && (not (b == 92) && not (b == 127))

abbrev pub is_plain : ℕ → Bool
is_plain b = is_inked b || b == 32

-- a byte that fails a test is not among bytes that pass it
differs : (p : ℕ → Bool) (c b : ℕ) → p c ≡ false → p b ≡ true → (b == c) ≡ false
differs p c b fails passes = ne_eqb b c (λ e. let both : true ≡ false = sym passes ∙ ap p e ∙ fails in absurd (cc))

nowhere : (p : ℕ → Bool) (c : ℕ) (bytes : List ℕ) → p c ≡ false → list_all p bytes ≡ true →
    All (λ b. (b == c) ≡ false) bytes
nowhere p c bytes fails pass k d within = differs p c _ fails (AllPass-from_list_all p bytes pass k d within)

not_last : (c : ℕ) (line : List ℕ) → is_plain c ≡ false → (0 == c) ≡ false → list_all is_plain line ≡ true →
    (slice_index line (length line - 1) == c) ≡ false
not_last c [] fails some plain = some
not_last c (b ∷ bs) fails some plain = nowhere is_plain c (b ∷ bs) fails plain (length (b ∷ bs) - 1) 0 (omega arith)

-- what is cut off a line is not there
without_return : (line : List ℕ) → list_all is_plain line ≡ true → strip_carriage_return line ≡ line
without_return line plain = rw (not_last 13 line refl refl plain) refl

without_backslash : (line : List ℕ) → list_all is_plain line ≡ true → before_backslash line ≡ None
without_backslash line plain = rw (not_last 92 line refl refl plain) refl

without_sign : (line : List ℕ) → list_all is_plain line ≡ true → without_comment line ≡ line
without_sign line plain =
    let none = nowhere is_plain 35 line refl plain in
    let end = position_or_len_is is_number_sign line (length line) 0 (omega arith) (λ k within. none k 0 within)
    (λ h. absurd (omega arith)) in
    take_all _ line (omega arith)

first_physical : (line rest : List ℕ) → list_all is_plain line ≡ true →
    physical_lines (line ++ 10 ∷ rest) ≡ line ∷ physical_lines rest
first_physical line rest plain =
    ap stripped (slice_split_at is_feed line 10 rest (nowhere is_plain 10 line refl plain) refl)
    ∙ stripped_next line (slice_split is_feed rest) (has_part is_feed rest)
    ∙ ap (λ line. line ∷ physical_lines rest) (without_return line plain)

-- a whole line before others
pub first_line : (n : ℕ) (line rest : List ℕ) → list_all is_plain line ≡ true →
    lines_from n (line ++ 10 ∷ rest) ≡ filter has_tokens (cut (n, line) ∷ []) ++ lines_from (n + 1) rest
first_line n line rest plain =
    let others = map without_comment (physical_lines rest) in
    ap (λ lines. filter has_tokens (map cut (joined n (map without_comment lines)))) (first_physical line rest plain)
    ∙ ap (λ line. filter has_tokens (map cut (joined n (line ∷ others)))) (without_sign line plain)
    ∙ ap (λ front. filter has_tokens (map cut (before_lines n line front (joined (n + 1) others))))
    (without_backslash line plain)
    ∙ filter-append has_tokens (cut (n, line) ∷ []) (map cut (joined (n + 1) others))

-- a line is cut at a blank
pub tokens_apart : (front back : List ℕ) → tokens_of (front ++ 32 ∷ back) ≡ tokens_of front ++ tokens_of back
tokens_apart front back = ap tokens_of (sym (append_assoc front (32 ∷ []) back)) ∙ tokens_joined front back

-- bytes of a token are one token, and a part of a line
not_blank : (b : ℕ) → is_inked b ≡ true → is_blank b ≡ false
not_blank b inked = rw (differs is_inked 32 b refl inked, differs is_inked 9 b refl inked) refl

pub one_token : (b : ℕ) (bytes : List ℕ) → list_all is_inked (b ∷ bytes) ≡ true →
    tokens_of (b ∷ bytes) ≡ (b ∷ bytes) ∷ []
one_token b bytes inked =
    let each = AllPass-from_list_all is_inked (b ∷ bytes) inked in
    ap (filter is_token)
    (slice_split_none is_blank (b ∷ bytes) (λ k d within. not_blank (get_or (b ∷ bytes) k d) (each k d within)))

pub inked_plain : (bytes : List ℕ) → list_all is_inked bytes ≡ true → list_all is_plain bytes ≡ true
inked_plain [] inked = refl
inked_plain (b ∷ bytes) inked =
    let both = and_parts (is_inked b) (list_all is_inked bytes) inked in
    and_from (is_plain b) (list_all is_plain bytes) (or_left (is_inked b) (b == 32) both.0) (inked_plain bytes both.1)

-- digits are no blanks, and no signs with a meaning of their own
inked_digit : (n : ℕ) → n < 10 → is_inked (48 + n) ≡ true
inked_digit n small =
    let slash = ne_eqb (48 + n) 92 (λ e. omega arith) in
    let control = ne_eqb (48 + n) 127 (λ e. omega arith) in
    and_from (nat_lt 35 (48 + n)) (not (48 + n == 92) && not (48 + n == 127)) (lt-ltb 35 (48 + n) (omega arith))
    (and_from (not (48 + n == 92)) (not (48 + n == 127)) (not_from_false (48 + n == 92) slash)
    (not_from_false (48 + n == 127) control))

one_digit : (n : ℕ) → n < 10 → list_all is_inked ((48 + n) ∷ []) ≡ true
one_digit n small = rw (inked_digit n small) refl

another_digit : (n : ℕ) (digits : List ℕ) → 10 ≤ n → list_all is_inked digits ≡ true →
    list_all is_inked (digits ++ ((48 + n % 10) ∷ [])) ≡ true
another_digit n digits large front =
    list_all-append is_inked digits ((48 + n % 10) ∷ [])
    ∙ and_from (list_all is_inked digits) _ front (one_digit (n % 10) (omega arith))

pub inked_decimal : (n : ℕ) → n < 2 ^ 64 → list_all is_inked (decimal n) ≡ true
inked_decimal = decimal_by_steps (λ _ digits. list_all is_inked digits ≡ true) one_digit another_digit
