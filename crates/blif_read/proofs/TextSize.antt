-- The tokens of the logical lines of a text have no more bytes than the text.
use Rattle.std.proofs.Common.{◌≡◌, ℕ, ◌+◌, ◌-◌, ◌≤◌, Bool, true, false, cond, List, [], ◌∷◌, ◌++◌, map, length, take}
use Rattle.std.proofs.Common.{Option, Some, None, refl, ap, arith, length-append}
use Rattle.std.specs.Prelude.{◌==◌, slice_index}
use Rattle.std.specs.List.{slice_split, onto_first, position_or_len, filter, sum_by}
use Rattle.std.specs.Str.Lines.{strip_carriage_return}
use Rattle.std.proofs.lemmas.List.{length-take}
use Rattle.std.proofs.lemmas.List.Sums.{sum_by-cons}
use Rattle.blif_read.specs.Lines.{is_feed, is_blank, is_number_sign, is_backslash, is_token, cut, has_tokens, stripped}
use Rattle.blif_read.specs.Lines.{physical_lines, without_comment, before_backslash, joined_to, before_lines, joined}
use Rattle.blif_read.specs.Lines.{logical_lines}
use Rattle.blif_read.specs.Code.Size.{bytes_of, token_bytes}

pub taken : (n : ℕ) (xs : List ℕ) → length (take n xs) ≤ length xs
taken n xs = omega (arith, length-take n xs)

cut_short : (b : Bool) (xs : List ℕ) (n : ℕ) → length (cond b (take n xs) xs) ≤ length xs
cut_short true xs n = taken n xs
cut_short false xs n = omega arith

-- what a cut leaves
pub split_bytes : (p : ℕ → Bool) (xs : List ℕ) → sum_by length (slice_split p xs) ≤ length xs
split_bytes p [] = omega arith
split_bytes p (x ∷ xs) = one (p x) (slice_split p xs) (split_bytes p xs)
  where
    one : (b : Bool) (parts : List (List ℕ)) → sum_by length parts ≤ length xs
        → sum_by length (cond b ([] ∷ parts) (onto_first x parts)) ≤ length (x ∷ xs)
    one true parts h = omega (arith, sum_by-cons {X = List ℕ} length [] parts)
    one false [] h = omega arith
    one false (part ∷ parts) h = omega (arith, sum_by-cons length (x ∷ part) parts, sum_by-cons length part parts)

pub stripped_bytes : (parts : List (List ℕ)) → sum_by length (stripped parts) ≤ sum_by length parts
stripped_bytes [] = omega arith
stripped_bytes (last ∷ []) = omega arith
stripped_bytes (part ∷ next ∷ parts) =
    let h = stripped_bytes (next ∷ parts) in
    let s = cut_short (slice_index part (length part - 1) == 13) part (length part - 1) in
    omega (
      arith,
      sum_by-cons length (strip_carriage_return part)
          (stripped (next ∷ parts)),
      sum_by-cons length part (next ∷ parts),
    )

uncommented_bytes : (lines : List (List ℕ)) → sum_by length (map without_comment lines) ≤ sum_by length lines
uncommented_bytes [] = omega arith
uncommented_bytes (line ∷ lines) =
    let h = uncommented_bytes lines in
    let s = taken (position_or_len is_number_sign line) line in
    omega (arith, sum_by-cons length (without_comment line) (map without_comment lines), sum_by-cons length line lines)

-- the bytes of lines with their numbers
abbrev numbered_bytes : List (ℕ × List ℕ) → ℕ
numbered_bytes lines = sum_by (λ line. length line.1) lines

front_bytes : (line front : List ℕ) → before_backslash line ≡ Some front → length front + 1 ≤ length line
front_bytes [] front e = absurd (cc)
front_bytes (x ∷ xs) front e = one (is_backslash (slice_index (x ∷ xs) (length (x ∷ xs) - 1))) e
  where
    one : (b : Bool) → cond b (Some (take (length (x ∷ xs) - 1) (x ∷ xs))) None ≡ Some front
        → length front + 1 ≤ length (x ∷ xs)
    one true e = let is : take (length (x ∷ xs) - 1) (x ∷ xs) ≡ front = cc in omega
        (arith, ap length is, length-take (length (x ∷ xs) - 1) (x ∷ xs))
    one false e = absurd (cc)

joined_bytes : (n : ℕ) (lines : List (List ℕ)) → numbered_bytes (joined n lines) ≤ sum_by length lines
joined_bytes n [] = omega arith
joined_bytes n (line ∷ lines) = one (before_backslash line) (λ front. front_bytes line front) (joined (n + 1) lines)
    (joined_bytes (n + 1) lines)
  where
    onto : (front : List ℕ) (rest : List (ℕ × List ℕ))
        → numbered_bytes (joined_to n front rest) ≤ length front + numbered_bytes rest
    onto front [] = omega arith
    onto front (next ∷ rest) =
        omega (
          arith,
          sum_by-cons {X = ℕ × List ℕ} (λ l. length l.1) (n, front ++ next.1) rest,
          sum_by-cons {X = ℕ
              × List ℕ} (λ l. length l.1) next rest,
          length-append front next.1,
        )

    one : (o : Option (List ℕ)) → ((front : List ℕ) → o ≡ Some front → length front + 1 ≤ length line)
        → (rest : List (ℕ × List ℕ)) → numbered_bytes rest ≤ sum_by length lines
        → numbered_bytes (before_lines n line o rest) ≤ sum_by length (line ∷ lines)
    one None f rest h = omega
        (arith, sum_by-cons {X = ℕ × List ℕ} (λ l. length l.1) (n, line) rest, sum_by-cons length line lines)
    one (Some front) f rest h = let s = f front refl in let t = onto (front ++ 32 ∷ []) rest in omega
        (arith, length-append front (32 ∷ []), sum_by-cons length line lines)

pub filtered_bytes : {X : Type 0} (p : X → Bool) (f : X → ℕ) (xs : List X) → sum_by f (filter p xs) ≤ sum_by f xs
filtered_bytes {X = X} p f [] = omega arith
filtered_bytes {X = X} p f (x ∷ xs) = one (p x) (filter p xs) (filtered_bytes p f xs)
  where
    one : (b : Bool) (rest : List X) → sum_by f rest ≤ sum_by f xs
        → sum_by f (cond b (x ∷ rest) rest) ≤ sum_by f (x ∷ xs)
    one true rest h = omega (arith, sum_by-cons f x rest, sum_by-cons f x xs)
    one false rest h = omega (arith, sum_by-cons f x xs)

cut_bytes : (lines : List (ℕ × List ℕ)) → bytes_of (map cut lines) ≤ numbered_bytes lines
cut_bytes [] = omega arith
cut_bytes (line ∷ lines) =
    let h = cut_bytes lines in
    let s = filtered_bytes is_token length (slice_split is_blank line.1) in
    let t = split_bytes is_blank line.1 in
    omega (
      arith,
      sum_by-cons (λ l. token_bytes l.tokens) (cut line) (map cut lines),
      sum_by-cons {X = ℕ × List ℕ}
          (λ l. length l.1) line lines,
    )

pub text_bytes : (text : List ℕ) → bytes_of (logical_lines text) ≤ length text
text_bytes text =
    let lines = map without_comment (physical_lines text) in
    let a = filtered_bytes has_tokens (λ l. token_bytes l.tokens) (map cut (joined 1 lines)) in
    let b = cut_bytes (joined 1 lines) in
    let c = joined_bytes 1 lines in
    let d = uncommented_bytes (physical_lines text) in
    let e = stripped_bytes (slice_split is_feed text) in
    let f = split_bytes is_feed text in
    omega arith
