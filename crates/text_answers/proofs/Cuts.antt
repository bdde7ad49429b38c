-- The first line of a text is what stands before its first line feed.
use Rattle.std.proofs.Common.{◌≡◌, ℕ, ◌+◌, ◌<◌, ◌≤◌, ◌==◌, Bool, true, false, cond, List, [], ◌∷◌, length, take, drop}
use Rattle.std.proofs.Common.{Some, None, refl, ap, ◌∙◌, arith}
use Rattle.std.proofs.lemmas.Bool.Decides.{nat_tests}
use Rattle.std.specs.List.{slice_split, onto_first, position, position_or_len}
use Rattle.std.specs.Str.Lines.{lines, lines_of_parts, strip_carriage_return}
use Rattle.std.proofs.lemmas.List.Splits.{slice_split_first, slice_split_none}
use Rattle.std.proofs.lemmas.List.{drop-drop}
use Rattle.std.proofs.lemmas.List.Sums.{fails_before_first}
use Rattle.std.proofs.lemmas.Bool.{ltb-true, ltb-false}

abbrev is_feed : ℕ → Bool
is_feed b = b == 10

at_some : (b : Bool) (j i : ℕ) → cond b (Some j) None ≡ Some i → (b ≡ true) × (j ≡ i)
at_some true j i e = (refl, cc)
at_some false j i e = absurd (cc)

at_none : (b : Bool) (j : ℕ) → cond b (Some j) None ≡ None → b ≡ false
at_none true j e = absurd (cc)
at_none false j e = refl

split_at_position : (xs : List ℕ) (i : ℕ) → position is_feed xs ≡ Some i
    → slice_split is_feed xs ≡ take i xs ∷ slice_split is_feed (drop (i + 1) xs)
split_at_position xs i e =
    let both = at_some _ _ _ e in
    let below : position_or_len is_feed xs < length xs = ltb-true _ _ both.0 in
    slice_split_first is_feed xs 0 below ∙ ap (λ n. take n xs ∷ slice_split is_feed (drop (n + 1) xs)) both.1

whole_at_none : (xs : List ℕ) → position is_feed xs ≡ None → slice_split is_feed xs ≡ xs ∷ []
whole_at_none xs e = let le : length xs ≤ position_or_len is_feed xs = ltb-false _ _
    (at_none _ _ e) in slice_split_none is_feed xs (λ k d lt. fails_before_first is_feed xs k d (omega arith))

-- the list has a first item
record HasFirst (parts : List (List ℕ)) : Type 0 where
  pub first : List ℕ
  pub others : List (List ℕ)
  pub is : parts ≡ first ∷ others

one_more : (b : Bool) (x : ℕ) (parts : List (List ℕ)) → HasFirst parts
    → HasFirst (cond b ([] ∷ parts) (onto_first x parts))
one_more true x parts h = record { first = []; others = parts; is = refl }
one_more false x parts h = record { first = x ∷ h.first; others = h.others; is = ap (onto_first x) h.is }

has_part : (xs : List ℕ) → HasFirst (slice_split is_feed xs)
has_part [] = record { first = []; others = []; is = refl }
has_part (x ∷ xs) = one_more (is_feed x) x _ (has_part xs)

next_parts : (part : List ℕ) (parts : List (List ℕ)) → HasFirst parts
    → lines_of_parts (part ∷ parts) ≡ strip_carriage_return part ∷ lines_of_parts parts
next_parts part parts h = rw h.is refl

line_at : (text : List ℕ) (i : ℕ) → position is_feed text ≡ Some i
    → lines text ≡ strip_carriage_return (take i text) ∷ lines (drop (i + 1) text)
line_at text i e = ap lines_of_parts (split_at_position text i e)
    ∙ next_parts (take i text) (slice_split is_feed (drop (i + 1) text)) (has_part (drop (i + 1) text))

pub line_from : (text : List ℕ) (i : ℕ) (line front back rest : List ℕ) → position is_feed text ≡ Some i
    → front ≡ take i text → back ≡ drop i text → rest ≡ drop 1 back → line ≡ strip_carriage_return front
    → lines text ≡ line ∷ lines rest
line_from text i line front back rest e f b r l = line_at text i e
    ∙ (let same : rest ≡ drop (i + 1) text = r ∙ ap (drop 1) b ∙ drop-drop 1 i text in rw (l, f, same) refl)

last_part : (text : List ℕ) → 0 < length text → lines_of_parts (text ∷ []) ≡ text ∷ []
last_part [] some = absurd (omega arith)
last_part (b ∷ text) some = grind (arith, nat_tests)

-- without a line feed the text is its one line
pub line_alone : (text line rest : List ℕ) → position is_feed text ≡ None → 0 < length text → line ≡ text → rest ≡ []
    → lines text ≡ line ∷ lines rest
line_alone text line rest e some l r = ap lines_of_parts (whole_at_none text e) ∙ (last_part text some ∙ rw (l, r) refl)
