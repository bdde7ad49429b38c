-- Lists row by row: where the items of each row stand.
use Rattle.std.proofs.Common.{◌≡◌, ℕ, zero, suc, ◌+◌, ◌-◌, ◌<◌, ◌≤◌, refl, sym, ap, ◌∙◌, arith, ◌⊎◌, inl, inr, List, []}
use Rattle.std.proofs.Common.{◌∷◌, ◌++◌, length, Some, slice_get}
use Rattle.std.specs.List.{flat_map}
use Rattle.std.proofs.lemmas.Option.{slice_get_within}
use Rattle.std.proofs.lemmas.Bool.{cases_lt, cases_order}
use Rattle.sorting.specs.Numbers.{numbers}

-- how many items the rows from k on have before row k + r
abbrev pub before : {A : Type 0} → (ℕ → List A) → ℕ → ℕ → ℕ
before of_row k zero = 0
before of_row k (suc r) = length (of_row k) + before of_row (suc k) r

pub in_right_part : {A : Type 0} (xs ys : List A) (n : ℕ) → slice_get (xs ++ ys) (length xs + n) ≡ slice_get ys n
in_right_part [] ys n = ap (slice_get ys) (omega arith)
in_right_part (x ∷ xs) ys n =
    ap (slice_get (x ∷ (xs ++ ys))) (let k : suc (length xs) + n ≡ suc (length xs + n) = omega arith in k)
    ∙ in_right_part xs ys n

pub in_left_part : {A : Type 0} (xs ys : List A) (n : ℕ) → n < length xs → slice_get (xs ++ ys) n ≡ slice_get xs n
in_left_part [] ys n lt = absurd (omega arith)
in_left_part (x ∷ xs) ys zero lt = refl
in_left_part (x ∷ xs) ys (suc n) lt = in_left_part xs ys n (omega arith)

at_row : {A : Type 0} (of_row : ℕ → List A) (k count r n : ℕ) (x : A) → r < count
    → slice_get (of_row (k + r)) n ≡ Some x → slice_get (flat_map of_row (numbers k count))
    (before of_row k r + n) ≡ Some x
at_row of_row k zero r n x lt e = absurd (omega arith)
at_row of_row k (suc count) zero n x lt e =
    let e' : slice_get (of_row k) n ≡ Some x = ap (λ (m : ℕ). slice_get (of_row m) n)
    (let h : k ≡ k + 0 = omega arith in h) ∙ e in
    ap (slice_get (of_row k ++ flat_map of_row (numbers (suc k) count))) (let h : 0 + n ≡ n = omega arith in h)
    ∙ in_left_part (of_row k) (flat_map of_row (numbers (suc k) count)) n (slice_get_within (of_row k) n x e') ∙ e'
at_row of_row k (suc count) (suc r) n x lt e =
    ap (slice_get (of_row k ++ flat_map of_row (numbers (suc k) count)))
    (let h : length (of_row k) + before of_row (suc k) r + n ≡ length
    (of_row k) + (before of_row (suc k) r + n) = omega arith in h)
    ∙ in_right_part (of_row k) (flat_map of_row (numbers (suc k) count)) (before of_row (suc k) r + n)
    ∙ at_row of_row (suc k) count r n x (omega arith)
    (ap (λ (m : ℕ). slice_get (of_row m) n) (let h : suc k + r ≡ k + suc r = omega arith in h) ∙ e)

pub record InRow {A : Type 0} (of_row : ℕ → List A) (k count c : ℕ) (x : A) : Type 0 where
  pub row_number : ℕ
  pub place : ℕ
  pub below : row_number < count
  pub number_is : c ≡ before of_row k row_number + place
  pub there : slice_get (of_row (k + row_number)) place ≡ Some x

row_at : {A : Type 0} (of_row : ℕ → List A) (k count c : ℕ) (x : A) → slice_get (flat_map of_row (numbers k count))
    c ≡ Some x → InRow of_row k count c x
row_at of_row k zero c x e = absurd cc
row_at {A} of_row k (suc count) c x e = elim (cases_lt c (length (of_row k))) [
  | inl lt ↦ record {
    row_number = 0;
    place = c;
    below = omega arith;
    number_is = omega arith;
    there = ap (λ (m : ℕ). slice_get (of_row m) c) (let h : k + 0 ≡ k = omega arith in h)
        ∙ sym (in_left_part (of_row k) (flat_map of_row (numbers (suc k) count)) c lt) ∙ e;
  }
  | inr ge ↦
      let n = c - length (of_row k) in
      let h = row_at of_row (suc k) count n x
      (sym (in_right_part (of_row k) (flat_map of_row (numbers (suc k) count)) n)
      ∙ ap (slice_get (of_row k ++ flat_map of_row (numbers (suc k) count)))
      (let h : length (of_row k) + n ≡ c = omega arith in h) ∙ e) in
      let lt = h.below in
      let is = h.number_is in
      record {
        row_number = suc h.row_number;
        place = h.place;
        below = omega arith;
        number_is = omega arith;
        there =
            ap (λ (m : ℕ). slice_get (of_row m) h.place)
            (let q : k + suc h.row_number ≡ suc k + h.row_number = omega arith in q) ∙ h.there;
      }
]

-- the same from the lowest row on, by a count of the items below each row

one_more : {A : Type 0} (of_row : ℕ → List A) (k r : ℕ) → before of_row k (suc r) ≡ before of_row k r + length
    (of_row (k + r))
one_more of_row k zero = let e : length (of_row k) ≡ length (of_row (k + 0)) = ap (λ (m : ℕ). length (of_row m))
    (let h : k ≡ k + 0 = omega arith in h) in omega arith
one_more of_row k (suc r) = let a = one_more of_row (suc k) r in
    let e : length (of_row (suc k + r)) ≡ length (of_row (k + suc r)) = ap (λ (m : ℕ). length (of_row m))
    (let h : suc k + r ≡ k + suc r = omega arith in h) in omega arith

pub below_is : {A : Type 0} (of_row : ℕ → List A) (count : ℕ → ℕ) → count 0 ≡ 0
    → ((r : ℕ) → count (suc r) ≡ count r + length (of_row r)) → (r : ℕ) → before of_row 0 r ≡ count r
below_is of_row count zero_is next zero = sym zero_is
below_is of_row count zero_is next (suc r) =
    one_more of_row 0 r
    ∙ ap (λ (m : ℕ). m + length (of_row (0 + r))) (below_is of_row count zero_is next r)
    ∙ ap (λ (m : ℕ). count r + length (of_row m)) (let h : 0 + r ≡ r = omega arith in h)
    ∙ sym (next r)

module _ {A : Type 0} (of_row : ℕ → List A) (count : ℕ → ℕ) (zero_is : count 0 ≡ 0)
    (next : (r : ℕ) → count (suc r) ≡ count r + length (of_row r)) (rows : ℕ) where
  pub item_at : (r n : ℕ) (x : A) → r < rows → slice_get (of_row r) n ≡ Some x
      → slice_get (flat_map of_row (numbers 0 rows)) (count r + n) ≡ Some x
  item_at r n x lt e =
      ap (λ (m : ℕ). slice_get (flat_map of_row (numbers 0 rows)) (m + n)) (sym (below_is of_row count zero_is next r))
      ∙ at_row of_row 0 rows r n x lt (ap (λ (m : ℕ). slice_get (of_row m) n) (let h : 0 + r ≡ r = omega arith in h)
      ∙ e)

  pub item_from : (c : ℕ) (x : A) → slice_get (flat_map of_row (numbers 0 rows)) c ≡ Some x → (r n : ℕ) × (r < rows)
      × (c ≡ count r + n) × (slice_get (of_row r) n ≡ Some x)
  item_from c x e =
      let h = row_at of_row 0 rows c x e in (
        h.row_number,
        h.place,
        h.below,
        h.number_is
            ∙ ap (λ (m : ℕ). m + h.place) (below_is of_row count zero_is next h.row_number),
        ap (λ (m : ℕ). slice_get (of_row m) h.place) (let q : h.row_number ≡ 0 + h.row_number = omega arith in q)
            ∙ h.there,
      )

  pub count_rises : (r q : ℕ) → r < q → count (suc r) ≤ count q
  count_rises r zero lt = absurd (omega arith)
  count_rises r (suc q) lt = go (cases_order r q) (λ h. count_rises r q h)
    where
      go : (r ≡ q) ⊎ ((r < q) ⊎ (q < r)) → (r < q → count (suc r) ≤ count q) → count (suc r) ≤ count (suc q)
      go (inl e) more = let k : count (suc r) ≡ count (suc q) = ap (λ (m : ℕ). count (suc m)) e in omega arith
      go (inr (inl less)) more = let k = more less in let h = next q in omega arith
      go (inr (inr greater)) more = absurd (omega arith)

  -- lower numbers stand in lower rows, or before in the same row
  pub in_order : (r n q m : ℕ) → n < length (of_row r) → m < length (of_row q) → count r + n < count q + m
      → (r < q) ⊎ ((r ≡ q) × (n < m))
  in_order r n q m ln lm lt = elim (cases_order r q) [
    | inl e ↦ inr (e, (let k : count r ≡ count q = ap count e in omega arith))
    | inr h ↦ elim h [
      | inl less ↦ inl less
      | inr more ↦ absurd (let a = count_rises q r more in let b = next q in omega arith)
    ]
  ]

  -- one number has one place
  pub same_place : (r n q m : ℕ) → n < length (of_row r) → m < length (of_row q) → count r + n ≡ count q + m
      → (r ≡ q) × (n ≡ m)
  same_place r n q m ln lm e = elim (cases_order r q) [
    | inl same ↦ (same, (let k : count r ≡ count q = ap count same in omega arith))
    | inr h ↦ elim h [
      | inl less ↦ absurd (let a = count_rises r q less in let b = next r in omega arith)
      | inr more ↦ absurd (let a = count_rises q r more in let b = next q in omega arith)
    ]
  ]

  length_both : (xs ys : List A) → length (xs ++ ys) ≡ length xs + length ys
  length_both [] ys = omega arith
  length_both (x ∷ xs) ys = let k = length_both xs ys in omega arith

  length_before : (k n : ℕ) → length (flat_map of_row (numbers k n)) ≡ before of_row k n
  length_before k zero = refl
  length_before k (suc n) = length_both (of_row k) (flat_map of_row (numbers (suc k) n))
      ∙ ap (λ (m : ℕ). length (of_row k) + m) (length_before (suc k) n)

  pub length_all : length (flat_map of_row (numbers 0 rows)) ≡ count rows
  length_all = length_before 0 rows ∙ below_is of_row count zero_is next rows
