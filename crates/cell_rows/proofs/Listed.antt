-- Lists that grow by one element at their end.
use Rattle.std.proofs.Common.{◌≡◌, ℕ, ◌+◌, zero, suc, ◌<◌, ◌≤◌, Bool, true, false, List, [], ◌∷◌, ◌++◌, length}
use Rattle.std.proofs.Common.{get_or, Some, refl, ap, sym, ◌∙◌, subst, arith, inl, inr}
use Rattle.std.specs.Prelude.{slice_get, slice_index_or, slice_set}
use Rattle.std.proofs.lemmas.Bool.{cases_eq, cond-true, cond-false}
use Rattle.std.proofs.lemmas.Option.{none-some, same_Some, slice_get_within, get_or_from_slice_get}
use Rattle.std.proofs.lemmas.List.{length_push, length-set, ext_get_or, get_or-set_same, get_or-set_other}
use Rattle.cell_rows.specs.Members.{passing_below, listed}

pub get_left : {A : Type 0} (xs : List A) (y : A) (i : ℕ) → i < length xs → slice_get (xs ++ y ∷ []) i ≡ slice_get xs i
get_left [] y i lt = absurd (omega (arith, lt))
get_left (x ∷ xs) y zero lt = refl
get_left (x ∷ xs) y (suc i) lt = get_left xs y i (omega (arith, lt))

pub get_last : {A : Type 0} (xs : List A) (y : A) (i : ℕ) → i ≡ length xs → slice_get (xs ++ y ∷ []) i ≡ Some y
get_last [] y zero e = refl
get_last [] y (suc i) e = absurd (omega (arith, e))
get_last (x ∷ xs) y zero e = absurd (omega (arith, e))
get_last (x ∷ xs) y (suc i) e = get_last xs y i (omega (arith, e))

-- a list that is told by places

pub listed_long : {A : Type 0} (f : ℕ → A) (n : ℕ) → length (listed f n) ≡ n
listed_long f zero = refl
listed_long f (suc n) =
    let long = listed_long f n in let push = length_push (listed f n) (f n) in omega (arith, long, push)

pub listed_at : {A : Type 0} (f : ℕ → A) (n k : ℕ) → k < n → slice_get (listed f n) k ≡ Some (f k)
listed_at f zero k lt = absurd (omega (arith, lt))
listed_at f (suc n) k lt = elim (cases_eq k n) [
  | inl e ↦ get_last (listed f n) (f n) k (e ∙ sym (listed_long f n)) ∙ ap (λ (m : ℕ). Some (f m)) (sym e)
  | inr ne ↦
      let long = listed_long f n in
      get_left (listed f n) (f n) k (omega (arith, ne, lt, long)) ∙ listed_at f n k (omega (arith, ne, lt))
]

pub listed_read : {A : Type 0} (f : ℕ → A) (n k : ℕ) (d : A) → k < n → slice_index_or (listed f n) k d ≡ f k
listed_read f n k d lt = get_or_from_slice_get (listed f n) k (f k) d (listed_at f n k lt)

-- another one at one place
pub listed_set : {A : Type 0} (f g : ℕ → A) (n r : ℕ) → r < n → ((k : ℕ) → (k ≡ r → ⊥) → g k ≡ f k)
    → slice_set (listed f n) r (g r) ≡ listed g n
listed_set f g n r lt other =
    ext_get_or (f 0) (slice_set (listed f n) r (g r)) (listed g n)
    (length-set (listed f n) r (g r) ∙ listed_long f n ∙ sym (listed_long g n))
    (λ k within.
    let low : k < n =
    let a = length-set (listed f n) r (g r) in let b = listed_long f n in omega (arith, within, a, b) in
    let there : r < length (listed f n) = let b = listed_long f n in omega (arith, lt, b) in
    elim (cases_eq k r) [
      | inl e ↦
          ap (λ (m : ℕ). get_or (slice_set (listed f n) r (g r)) m (f 0)) e
          ∙ get_or-set_same (listed f n) r (g r) (f 0) there ∙ ap g (sym e) ∙ sym (listed_read g n k (f 0) low)
      | inr ne ↦
          get_or-set_other (listed f n) r k (g r) (f 0) ne ∙ listed_read f n k (f 0) low ∙ sym (other k ne)
          ∙ sym (listed_read g n k (f 0) low)
    ])

pub listed_same : {A : Type 0} (f g : ℕ → A) (n : ℕ) → ((k : ℕ) → k < n → g k ≡ f k) → listed f n ≡ listed g n
listed_same f g zero same = refl
listed_same f g (suc n) same =
    ap (λ xs. xs ++ f n ∷ []) (listed_same f g n (λ k lt. same k (omega (arith, lt))))
    ∙ ap (λ x. listed g n ++ x ∷ []) (sym (same n (omega arith)))

-- the numbers that pass a test

pub pass_more : (p : ℕ → Bool) (n : ℕ) → p n ≡ true → passing_below p (suc n) ≡ passing_below p n ++ n ∷ []
pass_more p n e = cond-true (p n) (passing_below p n ++ n ∷ []) (passing_below p n) e

pub pass_none : (p : ℕ → Bool) (n : ℕ) → p n ≡ false → passing_below p (suc n) ≡ passing_below p n
pass_none p n e = cond-false (p n) (passing_below p n ++ n ∷ []) (passing_below p n) e

pub passing_long : (p : ℕ → Bool) (n : ℕ) → length (passing_below p n) ≤ n
passing_long p zero = omega arith
passing_long p (suc n) = by (p n) refl (passing_long p n)
  where
    by : (b : Bool) → p n ≡ b → length (passing_below p n) ≤ n → length (passing_below p (suc n)) ≤ suc n
    by true e long =
        let more = ap length (pass_more p n e) in
        let push = length_push (passing_below p n) n in
        omega (arith, long, more, push)
    by false e long = let same = ap length (pass_none p n e) in omega (arith, long, same)

-- one that passes stands at the place of as many as pass before it
pub passing_at : (p : ℕ → Bool) (n j : ℕ) → j < n → p j ≡ true
    → slice_get (passing_below p n) (length (passing_below p j)) ≡ Some j
passing_at p zero j lt pass = absurd (omega (arith, lt))
passing_at p (suc n) j lt pass = elim (cases_eq j n) [
  | inl e ↦
      let pass' : p n ≡ true = ap p (sym e) ∙ pass in
      ap (λ (xs : List ℕ). slice_get xs (length (passing_below p j))) (pass_more p n pass')
      ∙ get_last (passing_below p n) n (length (passing_below p j)) (ap (λ (m : ℕ). length (passing_below p m)) e)
      ∙ ap (λ (m : ℕ). Some m) (sym e)
  | inr ne ↦ before (p n) refl (passing_at p n j (omega (arith, ne, lt)) pass)
]
  where
    before : (b : Bool) → p n ≡ b → slice_get (passing_below p n) (length (passing_below p j)) ≡ Some j
        → slice_get (passing_below p (suc n)) (length (passing_below p j)) ≡ Some j
    before true e at =
        ap (λ (xs : List ℕ). slice_get xs (length (passing_below p j))) (pass_more p n e)
        ∙ get_left (passing_below p n) n (length (passing_below p j))
        (slice_get_within (passing_below p n) (length (passing_below p j)) j at)
        ∙ at
    before false e at = ap (λ (xs : List ℕ). slice_get xs (length (passing_below p j))) (pass_none p n e) ∙ at

-- what stands at a place of these numbers
pub record IsPassing (p : ℕ → Bool) (n c j : ℕ) : Type 0 where
  pub below : j < n
  pub passes : p j ≡ true
  pub place : c ≡ length (passing_below p j)

more_passing : (p : ℕ → Bool) (n c j : ℕ) → IsPassing p n c j → IsPassing p (suc n) c j
more_passing p n c j known = record {
  below = let lt = known.below in omega (arith, lt);
  passes = known.passes;
  place = known.place;
}

pub passing_is : (p : ℕ → Bool) (n c j : ℕ) → slice_get (passing_below p n) c ≡ Some j → IsPassing p n c j
passing_is p zero c j at = absurd (none-some j at)
passing_is p (suc n) c j at = by (p n) refl (passing_is p n c j)
  where
    by : (b : Bool) → p n ≡ b → (slice_get (passing_below p n) c ≡ Some j → IsPassing p n c j)
        → IsPassing p (suc n) c j
    by true e rest =
        let here = ap (λ (xs : List ℕ). slice_get xs c) (sym (pass_more p n e)) ∙ at in
        let within = slice_get_within (passing_below p n ++ n ∷ []) c j here in
        let push = length_push (passing_below p n) n in
        elim (cases_eq c (length (passing_below p n))) [
          | inl last ↦
              let same : n ≡ j = same_Some n j (sym (get_last (passing_below p n) n c last) ∙ here) in
              subst (λ (k : ℕ). IsPassing p (suc n) c k) same
              (record { below = omega arith; passes = e; place = last })
          | inr ne ↦
              more_passing p n c j
              (rest
              (sym (get_left (passing_below p n) n c (omega (arith, ne, within, push))) ∙ here))
        ]
    by false e rest =
        more_passing p n c j (rest (ap (λ (xs : List ℕ). slice_get xs c) (sym (pass_none p n e)) ∙ at))

-- a number more, where whatever passes the first test passes the second
one_number : (p q : ℕ → Bool) (n least : ℕ) → ((k : ℕ) → p k ≡ true → q k ≡ true)
    → least + length (passing_below p n) ≤ length (passing_below q n)
    → least + length (passing_below p (suc n)) ≤ length (passing_below q (suc n))
one_number p q n least all low = by (p n) (q n) refl refl
  where
    by : (b c : Bool) → p n ≡ b → q n ≡ c
        → least + length (passing_below p (suc n)) ≤ length (passing_below q (suc n))
    by true true e f =
        let a = ap length (pass_more p n e) ∙ length_push (passing_below p n) n in
        let b = ap length (pass_more q n f) ∙ length_push (passing_below q n) n in
        omega (arith, low, a, b)
    by true false e f = absurd (let h : true ≡ false = sym (all n e) ∙ f in cc)
    by false true e f =
        let a = ap length (pass_none p n e) in
        let b = ap length (pass_more q n f) ∙ length_push (passing_below q n) n in
        omega (arith, low, a, b)
    by false false e f =
        let a = ap length (pass_none p n e) in
        let b = ap length (pass_none q n f) in
        omega (arith, low, a, b)

-- as many numbers are below n as pass, and fewer pass a narrower test
pub passing_fewer : (p q : ℕ → Bool) (n : ℕ) → ((j : ℕ) → p j ≡ true → q j ≡ true)
    → length (passing_below p n) ≤ length (passing_below q n)
passing_fewer p q zero all = omega arith
passing_fewer p q (suc n) all =
    let low = passing_fewer p q n all in
    let more = one_number p q n 0 all (omega (arith, low)) in
    omega (arith, more)

-- one more passes where a number that fails the narrower test passes the other
pub passing_one_fewer : (p q : ℕ → Bool) (n j : ℕ) → ((k : ℕ) → p k ≡ true → q k ≡ true) → j < n → p j ≡ false
    → q j ≡ true → suc (length (passing_below p n)) ≤ length (passing_below q n)
passing_one_fewer p q zero j all lt fails passes = absurd (omega (arith, lt))
passing_one_fewer p q (suc n) j all lt fails passes = elim (cases_eq j n) [
  | inl e ↦
      let low = passing_fewer p q n all in
      let a = ap length (pass_none p n (ap p (sym e) ∙ fails)) in
      let b = ap length (pass_more q n (ap q (sym e) ∙ passes)) ∙ length_push (passing_below q n) n in
      omega (arith, low, a, b)
  | inr ne ↦
      let low = passing_one_fewer p q n j all (omega (arith, ne, lt)) fails passes in
      let more = one_number p q n 1 all (omega (arith, low)) in
      omega (arith, more)
]
