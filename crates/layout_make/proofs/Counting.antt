-- How many items of a list pass a test, by a numbering of those that do.
use Rattle.std.proofs.Common.{◌≡◌, ℕ, zero, suc, ◌+◌, ◌<◌, Bool, true, false, not, ◌&&◌, ◌==◌, cond, refl, sym, ap}
use Rattle.std.proofs.Common.{subst, ◌∙◌, arith, inl, inr, List, [], ◌∷◌, length, Option, Some, None}
use Rattle.std.specs.Prelude.{slice_get, count_by}
use Rattle.std.proofs.lemmas.Bool.{cases_eq, eq-eqb, ne_eqb, and_parts, and_from, false_from_ne_true, both_ways}
use Rattle.std.proofs.lemmas.Option.{slice_get_within}
use Rattle.std.proofs.lemmas.List.Sums.{sum_by-cons}

abbrev one : Bool → ℕ
one b = cond b 1 0

-- how many numbers below n pass
count_where : (ℕ → Bool) → ℕ → ℕ
count_where t zero = 0
count_where t (suc n) = one (t 0) + count_where (λ i. t (suc i)) n

passes_at : {A : Type 0} → (A → Bool) → Option A → Bool
passes_at test None = false
passes_at test (Some x) = test x

count_places : {A : Type 0} (test : A → Bool) (xs : List A)
    → count_by test xs ≡ count_where (λ i. passes_at test (slice_get xs i)) (length xs)
unfolding count_where passes_at
count_places test [] = refl
count_places test (x ∷ xs) = sum_by-cons (λ y. one (test y)) x xs
    ∙ ap (λ (n : ℕ). one (test x) + n) (count_places test xs)

count_same : (t u : ℕ → Bool) (n : ℕ) → ((i : ℕ) → t i ≡ u i) → count_where t n ≡ count_where u n
unfolding count_where
count_same t u zero same = refl
count_same t u (suc n) same = let k = count_same (λ i. t (suc i)) (λ i. u (suc i)) n (λ i. same (suc i)) in
    ap (λ (b : Bool). one b + count_where (λ i. t (suc i)) n) (same 0) ∙ ap (λ (m : ℕ). one (u 0) + m) k

count_none : (t : ℕ → Bool) (n : ℕ) → ((i : ℕ) → i < n → t i ≡ true → ⊥) → count_where t n ≡ 0
unfolding count_where
count_none t zero none = refl
count_none t (suc n) none =
    let k = count_none (λ i. t (suc i)) n (λ i lt. none (suc i) (omega arith)) in
    let e : one (t 0) ≡ 0 = ap one (false_from_ne_true (t 0) (none 0 (omega arith))) in
    omega arith

-- without one number
abbrev without : (ℕ → Bool) → ℕ → ℕ → Bool
without t k i = t i && not (i == k)

kept_apart : (b : Bool) (i k : ℕ) → (i ≡ k → ⊥) → (b && not (i == k)) ≡ b
kept_apart b i k ne = ap (λ (x : Bool). b && not x) (ne_eqb i k ne) ∙ go b
  where
    go : (b : Bool) → (b && true) ≡ b
    go true = refl
    go false = refl

count_remove : (t : ℕ → Bool) (n k : ℕ) → k < n → t k ≡ true → count_where t n ≡ suc (count_where (without t k) n)
unfolding count_where
count_remove t zero k lt e = absurd (omega arith)
count_remove t (suc n) zero lt e =
    let later = count_same (λ i. t (suc i)) (λ i. without t 0 (suc i)) n
    (λ i. sym (kept_apart (t (suc i)) (suc i) 0 (λ z. omega arith))) in
    let gone : without t 0 0 ≡ false = ap (λ (b : Bool). b && not (0 == 0)) e in
    let a : one (t 0) ≡ 1 = ap one e in
    let b : one (without t 0 0) ≡ 0 = ap one gone in
    omega arith
count_remove t (suc n) (suc k) lt e =
    let h = count_remove (λ i. t (suc i)) n k (omega arith) e in
    let same = count_same (without (λ i. t (suc i)) k) (λ i. without t (suc k) (suc i)) n
    (λ i. ap (λ (b : Bool). t (suc i) && not b) (shift i k)) in
    let a : one (without t (suc k) 0) ≡ one (t 0) = ap one (kept_apart (t 0) 0 (suc k) (λ z. omega arith)) in
    omega arith
  where
    shift : (i k : ℕ) → (i == k) ≡ (suc i == suc k)
    shift i k =
        elim (cases_eq i k) [
          | inl e ↦ eq-eqb i k e ∙ sym (eq-eqb (suc i) (suc k) (ap suc e))
          | inr ne ↦ ne_eqb i k ne
              ∙ sym (ne_eqb (suc i) (suc k) (λ z. ne (omega arith)))
        ]

-- places that pass, numbered from 0 to n - 1, each with one number
numbered : (Num : ℕ → ℕ → Type 0) → ((i j m : ℕ) → Num i m → Num j m → i ≡ j)
    → ((i m k : ℕ) → Num i m → Num i k → m ≡ k) → (n : ℕ) (t : ℕ → Bool) (size : ℕ)
    → ((i : ℕ) → i < size → t i ≡ true → (m : ℕ) × (m < n) × Num i m)
    → ((m : ℕ) → m < n → (i : ℕ) × (i < size) × (t i ≡ true) × Num i m) → count_where t size ≡ n
numbered Num place number zero t size each some = count_none t size (λ i lt e. let k = each i lt e in
    let h = k.1 in omega arith)
numbered Num place number (suc n) t size each some =
    let last = some n (omega arith) in
    let k = last.0 in
    count_remove t size k last.1 last.2
    ∙ ap suc (numbered Num place number n (without t k) size
    (λ i lt e.
    let parts = and_parts (t i) (not (i == k)) e in
    let m = each i lt parts.0 in
    (m.0, below m.0 n m.1 (λ same. apart i k parts.1 (place i k n (num i m.0 n same m.2) last.3)), m.2))
    (λ m lt.
    let i = some m (omega arith) in (
      i.0,
      i.1,
      and_from (t i.0) (not (i.0 == k)) i.2
          (other i.0 k (λ same. let e = number k m n (shifted i.0 k m same i.3) last.3 in omega arith)),
      i.3,
    )))
  where
    num : (i m n : ℕ) → m ≡ n → Num i m → Num i n
    num i m n e h = subst (λ (x : ℕ). Num i x) e h

    shifted : (i k m : ℕ) → i ≡ k → Num i m → Num k m
    shifted i k m e h = subst (λ (x : ℕ). Num x m) e h

    below : (m n : ℕ) → m < suc n → (m ≡ n → ⊥) → m < n
    below m n lt ne = elim (cases_eq m n) [ inl e ↦ absurd (ne e) | inr d ↦ omega arith ]

    apart : (i k : ℕ) → not (i == k) ≡ true → i ≡ k → ⊥
    apart i k e same = let x : (i == k) ≡ true = eq-eqb i k same in let y : not (i == k) ≡ false = ap not x in
        both_ways (not (i == k)) y e

    other : (i k : ℕ) → (i ≡ k → ⊥) → not (i == k) ≡ true
    other i k ne = ap not (ne_eqb i k ne)

pub count_numbered : {A : Type 0} (Num : ℕ → ℕ → Type 0) → ((i j m : ℕ) → Num i m → Num j m → i ≡ j)
    → ((i m k : ℕ) → Num i m → Num i k → m ≡ k) → (test : A → Bool) (xs : List A) (n : ℕ)
    → ((i : ℕ) (x : A) → slice_get xs i ≡ Some x → test x ≡ true → (m : ℕ) × (m < n) × Num i m)
    → ((m : ℕ) → m < n → (i : ℕ) × (x : A) × (slice_get xs i ≡ Some x) × (test x ≡ true) × Num i m)
    → count_by test xs ≡ n
unfolding passes_at
count_numbered {A} Num place number test xs n each some = count_places test xs
    ∙ numbered Num place number n (λ i. passes_at test (slice_get xs i)) (length xs)
    (λ i lt e. found i (slice_get xs i) refl e)
    (λ m lt. let k = some m lt in (k.0, slice_get_within xs k.0 k.1 k.2, ap (passes_at test) k.2 ∙ k.3, k.4))
  where
    found : (i : ℕ) (o : Option A) → slice_get xs i ≡ o → passes_at test o ≡ true → (m : ℕ) × (m < n) × Num i m
    found i None q e = absurd cc
    found i (Some x) q e = each i x q e
