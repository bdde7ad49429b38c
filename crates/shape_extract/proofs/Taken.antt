-- Items that pass a test and have different numbers, all below how many pass, take each of these numbers.
use Rattle.std.proofs.Common.{◌≡◌, ℕ, suc, ◌+◌, ◌<◌, ◌≤◌, inl, inr, Bool, true, false, cond, List, [], ◌∷◌, length}
use Rattle.std.proofs.Common.{Some, eqb, refl, sym, ap, subst, ◌∙◌, arith}
use Rattle.std.specs.Prelude.{slice_get, count_by}
use Rattle.std.specs.List.{list_any, IsDistinct, AllByRecursion}
use Rattle.std.proofs.lemmas.Bool.{or_cases, or_left, or_right, both_ways, false_from_ne_true, eqb-true}
use Rattle.std.proofs.lemmas.List.Sums.{sum_by-cons}
use Rattle.std.proofs.lemmas.Map.Steps.{length-le_from_distinct_below}

-- an item that passes and has this number
pub record HasNumber {X : Type 0} (test : X → Bool) (number : X → ℕ) (xs : List X) (n : ℕ) : Type 0 where
  pub place : ℕ
  pub item : X
  pub item_is : slice_get xs place ≡ Some item
  pub passes_so : test item ≡ true
  pub number_is : number item ≡ n

-- the numbers of those that pass
abbrev numbers_in : {X : Type 0} → (X → Bool) → (X → ℕ) → List X → List ℕ
numbers_in test number [] = []
numbers_in test number (x ∷ xs) =
    elim (test x) [ true ↦ number x ∷ numbers_in test number xs | false ↦ numbers_in test number xs ]

-- items that pass with one number have one place
abbrev pub HaveOwn : {X : Type 0} → (X → Bool) → (X → ℕ) → List X → Type 0
HaveOwn {X} test number xs = (i j : ℕ) (x y : X) → slice_get xs i ≡ Some x → test x ≡ true → slice_get xs j ≡ Some y
    → test y ≡ true → number x ≡ number y → i ≡ j

module _ {X : Type 0} (test : X → Bool) (number : X → ℕ) where
  numbers_yes : (x : X) (xs : List X) → test x ≡ true
      → numbers_in test number (x ∷ xs) ≡ number x ∷ numbers_in test number xs
  numbers_yes x xs e = rw (e, numbers_in) refl

  numbers_no : (x : X) (xs : List X) → test x ≡ false → numbers_in test number (x ∷ xs) ≡ numbers_in test number xs
  numbers_no x xs e = rw (e, numbers_in) refl

  count-cons : (x : X) (xs : List X) → count_by test (x ∷ xs) ≡ cond (test x) 1 0 + count_by test xs
  count-cons x xs = sum_by-cons (λ y. cond (test y) 1 0) x xs

  numbers_long : (xs : List X) → length (numbers_in test number xs) ≡ count_by test xs
  numbers_long [] = refl
  numbers_long (x ∷ xs) = by_test (numbers_long xs) (test x) refl
    where
      by_test : length (numbers_in test number xs) ≡ count_by test xs → (b : Bool) → test x ≡ b
          → length (numbers_in test number (x ∷ xs)) ≡ count_by test (x ∷ xs)
      by_test less true e = ap length (numbers_yes x xs e) ∙ sym (count-cons x xs ∙ rw e (omega (arith, less)))
      by_test less false e = ap length (numbers_no x xs e) ∙ (less ∙ sym (count-cons x xs ∙ rw e (omega arith)))

  later : (x : X) (xs : List X) (n : ℕ) → HasNumber test number xs n → HasNumber test number (x ∷ xs) n
  later x xs n has = record {
    place = suc has.place;
    item = has.item;
    item_is = has.item_is;
    passes_so = has.passes_so;
    number_is = has.number_is;
  }

  numbers_at : (xs : List X) (n : ℕ) → list_any (eqb n) (numbers_in test number xs) ≡ true → HasNumber test number xs n
  numbers_at [] n h = absurd (both_ways (list_any (eqb n) []) refl h)
  numbers_at (x ∷ xs) n h = by_test (λ k. numbers_at xs n k) (test x) refl
    where
      by_test : (list_any (eqb n) (numbers_in test number xs) ≡ true → HasNumber test number xs n) → (b : Bool)
          → test x ≡ b → HasNumber test number (x ∷ xs) n
      by_test less true e = elim (or_cases (eqb n (number x)) (list_any (eqb n) (numbers_in test number xs))
          (sym (ap (list_any (eqb n)) (numbers_yes x xs e)) ∙ h)) [
            | inl here ↦ record {
              place = 0;
              item = x;
              item_is = refl;
              passes_so = e;
              number_is = sym (eqb-true n (number x) here);
            }
            | inr rest ↦ later x xs n (less rest)
          ]
      by_test less false e = later x xs n (less (sym (ap (list_any (eqb n)) (numbers_no x xs e)) ∙ h))

  apart_from : (n : ℕ) (ms : List ℕ) → (list_any (eqb n) ms ≡ true → ⊥) → AllByRecursion (λ m. eqb n m ≡ false) ms
  apart_from n [] none = tt
  apart_from n (m ∷ ms) none = (
    false_from_ne_true (eqb n m) (λ e. none (or_left (eqb n m) (list_any (eqb n) ms) e)),
    apart_from n ms (λ e. none (or_right (eqb n m) (list_any (eqb n) ms) e)),
  )

  rest_own : (x : X) (xs : List X) → HaveOwn test number (x ∷ xs) → HaveOwn test number xs
  rest_own x xs own i j y z p t q u e = (let s : suc i ≡ suc j = own (suc i) (suc j) y z p t q u e in omega arith)

  numbers_distinct : (xs : List X) → HaveOwn test number xs → IsDistinct eqb (numbers_in test number xs)
  unfolding IsDistinct
  numbers_distinct [] own = tt
  numbers_distinct (x ∷ xs) own = by_test (numbers_distinct xs (rest_own x xs own)) (test x) refl
    where
      by_test : IsDistinct eqb (numbers_in test number xs) → (b : Bool) → test x ≡ b
          → IsDistinct eqb (numbers_in test number (x ∷ xs))
      by_test less true e = subst (IsDistinct eqb) (sym (numbers_yes x xs e)) (
        apart_from (number x) (numbers_in test number xs) (λ k.
            let has = numbers_at xs (number x) k in
            let z : suc has.place ≡ 0 =
            own (suc has.place) 0 has.item x has.item_is has.passes_so refl e has.number_is in
            omega arith),
        less,
      )
      by_test less false e = subst (IsDistinct eqb) (sym (numbers_no x xs e)) less

  -- each number is taken
  pub taken : (xs : List X) (n : ℕ) → HaveOwn test number xs
      → ((i : ℕ) (x : X) → slice_get xs i ≡ Some x → test x ≡ true → number x < count_by test xs) → n < count_by test xs
      → HasNumber test number xs n
  unfolding IsDistinct
  taken xs n own below lt = by_test (list_any (eqb n) (numbers_in test number xs)) refl
    where
      by_test : (b : Bool) → list_any (eqb n) (numbers_in test number xs) ≡ b → HasNumber test number xs n
      by_test true e = numbers_at xs n e
      by_test false e = absurd (
          let long : length (numbers_in test number xs) ≡ count_by test xs = numbers_long xs in
          let distinct : IsDistinct eqb (n ∷ numbers_in test number xs) = (
            apart_from n (numbers_in test number xs)
                (λ k. both_ways (list_any (eqb n) (numbers_in test number xs)) e k),
            numbers_distinct xs own,
          ) in
          let few : suc (length (numbers_in test number xs)) ≤ count_by test xs = length-le_from_distinct_below
          (n ∷ numbers_in test number xs) (count_by test xs) distinct (λ q any. all q any) in
          omega arith
          )
        where
          all : (q : ℕ) → list_any (eqb q) (n ∷ numbers_in test number xs) ≡ true → q < count_by test xs
          all q any = elim (or_cases (eqb q n) (list_any (eqb q) (numbers_in test number xs)) any) [
            | inl here ↦ (let same : q ≡ n = eqb-true q n here in omega arith)
            | inr there ↦ (let has = numbers_at xs q there in let h : number has.item < count_by test xs =
                below has.place has.item has.item_is has.passes_so in let e : number has.item ≡ q =
                has.number_is in omega arith)
          ]
