-- Tests over lists, by the places of the items that pass them.
use Rattle.std.proofs.Common.{◌≡◌, ℕ, zero, suc, ◌+◌, Bool, true, false, cond, List, [], ◌∷◌, Some, refl, sym, ap, ◌∙◌}
use Rattle.std.proofs.Common.{arith, inl, inr, slice_get, count_by}
use Rattle.std.specs.List.{list_any}
use Rattle.std.proofs.lemmas.Bool.{or_left, or_right, or_cases, both_ways, false_from_ne_true}
use Rattle.std.proofs.lemmas.List.Sums.{sum_by-cons}
use Rattle.std.proofs.lemmas.Option.{same_Some}

-- an item that passes, with its place
pub record PassesAt {X : Type 0} (test : X → Bool) (xs : List X) : Type 0 where
  pub place : ℕ
  pub item : X
  pub item_is : slice_get xs place ≡ Some item
  pub passes_so : test item ≡ true

pub list_any-at : {X : Type 0} (test : X → Bool) (xs : List X) (n : ℕ) (x : X) → slice_get xs n ≡ Some x → test x ≡ true
    → list_any test xs ≡ true
list_any-at test [] n x p e = absurd cc
list_any-at test (y ∷ ys) zero x p e = or_left (test y) (list_any test ys) (ap test (same_Some y x p) ∙ e)
list_any-at test (y ∷ ys) (suc n) x p e = or_right (test y) (list_any test ys) (list_any-at test ys n x p e)

pub list_any-place : {X : Type 0} (test : X → Bool) (xs : List X) → list_any test xs ≡ true → PassesAt test xs
list_any-place test [] e = absurd (both_ways (list_any test []) refl e)
list_any-place test (x ∷ xs) e = elim (or_cases (test x) (list_any test xs) e) [
  | inl here ↦ record { place = 0; item = x; item_is = refl; passes_so = here }
  | inr later ↦ let p : PassesAt test xs =
      list_any-place test xs later in record {
        place = suc p.place;
        item = p.item;
        item_is = p.item_is;
        passes_so = p.passes_so;
      }
]

count-cons : {X : Type 0} (test : X → Bool) (x : X) (xs : List X)
    → count_by test (x ∷ xs) ≡ cond (test x) 1 0 + count_by test xs
count-cons test x xs = sum_by-cons (λ y. cond (test y) 1 0) x xs

count_yes : {X : Type 0} (test : X → Bool) (x : X) (xs : List X) → test x ≡ true
    → count_by test (x ∷ xs) ≡ suc (count_by test xs)
count_yes test x xs e = count-cons test x xs ∙ rw e (omega arith)

count_no : {X : Type 0} (test : X → Bool) (x : X) (xs : List X) → test x ≡ false
    → count_by test (x ∷ xs) ≡ count_by test xs
count_no test x xs e = count-cons test x xs ∙ rw e (omega arith)

pub count_by-none : {X : Type 0} (test : X → Bool) (xs : List X)
    → ((n : ℕ) (x : X) → slice_get xs n ≡ Some x → test x ≡ true → ⊥) → count_by test xs ≡ 0
count_by-none test [] none = refl
count_by-none test (x ∷ xs) none =
    count_no test x xs (false_from_ne_true (test x) (λ e. none 0 x refl e))
    ∙ count_by-none test xs (λ n y p e. none (suc n) y p e)

-- one place alone passes
pub count_by-once : {X : Type 0} (test : X → Bool) (xs : List X) (k : ℕ) (x : X) → slice_get xs k ≡ Some x
    → test x ≡ true → ((n : ℕ) (y : X) → slice_get xs n ≡ Some y → test y ≡ true → n ≡ k) → count_by test xs ≡ 1
count_by-once test [] k x p e only = absurd cc
count_by-once test (y ∷ ys) zero x p e only =
    let none : count_by test ys ≡ 0 = count_by-none test ys
    (λ n z q t. (let k : suc n ≡ 0 = only (suc n) z q t in omega arith)) in
    count_yes test y ys (ap test (same_Some y x p) ∙ e) ∙ ap suc none
count_by-once test (y ∷ ys) (suc k) x p e only =
    count_no test y ys (false_from_ne_true (test y) (λ t. (let z : 0 ≡ suc k = only 0 y refl t in omega arith)))
    ∙ count_by-once test ys k x p e (λ n z q t. (let s : suc n ≡ suc k = only (suc n) z q t in omega arith))

none_of : {X : Type 0} (test : X → Bool) (xs : List X) (n : ℕ) (x : X) → count_by test xs ≡ 0
    → slice_get xs n ≡ Some x → test x ≡ true → ⊥
none_of test [] n x c p e = absurd cc
none_of test (y ∷ ys) zero x c p e = let k : count_by test (y ∷ ys) ≡ suc (count_by test ys) = count_yes test y ys
    (ap test (same_Some y x p) ∙ e) in omega arith
none_of test (y ∷ ys) (suc n) x c p e =
    let k : count_by test (y ∷ ys) ≡ cond (test y) 1 0 + count_by test ys = count-cons test y ys in
    none_of test ys n x (omega arith) p e

-- where the count is 1, two that pass have one place
pub count_by-one : {X : Type 0} (test : X → Bool) (xs : List X) (m n : ℕ) (x y : X) → count_by test xs ≡ 1
    → slice_get xs m ≡ Some x → test x ≡ true → slice_get xs n ≡ Some y → test y ≡ true → m ≡ n
count_by-one test [] m n x y c p e q t = absurd cc
count_by-one test (z ∷ zs) zero zero x y c p e q t = refl
count_by-one test (z ∷ zs) zero (suc n) x y c p e q t =
    let k : count_by test (z ∷ zs) ≡ suc (count_by test zs) = count_yes test z zs (ap test (same_Some z x p) ∙ e) in
    absurd (none_of test zs n y (omega arith) q t)
count_by-one test (z ∷ zs) (suc m) zero x y c p e q t =
    let k : count_by test (z ∷ zs) ≡ suc (count_by test zs) = count_yes test z zs (ap test (same_Some z y q) ∙ t) in
    absurd (none_of test zs m x (omega arith) p e)
count_by-one test (z ∷ zs) (suc m) (suc n) x y c p e q t =
    ap suc (count_by-one test zs m n x y (by_test (test z) refl) p e q t)
  where
    by_test : (b : Bool) → test z ≡ b → count_by test zs ≡ 1
    by_test true h =
        let k : count_by test (z ∷ zs) ≡ suc (count_by test zs) = count_yes test z zs h in
        absurd (none_of test zs m x (omega arith) p e)
    by_test false h = sym (count_no test z zs h) ∙ c
