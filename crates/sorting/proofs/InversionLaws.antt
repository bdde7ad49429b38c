-- Laws of inversions: a list has none exactly where it is in order, and putting part of it in order removes those
-- inside.
use Rattle.std.proofs.Common.{◌≡◌, ℕ, ◌+◌, ◌≤◌, Bool, true, false, leb, ltb, List, [], ◌∷◌, ◌++◌, refl, inl, inr, arith}
use Rattle.std.specs.List.{AllByRecursion}
use Rattle.std.proofs.lemmas.Bool.{cases_lt, lt-ltb, le-ltb, le-leb, lt-leb}
use Rattle.sorting.specs.Sorting.{put_by, in_order, NotFalling, passing}
use Rattle.sorting.proofs.SortingLaws.{passing-cons, by_key_in_order, same_in_order, by_key_same_key}
use Rattle.sorting.specs.Numbers.{Same}
use Rattle.sorting.specs.Inversions.{below, inversions}

-- the same from one list to the next
abbrev pub across : List ℕ → List ℕ → ℕ
across [] ys = 0
across (x ∷ xs) ys = below x ys + across xs ys

pub passing-append : {X : Type 0} (p : X → Bool) (xs ys : List X) → passing p (xs ++ ys) ≡ passing p xs + passing p ys
passing-append p [] ys = omega arith
passing-append p (x ∷ xs) ys = omega (arith, passing-cons p x (xs ++ ys), passing-cons p x xs, passing-append p xs ys)

pub inversions-append : (xs ys : List ℕ) → inversions (xs ++ ys) ≡ inversions xs + across xs ys + inversions ys
inversions-append [] ys = omega arith
inversions-append (x ∷ xs) ys = omega (arith, passing-append (λ y. ltb y x) xs ys, inversions-append xs ys)

pub across-same : (xs ys zs : List ℕ) → Same ys zs → across xs ys ≡ across xs zs
across-same [] ys zs same = refl
across-same (x ∷ xs) ys zs same = omega (arith, same (λ y. ltb y x), across-same xs ys zs same)

across-put : (x : ℕ) (xs ys : List ℕ) → across (put_by (λ n. n) x xs) ys ≡ below x ys + across xs ys
across-put x [] ys = refl
across-put x (y ∷ xs) ys = elim (cases_lt y x) [
  | inl lt ↦ let k : leb x y ≡ false = lt-leb x y lt in rw k (omega (arith, across-put x xs ys))
  | inr ge ↦ let k : leb x y ≡ true = le-leb x y ge in rw k refl
]

pub across-in_order : (xs ys : List ℕ) → across (in_order xs) ys ≡ across xs ys
across-in_order [] ys = refl
across-in_order (x ∷ xs) ys = omega (arith, across-put x (in_order xs) ys, across-in_order xs ys)

-- a list in order has no inversion
pub none_below : (x b : ℕ) (ys : List ℕ) → NotFalling (λ n. n) b ys → x ≤ b → below x ys ≡ 0
none_below x b [] up le = refl
none_below x b (y ∷ ys) up le = let k : ltb y x ≡ false = le-ltb y x (omega (arith, up.0)) in rw k
    (none_below x y ys up.1 (omega (arith, up.0)))

pub none_in_order : (b : ℕ) (xs : List ℕ) → NotFalling (λ n. n) b xs → inversions xs ≡ 0
none_in_order b [] up = refl
none_in_order b (x ∷ xs) up = omega (arith, none_below x x xs up.1 (omega arith), none_in_order x xs up.1)

-- and a list without inversions is in order
from_none_below : (x : ℕ) (ys : List ℕ) → below x ys ≡ 0 → AllByRecursion (λ y. x ≤ y) ys
from_none_below x [] e = tt
from_none_below x (y ∷ ys) e = elim (cases_lt y x) [
  | inl lt ↦ absurd (let k : ltb y x ≡ true = lt-ltb y x lt in let h = rw k at e in cc)
  | inr ge ↦ (ge, from_none_below x ys (let k : ltb y x ≡ false = le-ltb y x ge in rw k at e))
]

up_from : (x : ℕ) (ys : List ℕ) → AllByRecursion (λ y. x ≤ y) ys → (b : ℕ) → NotFalling (λ n. n) b ys
    → NotFalling (λ n. n) x ys
up_from x [] all b up = tt
up_from x (y ∷ ys) all b up = (all.0, up.1)

pub in_order_from_none : (xs : List ℕ) → inversions xs ≡ 0 → NotFalling (λ n. n) 0 xs
in_order_from_none [] e = tt
in_order_from_none (x ∷ xs) e =
    (omega arith, up_from x xs (from_none_below x xs (omega (arith, e))) 0 (in_order_from_none xs (omega (arith, e))))

pub in_order_same : (xs : List ℕ) → inversions xs ≡ 0 → in_order xs ≡ xs
in_order_same xs e = same_in_order (λ n. n) 0 0 (in_order xs) xs (by_key_in_order (λ n. n) xs) (in_order_from_none xs e)
    (λ n. by_key_same_key (λ n. n) n xs)
