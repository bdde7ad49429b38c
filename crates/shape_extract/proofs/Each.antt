-- A fact about each item of a written list and its number, given item by item.
use Rattle.std.proofs.Common.{◌≡◌, ℕ, zero, suc, ◌+◌, ◌<◌, Bool, true, ◌&&◌, List, [], ◌∷◌, length, get_or, Some}
use Rattle.std.proofs.Common.{refl, sym, ap, subst, ◌∙◌, arith, add-zero}
use Rattle.std.specs.Prelude.{slice_get}
use Rattle.std.proofs.lemmas.Bool.{and_parts}
use Rattle.std.proofs.lemmas.Option.{same_Some, slice_get-get_or}

-- the fact holds of each item, these being numbered from k
abbrev pub EachFrom : {X : Type 0} → (ℕ → X → Type 0) → ℕ → List X → Type 0
EachFrom P k [] = Unit {0}
EachFrom P k (x ∷ xs) = P k x × EachFrom P (suc k) xs

from_at : {X : Type 0} (P : ℕ → X → Type 0) (k : ℕ) (xs : List X) → EachFrom P k xs → (i : ℕ) (x : X)
    → slice_get xs i ≡ Some x → P (k + i) x
from_at P k [] all i x is = absurd cc
from_at P k (y ∷ xs) all zero x is = rw add-zero (subst (P k) (same_Some y x is) all.0)
from_at P k (y ∷ xs) all (suc i) x is = let e : k + suc i ≡ suc k + i = omega arith in rw e
    (from_at P (suc k) xs all.1 i x is)

pub each_at : {X : Type 0} (P : ℕ → X → Type 0) (xs : List X) → EachFrom P 0 xs → (i : ℕ) (x : X)
    → slice_get xs i ≡ Some x → P i x
each_at P xs all i x is = let e : 0 + i ≡ i = omega arith in rw e at (from_at P 0 xs all i x is)

-- a test that is computed of each item and its number
abbrev pub all_pass : {X : Type 0} → (ℕ → X → Bool) → ℕ → List X → Bool
all_pass test k [] = true
all_pass test k (x ∷ xs) = test k x && all_pass test (suc k) xs

each_passes : {X : Type 0} (test : ℕ → X → Bool) (k : ℕ) (xs : List X) → all_pass test k xs ≡ true
    → EachFrom (λ i x. test i x ≡ true) k xs
each_passes test k [] all = tt
each_passes test k (x ∷ xs) all = (
  (and_parts (test k x) (all_pass test (suc k) xs) all).0,
  each_passes test (suc k) xs (and_parts (test k x) (all_pass test (suc k) xs) all).1,
)

pub passes_at : {X : Type 0} (test : ℕ → X → Bool) (xs : List X) → all_pass test 0 xs ≡ true → (i : ℕ) (x : X)
    → slice_get xs i ≡ Some x → test i x ≡ true
passes_at test xs all = each_at (λ i x. test i x ≡ true) xs (each_passes test 0 xs all)

pub item_at : {X : Type 0} (xs : List X) (i : ℕ) → i < length xs → (x : X) × (slice_get xs i ≡ Some x)
item_at [] i lt = absurd (omega arith)
item_at (x ∷ xs) zero lt = (x, refl)
item_at (x ∷ xs) (suc i) lt = item_at xs i (omega arith)

-- an item that is read where the list is another one's
pub item_there : {X : Type 0} {xs ys : List X} {i : ℕ} {x : X} → ys ≡ xs → i < length ys → x ≡ get_or ys i x
    → slice_get xs i ≡ Some x
item_there {X} {xs} {ys} {i} {x} same lt is =
    rw same at (slice_get-get_or ys i x lt ∙ sym (ap (λ (y : X). Some y) is))

pub item_read : {X : Type 0} {xs ys : List X} {i : ℕ} {x : X} → ys ≡ xs → i < length xs → x ≡ get_or ys i x
    → slice_get xs i ≡ Some x
item_read same lt is = item_there same (rw same lt) is
