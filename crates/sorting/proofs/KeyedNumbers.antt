-- Lemmas on cells with their keys: sorting them sorts their numbers.
use Rattle.std.proofs.Common.{◌≡◌, ℕ, suc, ◌+◌, ◌<◌, List, [], ◌∷◌, ◌++◌, Bool, true, false, length, drop, map, get_or}
use Rattle.std.proofs.Common.{refl, sym, ◌∙◌, ap, subst, arith, leb, add-one, drop-cons, append_assoc}
use Rattle.std.specs.List.{AllByRecursion}
use Rattle.std.specs.List.Sorted.{IsSortedByKey, IsStableByKey}
use Rattle.std.specs.Ordering.{nat_cmp}
use Rattle.std.proofs.lemmas.List.{drop_all, append-nil}
use Rattle.sorting.specs.Sorting.{by_key, put_by}
use Rattle.sorting.proofs.SortingLaws.{by_key_from_sort, by_key_all}
use Rattle.sorting.specs.Numbers.{numbers}
use Rattle.sorting.specs.declared.order.Keyed.{Keyed}

abbrev pub keyed : ℕ → List ℕ → List Keyed
keyed n [] = []
keyed n (k ∷ ks) = record { key = k; number = n } ∷ keyed (suc n) ks

abbrev pub key_of : Keyed → ℕ
key_of cell = cell.key

abbrev pub number_of : Keyed → ℕ
number_of cell = cell.number

-- one more cell
pub keyed_turn : (keys : List ℕ) (n k : ℕ) (made made' : List Keyed) → n < length keys
    → made' ≡ made ++ record { key = k; number = n } ∷ [] → k ≡ get_or keys n k
    → made ++ keyed n (drop n keys) ≡ keyed 0 keys → made' ++ keyed (n + 1) (drop (n + 1) keys) ≡ keyed 0 keys
keyed_turn keys n k made made' lt write read so =
    let here : drop n keys ≡ k ∷ drop (suc n) keys = rw (← read) at (drop-cons keys n k lt) in
    rw (write, add-one, append_assoc) (rw here at so)

numbers_of : (n : ℕ) (keys : List ℕ) → map number_of (keyed n keys) ≡ numbers n (length keys)
numbers_of n [] = refl
numbers_of n (k ∷ ks) = ap (λ (l : List ℕ). n ∷ l) (numbers_of (suc n) ks)

-- each cell has the key of its number
keys_of : (f : ℕ → ℕ) (n : ℕ) (keys : List ℕ) → ((i : ℕ) → i < length keys → get_or keys i 0 ≡ f (n + i))
    → AllByRecursion (λ cell. key_of cell ≡ f (number_of cell)) (keyed n keys)
keys_of f n [] same = tt
keys_of f n (k ∷ ks) same = (
  same 0 (omega arith) ∙ ap f (omega arith),
  keys_of f (suc n) ks
      (λ i lt. same (suc i) (omega arith) ∙ ap f (omega arith)),
)

put_number : (f : ℕ → ℕ) (x : Keyed) (ys : List Keyed) → key_of x ≡ f (number_of x)
    → AllByRecursion (λ cell. key_of cell ≡ f (number_of cell)) ys
    → map number_of (put_by key_of x ys) ≡ put_by f (number_of x) (map number_of ys)
put_number f x [] one all = refl
put_number f x (y ∷ ys) one all = go (leb (key_of x) (key_of y)) refl (subst P all.0 (subst Q one refl))
    (put_number f x ys one all.1)
  where
    P : ℕ → Type 0
    P n = leb (f (number_of x)) n ≡ leb (key_of x) (key_of y)

    Q : ℕ → Type 0
    Q n = leb n (key_of y) ≡ leb (key_of x) (key_of y)

    go : (b : Bool) → leb (key_of x) (key_of y) ≡ b
        → leb (f (number_of x)) (f (number_of y)) ≡ leb (key_of x) (key_of y)
        → map number_of (put_by key_of x ys) ≡ put_by f (number_of x) (map number_of ys)
        → map number_of (put_by key_of x (y ∷ ys)) ≡ put_by f (number_of x) (map number_of (y ∷ ys))
    go true q same rest = rw (same ∙ q, q) refl
    go false q same rest = rw (same ∙ q, q) (ap (λ (l : List ℕ). number_of y ∷ l) rest)

numbers_by_key : (f : ℕ → ℕ) (xs : List Keyed) → AllByRecursion (λ cell. key_of cell ≡ f (number_of cell)) xs
    → map number_of (by_key key_of xs) ≡ by_key f (map number_of xs)
numbers_by_key f [] all = refl
numbers_by_key f (x ∷ xs) all =
    put_number f x (by_key key_of xs) all.0 (by_key_all (λ cell. key_of cell ≡ f (number_of cell)) key_of xs all.1)
    ∙ ap (put_by f (number_of x)) (numbers_by_key f xs all.1)

-- the numbers of the cells that a stable sort gives
pub order_is : (keys order : List ℕ) (n : ℕ) (made made' : List Keyed) → made ++ keyed n (drop n keys) ≡ keyed 0 keys
    → n ≡ length keys → IsSortedByKey key_of nat_cmp made' → IsStableByKey key_of nat_cmp made made'
    → order ≡ map number_of made' → order ≡ by_key (λ c. get_or keys c 0) (numbers 0 (length keys))
order_is keys order n made made' so end sorted stable read =
    let none : drop n keys ≡ [] = drop_all n keys (omega (arith, end)) in
    let made_is : made ≡ keyed 0 keys = sym (append-nil made) ∙ (rw none at so) in
    let f : ℕ → ℕ = λ c. get_or keys c 0 in
    let sorted_is : made' ≡ by_key key_of (keyed 0 keys) = by_key_from_sort key_of made made' sorted stable
    ∙ ap (by_key key_of) made_is in
    read ∙ ap (map number_of) sorted_is
    ∙ numbers_by_key f (keyed 0 keys) (keys_of f 0 keys (λ i lt. ap f (omega arith)))
    ∙ ap (by_key f) (numbers_of 0 keys)
