-- The words of this crate are std's: orders are permutations, places are positions, and so on.
use Rattle.std.proofs.Common.{◌≡◌, ℕ, zero, suc, ◌<◌, ◌≤◌, Bool, true, false, cond, List, [], ◌∷◌, length}
use Rattle.std.proofs.Common.{replicate, get_or, eqb, count_by, refl, sym, ap, ◌∙◌, subst, arith}
use Rattle.std.specs.List.{AllByRecursion, AllPairs, position_or_len}
use Rattle.std.specs.List.Sorted.{IsPermutation, IsNonDecreasingBy}
use Rattle.std.proofs.lemmas.Bool.{eqb-true}
use Rattle.std.proofs.lemmas.List.Sums.{length-filter}
use Rattle.std.proofs.lemmas.List.Sorted.{IsPermutation-sym, sum_by-IsPermutation}
use Rattle.sorting.specs.Sorting.{by_key, NotFalling, EachPair, passing, of_key}
use Rattle.sorting.specs.Numbers.{numbers, place_of, Same, IsOrder}
use Rattle.sorting.proofs.SortingLaws.{by_key_in_order, by_key_passing, by_key_moves, same_in_order, pair_at}
use Rattle.sorting.proofs.SortingLaws.{not_falling_from_places}

-- the elements of one list are those of the other, where one is a permutation of the other
pub same_from_permutation : (xs ys : List ℕ) → IsPermutation xs ys → Same ys xs
same_from_permutation xs ys moved p =
    length-filter p ys ∙ sum_by-IsPermutation (λ x. cond (p x) 1 0) xs ys moved ∙ sym (length-filter p xs)

cons_same : (a b : ℕ) (rest others : List ℕ) → a ≡ b → rest ≡ others → a ∷ rest ≡ b ∷ others
cons_same a b rest others p q = cc

-- the elements that equal n are n, again and again
all_one : (n : ℕ) (xs : List ℕ) → of_key (λ x. x) n xs ≡ replicate (passing (λ x. eqb n x) xs) n
all_one n [] = refl
all_one n (x ∷ xs) = go (eqb n x) refl (all_one n xs)
  where
    equal : (b : Bool) → eqb n x ≡ b → b ≡ true → x ≡ n
    equal b q is = sym (eqb-true n x (q ∙ is))

    go : (b : Bool) → eqb n x ≡ b → of_key (λ x. x) n xs ≡ replicate (passing (λ x. eqb n x) xs) n
        → of_key (λ x. x) n (x ∷ xs) ≡ replicate (passing (λ x. eqb n x) (x ∷ xs)) n
    go true q rest = let e : x ≡ n = equal true q refl in rw q
        (cons_same x n (of_key (λ x. x) n xs) (replicate (passing (λ x. eqb n x) xs) n) e rest)
    go false q rest = rw q rest

numbers_rise : (b n count : ℕ) → b ≤ n → NotFalling (λ x. x) b (numbers n count)
numbers_rise b n zero le = tt
numbers_rise b n (suc count) le = (le, numbers_rise n (suc n) count (omega arith))

-- an order in order is the numbers below its length
in_order_is : (xs : List ℕ) → IsOrder xs → by_key (λ x. x) xs ≡ numbers 0 (length xs)
in_order_is xs order =
    same_in_order (λ x. x) 0 0 (by_key (λ x. x) xs) (numbers 0 (length xs)) (by_key_in_order (λ x. x) xs)
    (numbers_rise 0 0 (length xs) (omega arith))
    (λ n. all_one n (by_key (λ x. x) xs)
    ∙ ap (λ (count : ℕ). replicate count n) (by_key_passing (λ x. eqb n x) (λ x. x) xs ∙ order (λ x. eqb n x))
    ∙ sym (all_one n (numbers 0 (length xs))))

pub order_moves : (xs : List ℕ) → IsOrder xs → IsPermutation (numbers 0 (length xs)) xs
order_moves xs order =
    IsPermutation-sym xs (numbers 0 (length xs))
    (subst (λ (ys : List ℕ). IsPermutation xs ys) (in_order_is xs order) (by_key_moves (λ x. x) xs))

pub order_from_moves : (xs : List ℕ) → IsPermutation (numbers 0 (length xs)) xs → IsOrder xs
order_from_moves xs moved = same_from_permutation (numbers 0 (length xs)) xs moved

pub place_is_position : (xs : List ℕ) (c : ℕ) → place_of xs c ≡ position_or_len (λ n. eqb n c) xs
place_is_position [] c = refl
place_is_position (n ∷ ns) c = go (eqb n c) refl (place_is_position ns c)
  where
    go : (b : Bool) → eqb n c ≡ b → place_of ns c ≡ position_or_len (λ n. eqb n c) ns
        → place_of (n ∷ ns) c ≡ position_or_len (λ n. eqb n c) (n ∷ ns)
    go true q rest = rw q refl
    go false q rest = rw q (omega (arith, rest))

pub passing_is_count : {X : Type 0} (p : X → Bool) (xs : List X) → passing p xs ≡ count_by p xs
passing_is_count p xs = length-filter p xs

pub all_pairs : {X : Type 0} (R : X → X → Type 0) (xs : List X) → EachPair R xs → AllPairs R xs
all_pairs R xs each i j d lt within = pair_at R xs each i j d lt within

each_of : {X : Type 0} (P : X → Type 0) (xs : List X)
    → ((k : ℕ) (d : X) → k < length xs → P (get_or xs k d)) → AllByRecursion P xs
each_of P [] at = tt
each_of P (x ∷ xs) at = (at 0 x (omega arith), each_of P xs (λ k d lt. at (suc k) d (omega arith)))

pub each_pair : {X : Type 0} (R : X → X → Type 0) (xs : List X) → AllPairs R xs → EachPair R xs
each_pair R [] all = tt
each_pair R (x ∷ xs) all = (
  each_of (R x) xs (λ k d lt. all 0 (suc k) d (omega arith) (omega arith)),
  each_pair R xs (λ i j d lt within. all (suc i) (suc j) d (omega arith) (omega arith)),
)

at_least : {X : Type 0} (key : X → ℕ) (b : ℕ) (xs : List X) → NotFalling key b xs → (k : ℕ) (d : X) → k < length xs
    → b ≤ key (get_or xs k d)
at_least key b [] up k d lt = absurd (omega arith)
at_least key b (x ∷ xs) up zero d lt = up.0
at_least key b (x ∷ xs) up (suc k) d lt = omega (arith, up.0, at_least key (key x) xs up.1 k d (omega arith))

pub non_decreasing : {X : Type 0} (key : X → ℕ) (b : ℕ) (xs : List X) → NotFalling key b xs → IsNonDecreasingBy key xs
non_decreasing key b [] up i j d le lt = absurd (omega arith)
non_decreasing key b (x ∷ xs) up zero zero d le lt = omega arith
non_decreasing key b (x ∷ xs) up zero (suc j) d le lt = at_least key (key x) xs up.1 j d (omega arith)
non_decreasing key b (x ∷ xs) up (suc i) zero d le lt = absurd (omega arith)
non_decreasing key b (x ∷ xs) up (suc i) (suc j) d le lt = non_decreasing key (key x) xs up.1 i j d
    (omega arith) (omega arith)

pub not_falling : {X : Type 0} (key : X → ℕ) (xs : List X) → IsNonDecreasingBy key xs → NotFalling key 0 xs
not_falling key xs up =
    not_falling_from_places key 0 xs (λ d some. omega arith) (λ i d lt. up i (suc i) d (omega arith) lt)
