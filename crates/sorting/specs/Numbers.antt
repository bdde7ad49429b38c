-- Orders of numbers: lists that have each number below a bound once, and the place of a number in a list.
use Rattle.std.specs.Prelude.{◌≡◌, ℕ, zero, suc, Bool, cond, ◌==◌, List, [], ◌∷◌, length, slice_index_or}
use Rattle.sorting.specs.Sorting.{passing}

-- so many numbers, from n on
abbrev pub numbers : ℕ → ℕ → List ℕ
numbers n zero = []
numbers n (suc count) = n ∷ numbers (suc n) count

-- the place of a number in a list; the length of the list, where it is absent
abbrev pub place_of : List ℕ → ℕ → ℕ
place_of [] c = 0
place_of (n ∷ ns) c = cond (n == c) 0 (suc (place_of ns c))

-- the two lists have the same elements, each as often
abbrev pub Same : List ℕ → List ℕ → Type 0
Same xs ys = (p : ℕ → Bool) → passing p xs ≡ passing p ys

-- each number below the length stands in the list once, and nothing else does
abbrev pub IsOrder : List ℕ → Type 0
IsOrder xs = Same xs (numbers 0 (length xs))

-- what a list of places tells of number c; past the last, how many there are
abbrev pub place_in : List ℕ → ℕ → ℕ
place_in places c = slice_index_or places c (length places)

-- the list tells the places that the numbers have in an order
abbrev pub IsInverse : List ℕ → List ℕ → Type 0
IsInverse places order = (c : ℕ) → place_in places c ≡ place_of order c
