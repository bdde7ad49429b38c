-- Lists in the order of a key, elements of one key in the order that they had.
use Rattle.std.specs.Prelude.{ℕ, ◌+◌, ◌≤◌, Bool, cond, nat_le, eqb, List, [], ◌∷◌, length}
use Rattle.std.specs.List.{filter, AllByRecursion}

-- x put before the first element whose key is not below its own
abbrev pub put_by : {X : Type 0} → (X → ℕ) → X → List X → List X
put_by key x [] = x ∷ []
put_by key x (y ∷ ys) = cond (nat_le (key x) (key y)) (x ∷ (y ∷ ys)) (y ∷ put_by key x ys)

-- the elements in the order of their keys; those of one key stay in their order
abbrev pub by_key : {X : Type 0} → (X → ℕ) → List X → List X
by_key key [] = []
by_key key (x ∷ xs) = put_by key x (by_key key xs)

-- numbers from the least to the greatest
abbrev pub in_order : List ℕ → List ℕ
in_order xs = by_key (λ (x : ℕ). x) xs

-- each key is at least the one before it, and the first at least b
abbrev pub NotFalling : {X : Type 0} → (X → ℕ) → ℕ → List X → Type 0
NotFalling key b [] = Unit {0}
NotFalling key b (x ∷ xs) = (b ≤ key x) × NotFalling key (key x) xs

-- each key is above the one before it, and the first at least b
abbrev pub Rising : {X : Type 0} → (X → ℕ) → ℕ → List X → Type 0
Rising key b [] = Unit {0}
Rising key b (x ∷ xs) = (b ≤ key x) × Rising key (key x + 1) xs

-- R holds of each element and each later one
abbrev pub EachPair : {X : Type 0} → (X → X → Type 0) → List X → Type 0
EachPair R [] = Unit {0}
EachPair R (x ∷ xs) = AllByRecursion (R x) xs × EachPair R xs

-- as many elements pass a test
abbrev pub passing : {X : Type 0} → (X → Bool) → List X → ℕ
passing p xs = length (filter p xs)

-- the elements of one key
abbrev pub of_key : {X : Type 0} → (X → ℕ) → ℕ → List X → List X
of_key key n xs = filter (λ y. eqb n (key y)) xs
