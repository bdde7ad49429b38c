-- Numbers of a list that are all below a bound.
use Rattle.std.specs.Prelude.{ℕ, zero, suc, ◌<◌, ◌≤◌, List, [], ◌∷◌, ◌++◌, take, drop, slice_index_or}
use Rattle.std.proofs.Common.{arith}
use Rattle.maj_mapping.specs.Counts.{AllBelow}

pub below_more : (k l : ℕ) (xs : List ℕ) → k ≤ l → AllBelow k xs → AllBelow l xs
below_more k l [] le h = tt
below_more k l (x ∷ xs) le h = (omega (arith, h.0), below_more k l xs le h.1)

pub below_append : (k : ℕ) (xs ys : List ℕ) → AllBelow k xs → AllBelow k ys → AllBelow k (xs ++ ys)
below_append k [] ys h g = g
below_append k (x ∷ xs) ys h g = (h.0, below_append k xs ys h.1 g)

pub below_take : (k n : ℕ) (xs : List ℕ) → AllBelow k xs → AllBelow k (take n xs)
below_take k zero xs h = tt
below_take k (suc n) [] h = tt
below_take k (suc n) (x ∷ xs) h = (h.0, below_take k n xs h.1)

pub below_drop : (k n : ℕ) (xs : List ℕ) → AllBelow k xs → AllBelow k (drop n xs)
below_drop k zero xs h = h
below_drop k (suc n) [] h = tt
below_drop k (suc n) (x ∷ xs) h = below_drop k n xs h.1

pub below_at : (k i d : ℕ) (xs : List ℕ) → AllBelow k xs → d < k → slice_index_or xs i d < k
below_at k i d [] h lt = lt
below_at k zero d (x ∷ xs) h lt = h.0
below_at k (suc i) d (x ∷ xs) h lt = below_at k i d xs h.1 lt
