-- How far a list of numbers is from being in order: its pairs that stand the wrong way round.
use Rattle.std.specs.Prelude.{ℕ, ◌+◌, ltb, List, [], ◌∷◌}
use Rattle.sorting.specs.Sorting.{passing}

-- how many elements are below x
abbrev pub below : ℕ → List ℕ → ℕ
below x ys = passing (λ (y : ℕ). ltb y x) ys

-- how many elements stand before a lower one, each counted once for each of these
abbrev pub inversions : List ℕ → ℕ
inversions [] = 0
inversions (x ∷ xs) = below x xs + inversions xs
