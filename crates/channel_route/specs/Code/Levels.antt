-- Levels of minima over a list: each level has the minimum of each pair of the level below, up to one entry.
use Rattle.std.specs.Prelude.{◌≡◌, ℕ, zero, suc, ◌+◌, ◌-◌, ◌<◌, min, List, [], ◌∷◌, length, slice_index_or}

-- the minimum of each pair, and a last one alone
abbrev pub halves : List ℕ → List ℕ
halves [] = []
halves (a ∷ []) = a ∷ []
halves (a ∷ (b ∷ xs)) = min a b ∷ halves xs

-- the minimum of pair j, of which the second may be missing
abbrev pub pair_least : List ℕ → ℕ → ℕ
pair_least xs j = min (slice_index_or xs (j + j) 0) (slice_index_or xs (suc (j + j)) (slice_index_or xs (j + j) 0))

-- the list with v at i, or at its end
abbrev pub put : List ℕ → ℕ → ℕ → List ℕ
put [] i v = v ∷ []
put (x ∷ xs) zero v = v ∷ xs
put (x ∷ xs) (suc i) v = x ∷ put xs i v

-- the levels above a list: none above one entry
abbrev pub LeadUp : List ℕ → List (List ℕ) → Type 0
LeadUp xs [] = length xs ≡ 1
LeadUp xs (l ∷ ls) = (1 < length xs) × (l ≡ halves xs) × LeadUp l ls

-- the lowest level first, and no level over the empty list
abbrev pub AreLevels : List (List ℕ) → Type 0
AreLevels [] = Unit {0}
AreLevels (xs ∷ ls) = LeadUp xs ls

-- the lowest level, which has the entries
abbrev pub lowest_level : List (List ℕ) → List ℕ
lowest_level levels = slice_index_or levels 0 []

-- the highest level, which has one entry
abbrev pub top_level : List (List ℕ) → List ℕ
top_level levels = slice_index_or levels (length levels - 1) []
