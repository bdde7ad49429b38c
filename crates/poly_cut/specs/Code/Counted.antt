-- Counts that stand in a list.
use Rattle.std.specs.Prelude.{◌≡◌, ℕ, List, slice_index}
use Rattle.poly_cut.specs.Counts.{told}

-- these are the counts of all structures, as 64 bits tell them
abbrev pub Tell : List ℕ → (ℕ → ℕ) → Type 0
Tell counts of = (n : ℕ) → slice_index counts n ≡ told (of n)
