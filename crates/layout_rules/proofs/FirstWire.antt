-- The nets of the first chip: its wire, and each other shape by itself.
use Rattle.std.proofs.Common.{ℕ, List, [], ◌∷◌}

abbrev pub first_nets : List ℕ
first_nets = 0 ∷ 1 ∷ 2 ∷ 3 ∷ 4 ∷ 2 ∷ 2 ∷ 2 ∷ 2 ∷ 2 ∷ 10 ∷ 2 ∷ 12 ∷ 13 ∷ 14 ∷ []

-- how each shape is joined to the least one of its net
abbrev pub first_paths : List (List ℕ)
first_paths =
    []
    ∷ []
    ∷ []
    ∷ []
    ∷ []
    ∷ (2 ∷ [])
    ∷ (9 ∷ 7 ∷ 8 ∷ 5 ∷ 2 ∷ [])
    ∷ (8 ∷ 5 ∷ 2 ∷ [])
    ∷ (5 ∷ 2 ∷ [])
    ∷ (7 ∷ 8 ∷ 5 ∷ 2 ∷ [])
    ∷ []
    ∷ (6 ∷ 9 ∷ 7 ∷ 8 ∷ 5 ∷ 2 ∷ [])
    ∷ []
    ∷ []
    ∷ []
    ∷ []
