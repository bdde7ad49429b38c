-- Ways along references. A loop of references is a way from a structure back to itself.
use Rattle.std.specs.Prelude.{◌≡◌, List, [], ◌∷◌, ℕ, true}
use Rattle.gds_records.specs.Records.{same}
use Rattle.gds_records.specs.Whole.{Outline}
use Rattle.gds_records.specs.WideWhole.{uses_by, some_use}

-- the structure of this name references the one of that name
abbrev pub References : List Outline → List ℕ → List ℕ → Type 0
References ss from to = some_use (λ name. same name to) (uses_by from ss) ≡ true

-- each structure of these names references the next, and the last of them references that one
abbrev pub IsWay : List Outline → List ℕ → List (List ℕ) → List ℕ → Type 0
IsWay ss from [] to = References ss from to
IsWay ss from (name ∷ names) to = References ss from name × IsWay ss name names to
