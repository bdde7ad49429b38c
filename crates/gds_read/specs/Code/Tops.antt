-- What the list of tops comes to.
use Rattle.std.specs.Prelude.{ℕ, List, [], ◌∷◌, Option, Some, None}
use Rattle.gds_read.specs.declared.conditions.Tops.{Tops}
use Rattle.gds_read.specs.declared.conditions.Tops.TheVariants.{Nothing, One, Several}

-- no top, one by its number, or the place of a second
abbrev pub told_tops : List (ℕ × ℕ) → Tops
told_tops [] = Nothing
told_tops (t ∷ []) = One t.0
told_tops (t ∷ s ∷ ts) = Several s.1

-- the same, behind a first top
abbrev pub further_tops : Option ℕ → List (ℕ × ℕ) → Tops
further_tops None ts = told_tops ts
further_tops (Some first) [] = One first
further_tops (Some first) (s ∷ ts) = Several s.1
