-- The numbers of structures by their names: of each name the first that has it.
use Rattle.std.specs.Prelude.{◌≡◌, ℕ, ◌<◌, ◌^◌, length, List, [], ◌∷◌, Bool, true, false, Option, Some, None}
use Rattle.std.specs.Str.{bytes_eq}
use Rattle.std.specs.Map.{lookup}
use Rattle.std.proofs.Common.{Bor}
use Rattle.gds_records.specs.Drawing.{place_of}
use Rattle.gds_records.specs.Steps.{is_listed}
use Rattle.gds_records.specs.Whole.{Use, is_used}

-- the number that entries of a map give a name
abbrev pub number_in : List (Bor (List ℕ) × ℕ) → List ℕ → Option ℕ
number_in entries t = lookup (λ k. bytes_eq t k.now) entries

-- the place of the first of these names that is this one
abbrev pub first_place : List ℕ → List (List ℕ) → Option ℕ
first_place t names = elim (is_listed t names) [ true ↦ Some (place_of t names) | false ↦ None ]

-- a map gives each of these names, of which there are fewer than 2^32, its first place among them, and no other name a
-- number
pub record IsNumbering (entries : List (Bor (List ℕ) × ℕ)) (names : List (List ℕ)) : Type 0 where
  pub few : length names < 2 ^ 32
  pub each : (t : List ℕ) → number_in entries t ≡ first_place t names

-- a number that is there, or this one where the name is this one
abbrev pub number_or : Option ℕ → Bool → ℕ → Option ℕ
number_or (Some n) here number = Some n
number_or None true number = Some number
number_or None false number = None

-- the names are those of these references
abbrev pub AreUsed : List (List ℕ) → List Use → Type 0
AreUsed names uses = (t : List ℕ) → is_listed t names ≡ is_used t uses

-- the place of the first reference whose name has no number
abbrev pub unnumbered : (List ℕ → Option ℕ) → List Use → Option ℕ
unnumbered number [] = None
unnumbered number (u ∷ us) = elim (number u.name) [ Some n ↦ unnumbered number us | None ↦ Some u.place ]
