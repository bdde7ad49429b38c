-- Numbers that an index has for names: each name has that of the first item that it fits.
use Rattle.std.specs.Prelude.{◌≡◌, ℕ, Bool, true, false, List, Option, Some, None}
use Rattle.std.specs.Borrow.{Bor}
use Rattle.std.specs.List.{position}
use Rattle.std.specs.Str.{bytes_eq}
use Rattle.std.specs.Map.{lookup}

-- the number that entries of an index give a name
abbrev pub number_in : List (Bor (List ℕ) × ℕ) → List ℕ → Option ℕ
number_in entries t = lookup (λ k. bytes_eq t k.now) entries

-- a number that is there, or this one where the name fits
abbrev pub number_or : Option ℕ → Bool → ℕ → Option ℕ
number_or (Some n) fits number = Some n
number_or None true number = Some number
number_or None false number = None

-- an index gives each name the place of the first item that it fits, and no other name a number
abbrev pub IsNumbering : {X : Type 0} → (List ℕ → X → Bool) → List (Bor (List ℕ) × ℕ) → List X → Type 0
IsNumbering fits entries items = (t : List ℕ) → number_in entries t ≡ position (fits t) items
