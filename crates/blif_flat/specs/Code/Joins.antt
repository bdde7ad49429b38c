-- The ports of a call by the signals of its model.
use Rattle.std.specs.Prelude.{◌≡◌, ℕ, true, List, [], ◌∷◌, map, length, Option, Some, None}
use Rattle.std.specs.Prelude.{slice_get, slice_index_or, slice_set}
use Rattle.std.specs.Borrow.{Bor}
use Rattle.std.specs.List.{flat_map, position}
use Rattle.std.specs.Str.{bytes_eq}
use Rattle.blif_read.specs.declared.models.Call.{Call}
use Rattle.blif_read.specs.declared.models.Port.{Port}
use Rattle.blif_flat.specs.Designs.{formals}
use Rattle.blif_flat.specs.Code.Numbering.{number_or, IsNumbering}
use Rattle.blif_flat.specs.Code.Blocks.{is_that}

-- for each of the names the number of the first port with that formal
abbrev pub ports_for : List (List ℕ) → List (List ℕ) → List (Option ℕ)
ports_for names formals = map (λ n. position (bytes_eq n) formals) names

-- a port is noted at a place, where none is yet
abbrev pub noted : List (Option ℕ) → Option ℕ → ℕ → List (Option ℕ)
noted ports None port = ports
noted ports (Some at) port = slice_set ports at (number_or (slice_index_or ports at None) true port)

-- the actual of a port that is there
abbrev pub actual_at : Option Port → List (List ℕ)
actual_at None = []
actual_at (Some port) = port.actual ∷ []

-- the actual of a call's port by number, where there is such a port
abbrev pub actual_in : Call → Option ℕ → List (List ℕ)
actual_in call None = []
actual_in call (Some port) = actual_at (slice_get call.ports port)

-- the actuals of a call's ports by these numbers, in order, where there are such ports
abbrev pub actuals_in : Call → List (Option ℕ) → List (List ℕ)
actuals_in call ports = flat_map (actual_in call) ports

-- the places of outputs that are joined to something, of which those past the end of a list are 0
abbrev pub exits_in : List (Option ℕ) → List ℕ → List ℕ
exits_in [] exits = []
exits_in (None ∷ ports) [] = exits_in ports []
exits_in (Some n ∷ ports) [] = 0 ∷ exits_in ports []
exits_in (None ∷ ports) (exit ∷ exits) = exits_in ports exits
exits_in (Some n ∷ ports) (exit ∷ exits) = exit ∷ exits_in ports exits

-- an index has the places of these names, and so many there are
pub record ArePlaces (entries : List (Bor (List ℕ) × ℕ)) (total : ℕ) (names : List (Option (List ℕ))) : Type 0 where
  pub found : IsNumbering is_that entries names
  pub count : length names ≡ total

-- the actual of a port; empty where none is there
abbrev pub first_actual : Call → Option ℕ → List ℕ
first_actual call port = slice_index_or (actual_in call port) 0 []
