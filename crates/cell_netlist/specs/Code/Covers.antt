-- Covers by the values of their inputs, place by place.
use Rattle.std.specs.Prelude.{◌≡◌, ℕ, Bool, true, false, not, ◌&&◌, List, [], ◌∷◌}
use Rattle.std.specs.List.{list_any}
use Rattle.circuit.specs.Function.{majority}
use Rattle.blif_read.specs.Equations.{takes}
use Rattle.blif_read.specs.declared.netlist.Def.{Def}

-- the plane takes these values, place by place
abbrev pub takes_each : List ℕ → List Bool → Bool
takes_each [] values = true
takes_each (b ∷ bs) [] = true
takes_each (b ∷ bs) (x ∷ xs) = takes b x && takes_each bs xs

-- the value of a cover whose inputs have these
abbrev pub cover_at : Def → List Bool → Bool
cover_at def values = elim def.on [
  | true ↦ list_any (λ cube. takes_each cube.plane values) def.cubes
  | false ↦ not (list_any (λ cube. takes_each cube.plane values) def.cubes)
]

-- so is the cover, for all values of three inputs
abbrev pub IsMajority : Def → Type 0
IsMajority def = (a b c : Bool) → cover_at def (a ∷ b ∷ c ∷ []) ≡ majority a b c
