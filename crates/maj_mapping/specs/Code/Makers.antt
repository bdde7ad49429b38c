-- What a maker of gates keeps.
use Rattle.std.specs.Prelude.{◌≡◌, ℕ, ◌+◌, ◌<◌, ◌^◌, true, false, eqb, List, length, slice_index_or, Option, Some, None}
use Rattle.circuit.specs.declared.gate.Gate.{Gate}
use Rattle.maj_mapping.specs.Operations.{inverts, inverter_from}

-- the number that stands for no inverter
abbrev pub not_made : ℕ
not_made = 4294967295

-- the inverter that a number stands for
abbrev pub made_by : ℕ → Option ℕ
made_by at = elim (eqb at not_made) [ true ↦ None | false ↦ Some at ]

-- the index has each gate's inverter, and 32 bits number all gates
pub record IsMaker (inputs : ℕ) (gates : List Gate) (inverters : List ℕ) : Type 0 where
  pub index : (x : ℕ) → made_by (slice_index_or inverters x not_made) ≡ inverter_from x 0 gates
  pub numbered : inputs + 1 < 2 ^ 32
  pub small : length gates < 2 ^ 32

-- a gate that is no inverter
abbrev pub NoInverter : Gate → Type 0
NoInverter g = (x : ℕ) → inverts x g ≡ false
