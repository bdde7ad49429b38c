-- Wires that move few slots, each from a slot of its own.
use Rattle.std.specs.Prelude.{◌≡◌, ℕ, suc, ◌-◌, ◌*◌, ◌<◌, ◌≤◌, List}
use Rattle.sorting.specs.Sorting.{EachPair}
use Rattle.rowed.specs.Channels.{move}
use Rattle.rowed.specs.declared.wire.Wire.{Wire}

-- a column of a slot, where each slot has so many columns
pub record Within (columns slot column : ℕ) : Type 0 where
  pub from_on : slot * columns ≤ column
  pub up_to : column < suc slot * columns

-- a wire's ends stand in columns of its slots, and it moves at most reach - 1 slots
pub record IsShortWire (reach columns : ℕ) (w : Wire) : Type 0 where
  pub from_within : Within columns w.from_slot w.from_column
  pub to_within : Within columns w.to_slot w.to_column
  pub short : move w.from_slot w.to_slot ≤ reach - 1

-- no two wires begin in one slot
abbrev pub FromApart : List Wire → Type 0
FromApart ws = EachPair (λ v w. v.from_slot ≡ w.from_slot → ⊥) ws
