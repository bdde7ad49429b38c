-- Steps of the code that reads a channel's wires: arrays by slot.
use Rattle.std.specs.Prelude.{◌≡◌, ℕ, suc, ◌-◌, Bool, cond, nat_lt, List, [], ◌∷◌, map, slice_index_or, Option}
use Rattle.std.specs.List.{list_any}
use Rattle.rowed.specs.declared.source.Source.{Source}
use Rattle.rowed.specs.Channels.{Link, move}
use Rattle.sorting.specs.Numbers.{numbers}
use Rattle.repeater_rows.specs.Destinations.{end_from, is_end}
use Rattle.repeater_rows.specs.Repeaters.{no_source, source_to}

-- the arrays hold what these wires say of each slot of a channel that has so many
pub record AreOf (ws : List Link) (slots : ℕ) (ends : List (Option ℕ)) (wired : List Bool) (sources : List Source)
    : Type 0 where
  pub each_end : ends ≡ map (end_from ws) (numbers 0 slots)
  pub each_wired : wired ≡ map (is_end ws) (numbers 0 slots)
  pub each_source : sources ≡ map (source_to ws) (numbers 0 slots)

-- the slots that are not wired, the first of the list being this one
abbrev pub spare_from : ℕ → List Bool → List ℕ
spare_from slot [] = []
spare_from slot (wired ∷ more) = cond wired (spare_from (suc slot) more) (slot ∷ spare_from (suc slot) more)

-- the source of the wire that ends at a slot, by an array
abbrev pub source_in : List Source → ℕ → Source
source_in sources slot = slice_index_or sources slot no_source

-- some wire, told by the slot where its destination stands, moves more than reach - 1 slots
abbrev pub far_among : ℕ → List ℕ → List ℕ → Bool
far_among reach to carriers =
    list_any (λ (slot : ℕ). nat_lt (reach - 1) (move slot (slice_index_or to slot 0))) carriers
