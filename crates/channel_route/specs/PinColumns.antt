-- Wires between pins: an output pin stands in an even column of its slot, and an input pin in an odd one. The wires of
-- a channel are told by their slots.
use Rattle.std.specs.Prelude.{◌≡◌, ℕ, ◌%◌, List, [], ◌∷◌}
use Rattle.sorting.specs.Sorting.{EachPair}
use Rattle.rowed.specs.Channels.{Link}
use Rattle.rowed.specs.declared.wire.Wire.{Wire}
use Rattle.channel_route.specs.ShortWires.{Within}

-- a wire's ends stand in columns of its slots, the lower one in an even column, and the upper one in an odd one
pub record IsPinned (columns : ℕ) (w : Wire) : Type 0 where
  pub from_within : Within columns w.from_slot w.from_column
  pub to_within : Within columns w.to_slot w.to_column
  pub from_even : w.from_column % 2 ≡ 0
  pub to_odd : w.to_column % 2 ≡ 1

-- no two wires end in one slot
abbrev pub ToApart : List Wire → Type 0
ToApart ws = EachPair (λ v w. v.to_slot ≡ w.to_slot → ⊥) ws

-- the wire goes from the slot where the link begins to the slot where it ends
pub record GoesAlong (v : Link) (w : Wire) : Type 0 where
  pub from_is : w.from_slot ≡ v.from
  pub to_is : w.to_slot ≡ v.to

-- these wires go along these links, one along each
abbrev pub GoAlong : List Link → List Wire → Type 0
GoAlong [] [] = Unit {0}
GoAlong [] (w ∷ ws) = ⊥
GoAlong (v ∷ vs) [] = ⊥
GoAlong (v ∷ vs) (w ∷ ws) = GoesAlong v w × GoAlong vs ws
