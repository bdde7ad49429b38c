-- Wires with their numbers.
use Rattle.std.specs.Prelude.{ℕ, suc, List, [], ◌∷◌}
use Rattle.rowed.specs.declared.wire.Wire.{Wire}
use Rattle.channel_route.specs.declared.order.Numbered.{Numbered}
use Rattle.sorting.specs.Sorting.{by_key}
use Rattle.channel_route.specs.Crossing.{low}

-- the wires, numbered from n on
abbrev pub numbered : ℕ → List Wire → List Numbered
numbered n [] = []
numbered n (w ∷ ws) = record { wire = w; number = n } ∷ numbered (suc n) ws

-- the lower end column of a numbered wire
abbrev pub low_of : Numbered → ℕ
low_of one = low one.wire

-- the numbered wires by rising lower end column
abbrev pub ordered : List Wire → List Numbered
ordered ws = by_key low_of (numbered 0 ws)
