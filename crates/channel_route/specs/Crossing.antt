-- Which columns a wire crosses, and the density of a channel: the most wires that cross one column.
use Rattle.std.specs.Prelude.{◌≡◌, ℕ, suc, cond, [], ◌∷◌, ◌<◌, ◌≤◌, Bool, nat_le, ◌&&◌, min, max, List, length}
use Rattle.std.specs.List.{filter, AllByRecursion}
use Rattle.sorting.specs.Sorting.{EachPair}
use Rattle.rowed.specs.declared.wire.Wire.{Wire}

-- the lower end column of a wire
abbrev pub low : Wire → ℕ
low w = min w.from_column w.to_column

-- the higher end column of a wire
abbrev pub high : Wire → ℕ
high w = max w.from_column w.to_column

-- a wire crosses every column from the lower to the higher of its two end columns, both counted
abbrev pub crosses : ℕ → Wire → Bool
crosses x w = nat_le (low w) x && nat_le x (high w)

-- the wires that cross a column
abbrev pub crossing : ℕ → List Wire → List Wire
crossing x ws = filter (crosses x) ws

-- the numbers of the wires that cross a column, rising, where the wires are numbered from n on
abbrev pub numbers_crossing : ℕ → ℕ → List Wire → List ℕ
numbers_crossing x n [] = []
numbers_crossing x n (w ∷ ws) = cond (crosses x w) (n ∷ numbers_crossing x (suc n) ws) (numbers_crossing x (suc n) ws)

-- n is the density, and so many wires cross the column
pub record IsDensity (ws : List Wire) (n column : ℕ) : Type 0 where
  pub reached : length (crossing column ws) ≡ n
  pub most : (x : ℕ) → length (crossing x ws) ≤ n

-- the density is at most the capacity
abbrev pub HasRoom : List Wire → ℕ → Type 0
HasRoom ws capacity = (x : ℕ) → length (crossing x ws) ≤ capacity

-- more wires than the capacity cross this column, and not so many any lower one
pub record IsOver (ws : List Wire) (capacity column : ℕ) : Type 0 where
  pub over : capacity < length (crossing column ws)
  pub least : (x : ℕ) → capacity < length (crossing x ws) → column ≤ x

-- no end column of the one wire is an end column of the other
pub record Apart (v w : Wire) : Type 0 where
  pub from_from : v.from_column ≡ w.from_column → ⊥
  pub from_to : v.from_column ≡ w.to_column → ⊥
  pub to_from : v.to_column ≡ w.from_column → ⊥
  pub to_to : v.to_column ≡ w.to_column → ⊥

-- all end columns are distinct
pub record EndsApart (ws : List Wire) : Type 0 where
  pub own : AllByRecursion (λ w. w.from_column ≡ w.to_column → ⊥) ws
  pub others : EachPair Apart ws
