-- The plan over arrays: how many uses each gate has, and the uses of a gate as a chain of numbers.
use Rattle.std.specs.Prelude.{ℕ, suc, ◌+◌, ◌-◌, max, ltb, true, false, List, [], ◌∷◌, ◌++◌, length}
use Rattle.std.specs.Prelude.{slice_index_or, slice_set}
use Rattle.circuit.specs.PlainNets.{is_constant}
use Rattle.circuit.specs.declared.gate.Gate.{Gate}
use Rattle.circuit.specs.declared.gate.Gate.TheVariants as gates
use Rattle.rowed.specs.declared.source.Source.{Source}
use Rattle.rowed.specs.declared.row_cell.RowCell.{RowCell}
use Rattle.level_balance.specs.declared.rows.LaidRows.{LaidRows}
use Rattle.level_balance.specs.Levels.{depth}
use Rattle.level_balance.specs.Laying.{chain}

-- the greatest of level and depth over the gates of a list that are no constants
abbrev pub greatest_by : ℕ → ℕ → List ℕ → List ℕ → List ℕ → ℕ
greatest_by n b fans done [] = 0
greatest_by n b fans done (h ∷ hs) =
    elim (is_constant n h) [
      | true ↦ greatest_by n b fans done hs
      | false ↦ max (slice_index_or done h 0 + depth b (slice_index_or fans h 0)) (greatest_by n b fans done hs)
    ]

-- the level of a gate, by the numbers of uses
abbrev pub level_by : ℕ → ℕ → List ℕ → List ℕ → Gate → ℕ
level_by n b fans done (gates.Input i) = 0
level_by n b fans done gates.Zero = 0
level_by n b fans done gates.One = 0
level_by n b fans done (gates.Buf x) = suc (greatest_by n b fans done (x ∷ []))
level_by n b fans done (gates.Inv x) = suc (greatest_by n b fans done (x ∷ []))
level_by n b fans done (gates.Maj x y z) = suc (greatest_by n b fans done (x ∷ y ∷ z ∷ []))

-- the levels of all gates, by the numbers of uses
abbrev pub levels_by : ℕ → ℕ → List ℕ → List ℕ → List Gate → List ℕ
levels_by n b fans done [] = done
levels_by n b fans done (g ∷ gs) = levels_by n b fans (done ++ level_by n b fans done g ∷ []) gs

-- rows, ends of uses, and the number of a use
pub record Led : Type 0 where
  pub rows : List (List RowCell)
  pub ends : List Source
  pub number : ℕ

-- so they are, as the code has them
abbrev pub led_of : LaidRows → ℕ → Led
led_of laid number = record { rows = laid.rows.items; ends = laid.ends.items; number = number }

-- a leaf is led to the use of this number, unless the chain of uses has ended
abbrev pub lead_one : List ℕ → List ℕ → ℕ → Led → Source → Led
lead_one user_rows next leaf at s =
    elim (ltb at.number (length next)) [
      | true ↦
          (let e = chain (slice_index_or user_rows at.number 0 - 1 - leaf) (suc leaf) at.rows s in
          record {
            rows = e.rows;
            ends = slice_set at.ends at.number e.end;
            number = slice_index_or next at.number (length next);
          })
      | false ↦ at
    ]

-- each leaf is led to a use, along the chain
abbrev pub lead_walk : List ℕ → List ℕ → ℕ → Led → List Source → Led
lead_walk user_rows next leaf at [] = at
lead_walk user_rows next leaf at (s ∷ ss) = lead_walk user_rows next leaf (lead_one user_rows next leaf at s) ss
