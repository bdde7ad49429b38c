-- Levels of cells: the row of each, counted from the inputs' buffers.
use Rattle.std.specs.Prelude.{◌≡◌, ℕ, suc, ◌+◌, ◌-◌, ◌<◌, ◌==◌, ◌&&◌, Bool, false, cond, nat_lt, List, length}
use Rattle.std.specs.Prelude.{slice_index}
use Rattle.std.specs.Prelude.{Option, Some, slice_get}
use Rattle.std.specs.List.{AllByRecursion}
use Rattle.circuit.specs.declared.gate.Gate.{Gate}
use Rattle.circuit.specs.declared.gate.Gate.TheVariants.{Buf}
use Rattle.cell_netlist.specs.Kinds.{operands_of}
use Rattle.cell_netlist.specs.Uses.{CellView, uses, is_input, gate_of, is_name}

-- the level above a signal: 0 above an input, and one more than that of a cell
abbrev pub above : CellView → (ℕ → ℕ) → ℕ → ℕ
above d level s = cond (is_input d s) 0 (suc (level s))

-- levels fit the cells among the first n definitions: each cell has the level above each signal that it names; names
-- are left out
abbrev pub LevelsFit : CellView → ℕ → (ℕ → ℕ) → Type 0
LevelsFit d n level =
    (j : ℕ) (gate : Gate) → j < n → slice_get d.gates j ≡ Some (Some gate) → is_name d (d.net.inputs + j) ≡ false
    → AllByRecursion (λ s. level (d.net.inputs + j) ≡ above d level s) (operands_of gate)

-- the signal that a gate is the buffer of, and another one for other gates
abbrev pub buffered : Option Gate → ℕ → ℕ
buffered (Some (Buf x)) other = x
buffered gate other = other

-- the buffer that an output is a name of
abbrev pub shown_by : CellView → ℕ → ℕ
shown_by d s = buffered (gate_of d s) s

-- the output is a name of a buffer that has no other use
abbrev pub is_shown : CellView → ℕ → Bool
is_shown d s = is_name d s && (uses d (shown_by d s) == 1)

-- levels fit all cells, and all buffers that show outputs are on level `last`, which is not the first
pub record LevelsFitAll (d : CellView) (level : ℕ → ℕ) (last : ℕ) : Type 0 where
  pub fit : LevelsFit d (length d.net.defs) level
  pub outputs : AllByRecursion (λ s. level (shown_by d s) ≡ last) d.net.outputs
  pub some_rows : 0 < last

-- the levels that a list tells, one for each definition; 0 for inputs, which have none
abbrev pub level_in : ℕ → List ℕ → ℕ → ℕ
level_in inputs levels s = cond (nat_lt s inputs) 0 (slice_index levels (s - inputs))
