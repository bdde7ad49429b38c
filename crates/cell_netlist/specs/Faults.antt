-- Which netlists are netlists of cells, and the first fault of one that is none.
use Rattle.std.specs.Prelude.{◌≡◌, ℕ, suc, ◌+◌, ◌<◌, ◌≤◌, ◌⊎◌, Bool, true, false, ◌&&◌, ◌||◌, not, nat_le, length}
use Rattle.std.specs.Prelude.{Some, None, slice_get}
use Rattle.std.specs.List.{list_any, list_all}
use Rattle.circuit.specs.declared.gate.Gate.{Gate}
use Rattle.blif_read.specs.declared.netlist.Def.{Def}
use Rattle.cell_netlist.specs.Uses.{CellView, uses, is_input, is_buffer, is_used_well}
use Rattle.cell_netlist.specs.Levels.{LevelsFit, LevelsFitAll, is_shown}
use Rattle.cell_netlist.specs.declared.fault.CellFault.{CellFault}
use Rattle.cell_netlist.specs.declared.fault.CellFault.TheVariants.{Cover, Uses, Level, Outputs}

-- definition j, of this gate, is a buffer and no splitter, or it names no input: inputs feed buffers alone
abbrev pub is_fed_well : CellView → ℕ → Def → Gate → Bool
is_fed_well d j def gate =
    (is_buffer (Some gate) && nat_le (uses d (d.net.inputs + j)) 1) || not (list_any (is_input d) def.inputs)

-- definition j has a gate, its uses and inputs that are right
pub record IsSoundAt (d : CellView) (j : ℕ) (def : Def) : Type 0 where
  pub gate : Gate
  pub there : slice_get d.gates j ≡ Some (Some gate)
  pub used_well : is_used_well d j def gate ≡ true
  pub fed_well : is_fed_well d j def gate ≡ true

-- the first n definitions are without fault
pub record IsSoundTo (d : CellView) (n : ℕ) : Type 0 where
  pub each : (j : ℕ) (def : Def) → j < n → slice_get d.net.defs j ≡ Some def → IsSoundAt d j def
  pub level : ℕ → ℕ
  pub fit : LevelsFit d n level

-- definition j has this fault, and none that comes before it in the list of faults
abbrev pub HasFault : CellView → ℕ → Def → CellFault → Type 0
HasFault d j def Cover = slice_get d.gates j ≡ Some None
HasFault d j def Uses =
    (gate : Gate) × (slice_get d.gates j ≡ Some (Some gate)) × (is_used_well d j def gate ≡ false)
HasFault d j def Level =
    (gate : Gate) × (slice_get d.gates j ≡ Some (Some gate)) × (is_used_well d j def gate ≡ true)
    × ((is_fed_well d j def gate ≡ false) ⊎ ((level : ℕ → ℕ) → LevelsFit d (suc j) level → ⊥))
HasFault d j def Outputs = ⊥

-- the first definition with a fault has this one
pub record IsFaultOfDef (d : CellView) (line : ℕ) (kind : CellFault) : Type 0 where
  pub j : ℕ
  pub def : Def
  pub there : slice_get d.net.defs j ≡ Some def
  pub before : IsSoundTo d j
  pub fault : HasFault d j def kind
  pub line_is : line ≡ def.line

-- all definitions are without fault, and each input has a use
pub record IsFed (d : CellView) : Type 0 where
  pub sound : IsSoundTo d (length d.net.defs)
  pub each_input : (i : ℕ) → i < d.net.inputs → 0 < uses d i

-- all definitions are without fault, and an input has no use
pub record IsUnfed (d : CellView) : Type 0 where
  pub sound : IsSoundTo d (length d.net.defs)
  pub input : ℕ
  pub within : input < d.net.inputs
  pub unused : uses d input ≡ 0

-- only the outputs are wrong: one of them is no name of a buffer of its own, or no levels fit with all of these on one
pub record IsUnshown (d : CellView) : Type 0 where
  pub fed : IsFed d
  pub wrong : (list_all (is_shown d) d.net.outputs ≡ false)
      ⊎ ((level : ℕ → ℕ) (last : ℕ) → LevelsFitAll d level last → ⊥)

-- the first fault, with its line: that of a definition, or else line 0
abbrev pub IsFault : CellView → ℕ → CellFault → Type 0
IsFault d line Cover = IsFaultOfDef d line Cover
IsFault d line Uses = IsFaultOfDef d line Uses ⊎ ((line ≡ 0) × IsUnfed d)
IsFault d line Level = IsFaultOfDef d line Level
IsFault d line Outputs = (line ≡ 0) × IsUnshown d

-- the netlist is one of cells, and these are their levels: the last is as low as can be
pub record IsCellNet (d : CellView) (level : ℕ → ℕ) (last : ℕ) : Type 0 where
  pub fed : IsFed d
  pub shown : list_all (is_shown d) d.net.outputs ≡ true
  pub levels : LevelsFitAll d level last
  pub lowest : (other : ℕ → ℕ) (n : ℕ) → LevelsFitAll d other n → last ≤ n
