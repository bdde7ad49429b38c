-- The kinds of the plan's cells, and those of the gates that they compute.
use Rattle.std.specs.Prelude.{ℕ, suc, ◌+◌, Bool, true, false, eqb, List, [], ◌∷◌}
use Rattle.circuit.specs.CellKinds.{number_of}
use Rattle.circuit.specs.declared.cell_kind.CellKind.{CellKind}
use Rattle.circuit.specs.declared.cell_kind.CellKind.TheVariants as kinds
use Rattle.circuit.specs.declared.gate.Gate.{Gate}
use Rattle.circuit.specs.declared.gate.Gate.TheVariants as gates
use Rattle.rowed.specs.declared.row_cell.RowCell.{RowCell}
use Rattle.level_balance.specs.Uses.{counts}

-- 1 where both kinds are the same, else 0
abbrev pub one_of : CellKind → CellKind → ℕ
one_of k c = elim (eqb (number_of k) (number_of c)) [ true ↦ 1 | false ↦ 0 ]

-- how many cells of a row are of kind k
abbrev pub row_cells_of : CellKind → List RowCell → ℕ
row_cells_of k [] = 0
row_cells_of k (c ∷ cs) = one_of k c.kind + row_cells_of k cs

-- how many cells of all rows are of kind k
abbrev pub cells_of : CellKind → List (List RowCell) → ℕ
cells_of k [] = 0
cells_of k (row ∷ rows) = row_cells_of k row + cells_of k rows

-- the kind of a gate's own cell: an input is a buffer
abbrev pub gate_kind : Gate → CellKind
gate_kind (gates.Input i) = kinds.Buffer
gate_kind gates.Zero = kinds.Zero
gate_kind gates.One = kinds.One
gate_kind (gates.Buf x) = kinds.Buffer
gate_kind (gates.Inv x) = kinds.Inverter
gate_kind (gates.Maj x y z) = kinds.Majority

-- how many gates from gate i on count and have a cell of kind k
abbrev pub gates_of : CellKind → ℕ → List Bool → ℕ → List Gate → ℕ
gates_of k n marks i [] = 0
gates_of k n marks i (g ∷ gs) = elim (counts n marks i) [
  | true ↦ one_of k (gate_kind g) + gates_of k n marks (suc i) gs
  | false ↦ gates_of k n marks (suc i) gs
]
