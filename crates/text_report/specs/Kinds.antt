-- How many cells of each kind a circuit has, and how many Josephson junctions they are made of.
use Rattle.std.specs.Prelude.{ℕ, ◌==◌, List, count_by, sum_by}
use Rattle.circuit.specs.declared.cell_kind.CellKind.{CellKind}
use Rattle.circuit.specs.declared.cell_kind.CellKind.TheVariants.{Buffer, Inverter, Zero, One, Split2, Split3, Majority}
use Rattle.circuit.specs.CellKinds.{number_of}
use Rattle.circuit_extracted.specs.declared.cells.ExCell.{ExCell}
use Rattle.text_report.specs.declared.kinds.Kinds.{Kinds}

-- how many of these cells are of the kind
abbrev pub count_of : CellKind → List ExCell → ℕ
count_of kind cells = count_by (λ cell. number_of cell.kind == number_of kind) cells

-- how many there are of each kind
unfoldable pub kinds_of : List ExCell → Kinds
kinds_of cells = record {
  buffers = count_of Buffer cells;
  inverters = count_of Inverter cells;
  zeros = count_of Zero cells;
  ones = count_of One cells;
  splitters_of_two = count_of Split2 cells;
  splitters_of_three = count_of Split3 cells;
  majorities = count_of Majority cells;
}

-- the junctions of a cell, as in the minimalist design of AQFP cells: two, and three times as many in a majority
abbrev pub junctions_of : CellKind → ℕ
junctions_of Buffer = 2
junctions_of Inverter = 2
junctions_of Zero = 2
junctions_of One = 2
junctions_of Split2 = 2
junctions_of Split3 = 2
junctions_of Majority = 6

-- the junctions of these cells together
abbrev pub junction_count : List ExCell → ℕ
junction_count cells = sum_by (λ cell. junctions_of cell.kind) cells

-- how many of these cells stand in the row
abbrev pub cells_in : ℕ → List ExCell → ℕ
cells_in row cells = count_by (λ cell. cell.row == row) cells
