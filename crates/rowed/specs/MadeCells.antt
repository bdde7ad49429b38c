-- The cells that programs make: a cell of a kind with its sources, and the buffers that show inputs and outputs.
use Rattle.std.specs.Prelude.{ℕ, List, slice_get, Some, None}
use Rattle.circuit.specs.declared.cell_kind.CellKind.{CellKind}
use Rattle.circuit.specs.declared.cell_kind.CellKind.TheVariants.{Buffer}
use Rattle.rowed.specs.declared.source.Source.{Source}
use Rattle.rowed.specs.declared.row_cell.RowCell.{RowCell}

-- output o of cell c
abbrev pub source : ℕ → ℕ → Source
source c o = record { cell = c; output = o }

-- a cell with these sources, which shows neither an input nor an output
abbrev pub cell : CellKind → List Source → RowCell
cell kind ss = record {
  kind = kind;
  source0 = slice_get ss 0;
  source1 = slice_get ss 1;
  source2 = slice_get ss 2;
  input = None;
  output = None;
}

-- a cell without sources
abbrev pub bare_cell : CellKind → RowCell
bare_cell kind = record { kind = kind; source0 = None; source1 = None; source2 = None; input = None; output = None }

-- a cell with one source
abbrev pub fed_cell : CellKind → Source → RowCell
fed_cell kind s = record { kind = kind; source0 = Some s; source1 = None; source2 = None; input = None; output = None }

-- a buffer that shows input i
abbrev pub input_cell : ℕ → RowCell
input_cell i = record { kind = Buffer; source0 = None; source1 = None; source2 = None; input = Some i; output = None }

-- a buffer that shows output k
abbrev pub output_cell : Source → ℕ → RowCell
output_cell s k = record {
  kind = Buffer;
  source0 = Some s;
  source1 = None;
  source2 = None;
  input = None;
  output = Some k;
}
