-- A netlist of cells as a net in rows: each cell as it stands, in the row of its level, in a row in the order of the
-- text.
use Rattle.std.specs.Prelude.{ℕ, suc, ◌+◌, ◌-◌, ◌==◌, cond, map, List, [], ◌∷◌, length, Option, Some, None}
use Rattle.std.specs.Prelude.{slice_get}
use Rattle.std.specs.List.{position}
use Rattle.circuit.specs.declared.cell_kind.CellKind.{CellKind}
use Rattle.circuit.specs.declared.cell_kind.CellKind.TheVariants as kinds
use Rattle.circuit.specs.declared.gate.Gate.{Gate}
use Rattle.circuit.specs.declared.gate.Gate.TheVariants as gates
use Rattle.rowed.specs.declared.source.Source.{Source}
use Rattle.rowed.specs.declared.row_cell.RowCell.{RowCell}
use Rattle.rowed.specs.RowNets.{RowView}
use Rattle.rowed.specs.MadeCells.{source, bare_cell}
use Rattle.cell_netlist.specs.Kinds.{operands_of}
use Rattle.cell_netlist.specs.Uses.{CellView, uses, is_input, gate_of}
use Rattle.cell_netlist.specs.Levels.{shown_by}
use Rattle.cell_rows.specs.Members.{listed, members, place_of, uses_before}

-- a buffer with this number of uses is a buffer, or a splitter where it has two or three
abbrev pub kind_giving : ℕ → CellKind
kind_giving n = cond (n == 2) kinds.Split2 (cond (n == 3) kinds.Split3 kinds.Buffer)

-- what feeds a pin of definition j that names the cell of a signal: that cell by its place, and the first of its
-- outputs that no definition before j has
abbrev pub source_of : CellView → List ℕ → ℕ → ℕ → Source
source_of d levels j s = source (place_of d levels (s - d.net.inputs)) (uses_before d j s)

-- the kind of a cell by its gate and the number of its uses
abbrev pub kind_of : ℕ → Gate → CellKind
kind_of n (gates.Input i) = kinds.Buffer
kind_of n gates.Zero = kinds.Zero
kind_of n gates.One = kinds.One
kind_of n (gates.Buf x) = kind_giving n
kind_of n (gates.Inv x) = kinds.Inverter
kind_of n (gates.Maj x y z) = kinds.Majority

-- the signals whose cells feed a gate, in order: an input has no cell below its buffer
abbrev pub fed_by : CellView → Gate → List ℕ
fed_by d (gates.Buf x) = cond (is_input d x) [] (x ∷ [])
fed_by d gate = operands_of gate

-- the input that a gate shows, if it is the buffer of one
abbrev pub input_of : CellView → Gate → Option ℕ
input_of d (gates.Buf x) = cond (is_input d x) (Some x) None
input_of d gate = None

-- the number of the output that shows a signal, if one does
abbrev pub output_of : CellView → ℕ → Option ℕ
output_of d s = position (λ o. shown_by d o == s) d.net.outputs

-- the cell of definition j, by its gate
abbrev pub cell_of : CellView → List ℕ → ℕ → Gate → RowCell
cell_of d levels j gate =
    let s = d.net.inputs + j in
    let ss = map (source_of d levels j) (fed_by d gate) in
    record {
      kind = kind_of (uses d s) gate;
      source0 = slice_get ss 0;
      source1 = slice_get ss 1;
      source2 = slice_get ss 2;
      input = input_of d gate;
      output = output_of d s;
    }

-- the cell of a gate, if there is one
abbrev pub cell_by : CellView → List ℕ → ℕ → Option Gate → RowCell
cell_by d levels j None = bare_cell kinds.Buffer
cell_by d levels j (Some gate) = cell_of d levels j gate

-- the cell of definition j
abbrev pub row_cell : CellView → List ℕ → ℕ → RowCell
row_cell d levels j = cell_by d levels j (gate_of d (d.net.inputs + j))

-- the cells of row r
abbrev pub row_of : CellView → List ℕ → ℕ → List RowCell
row_of d levels r = map (row_cell d levels) (members d levels r)

-- the net of all rows, up to the last
abbrev pub rows_of : CellView → List ℕ → ℕ → RowView
rows_of d levels last = record {
  inputs = d.net.inputs;
  outputs = length d.net.outputs;
  rows = listed (row_of d levels) (suc last);
}
