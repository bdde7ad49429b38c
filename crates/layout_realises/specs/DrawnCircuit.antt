-- The circuit of a drawing: the cells of the placed net row by row, each fed by its sources and its input.
use Rattle.std.specs.Prelude.{ℕ, zero, suc, pred, ◌+◌, ◌%◌, true, false, List, [], ◌∷◌, length, map, Option, Some, None}
use Rattle.std.specs.List.{flat_map}
use Rattle.circuit.specs.SameAnswers.{SameAnswers}
use Rattle.geom.specs.declared.shapes.Flat.{Flat}
use Rattle.sorting.specs.Numbers.{numbers}
use Rattle.rowed.specs.PlacedNets.{PlacedView}
use Rattle.rowed.specs.RowNets.{last_of, IsAnswer}
use Rattle.rowed.specs.declared.source.Source.{Source}
use Rattle.circuit_extracted.specs.Answers as extracted
use Rattle.circuit_extracted.specs.Circuits.{CircuitView}
use Rattle.shape_extract.specs.Extraction.{IsCircuitOf}
use Rattle.circuit_extracted.specs.declared.cells.ExCell.{ExCell}
use Rattle.circuit_extracted.specs.declared.cells.Feed.{Feed}
use Rattle.circuit_extracted.specs.declared.cells.Feed.TheVariants.{Nothing, Pin, Label}
use Rattle.layout_make.specs.Spots.{spots, has_port, output_port}
use Rattle.layout_make.specs.declared.spots.Spot.{Spot}

-- how many cells stand in the rows below row r
abbrev pub cells_below : PlacedView → ℕ → ℕ
cells_below p zero = 0
cells_below p (suc r) = cells_below p r + length (spots p r)

-- what a pin takes from its source, where the cells of the row below are numbered from `first` on
abbrev pub source_feed : ℕ → Option Source → Feed
source_feed first None = Nothing
source_feed first (Some s) = Pin (first + s.cell) s.output

-- a cell with an input of the net takes that, and any other cell what its source gives
abbrev pub port_feed : Option ℕ → Feed → Feed
port_feed None feed = feed
port_feed (Some n) feed = Label n

-- the cell of row r at this spot
abbrev pub drawn_cell : PlacedView → ℕ → Spot → ExCell
drawn_cell p r x = record {
  kind = x.cell.kind;
  row = r;
  phase = r % 4;
  feed0 = port_feed x.cell.input (source_feed (cells_below p (pred r)) x.cell.source0);
  feed1 = source_feed (cells_below p (pred r)) x.cell.source1;
  feed2 = source_feed (cells_below p (pred r)) x.cell.source2;
}

-- the cells of row r as the circuit of a layout has them, from left to right
abbrev pub drawn_row : PlacedView → ℕ → List ExCell
drawn_row p r = map (drawn_cell p r) (spots p r)

-- the place in its row of the cell that shows output n
abbrev pub output_place : ℕ → List Spot → ℕ
output_place n [] = 0
output_place n (x ∷ xs) = elim (has_port (output_port x.cell) n) [ true ↦ 0 | false ↦ suc (output_place n xs) ]

-- the cell of the last row that shows output n
abbrev pub output_source : PlacedView → ℕ → Source
output_source p n = record {
  cell = cells_below p (last_of p.net.rows) + output_place n (spots p (last_of p.net.rows));
  output = 0;
}

-- the circuit of the placed net, with so many wires and these nets of shapes
abbrev pub drawn_circuit : PlacedView → ℕ → List ℕ → CircuitView
drawn_circuit p wires nets = record {
  cells = flat_map (drawn_row p) (numbers 0 (length p.net.rows));
  inputs = p.net.inputs;
  outputs = map (output_source p) (numbers 0 p.net.outputs);
  rows = length p.net.rows;
  wires = wires;
  nets = nets;
}

-- the circuit is that of the flat form, and answers every word as the placed net does
pub record IsDrawnAs (p : PlacedView) (flat : Flat) (circuit : CircuitView) : Type 0 where
  pub circuit_is : IsCircuitOf flat circuit
  pub same : SameAnswers p.net.inputs circuit.inputs p.net.outputs (length circuit.outputs)
      (IsAnswer p.net) (extracted.IsAnswer circuit)
