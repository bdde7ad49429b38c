-- A circuit from its parts.
use Rattle.std.proofs.Common.{◌≡◌, ℕ, ◌<◌, ◌≤◌, ◌^◌, List, length, ℤ, sym, arith}
use Rattle.std.specs.Prelude.{count_by}
use Rattle.geom.specs.declared.shapes.Flat.{Flat}
use Rattle.geom.specs.FlatForm.{flat_count}
use Rattle.layout_rules.specs.Nets.{AreNets}
use Rattle.layout_rules.specs.Rows.{row_count, lower_edges, AreRows}
use Rattle.layout_rules.proofs.RowLaws.{row_count-certified}
use Rattle.rowed.specs.declared.source.Source.{Source}
use Rattle.circuit_extracted.specs.declared.cells.ExCell.{ExCell}
use Rattle.circuit_extracted.specs.Circuits.{KeepsFacts}
use Rattle.shape_extract.specs.Extraction.{is_wired, IsCellFrom, IsCircuitOf}
use Rattle.shape_extract.specs.Extracts.{KeepsFive}
use Rattle.shape_extract.specs.Code.Parts.{AreParts}
use Rattle.shape_extract.proofs.CellLists.{few_edges}
use Rattle.shape_extract.proofs.KeptFacts.{zip_long, keeps_facts}

-- there are at most as many rows as shapes
pub rows_few : (flat : Flat) (edges : List ℤ) → AreRows flat.shapes edges → length edges ≤ length flat.shapes
rows_few flat edges rows =
    let e : row_count flat.shapes ≡ length edges = row_count-certified flat.shapes edges rows in
    let h : length (lower_edges flat.shapes) ≤ length flat.shapes = few_edges flat.shapes in
    omega arith

module _ (flat : Flat) (nets : List ℕ) (edges : List ℤ) (cells : List ExCell) (inputs : ℕ) (outputs : List Source)
    (wires : ℕ) (nets_are : AreNets flat.shapes nets) (rows : AreRows flat.shapes edges)
    (parts : AreParts flat cells inputs outputs) (wires_are : wires ≡ count_by (is_wired flat) flat.shapes) where
  pub assembled : IsCircuitOf flat
      (record { cells = cells; inputs = inputs; outputs = outputs; rows = length edges; wires = wires; nets = nets })
  assembled = record {
    frames = parts.frames;
    are_frames = parts.are_frames;
    cells = parts.cells_are;
    rows = sym (row_count-certified flat.shapes edges rows);
    inputs = parts.inputs_are;
    output_count = parts.outputs_are.long;
    outputs = parts.outputs_are.each;
    wires = wires_are;
    nets = nets_are;
  }

  pub assembled_keeps : KeepsFive flat → flat_count flat < 2 ^ 32
      → KeepsFacts (record {
        cells = cells;
        inputs = inputs;
        outputs = outputs;
        rows = length edges;
        wires = wires;
        nets = nets;
      })
  assembled_keeps five few =
      let e : length cells ≡ length parts.frames = zip_long
      (IsCellFrom flat parts.frames) cells parts.frames parts.cells_are in
      let h : length parts.frames ≤ length flat.shapes = parts.fewer in
      keeps_facts flat five edges rows
      (record {
        cells = cells;
        inputs = inputs;
        outputs = outputs;
        rows = length edges;
        wires = wires;
        nets = nets;
      }) assembled (omega arith) (omega arith)
