-- The parts of a circuit: its cells with their frames in order, how many inputs it has, and its outputs.
use Rattle.std.specs.Prelude.{◌≡◌, ℕ, ◌≤◌, List, length}
use Rattle.std.specs.List.{AllZip}
use Rattle.geom.specs.declared.shapes.Flat.{Flat}
use Rattle.layout_rules.specs.Pins.{entry_count}
use Rattle.rowed.specs.declared.source.Source.{Source}
use Rattle.circuit_extracted.specs.declared.cells.ExCell.{ExCell}
use Rattle.shape_extract.specs.Frames.{AreFrames}
use Rattle.shape_extract.specs.Extraction.{IsCellFrom}
use Rattle.shape_extract.specs.Code.OutputPins.{AreOutputs}

-- the cells, the count of inputs and the outputs are those of the layout
pub record AreParts (flat : Flat) (cells : List ExCell) (inputs : ℕ) (outputs : List Source) : Type 0 where
  pub frames : List ℕ
  pub are_frames : AreFrames flat.shapes frames
  pub fewer : length frames ≤ length flat.shapes
  pub cells_are : AllZip (IsCellFrom flat frames) cells frames
  pub inputs_are : inputs ≡ entry_count flat.shapes
  pub outputs_are : AreOutputs flat frames outputs
