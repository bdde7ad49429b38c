-- The circuit of a layout's flat form, as circuit extraction from masks takes it: cells from frames, phases from the
-- excitation lines over them, feeds from nets, inputs and outputs from labels.
use Rattle.std.specs.Prelude.{◌≡◌, ℕ, ◌<◌, ◌≤◌, ◌==◌, ◌&&◌, not, Bool, true, false}
use Rattle.std.specs.Prelude.{List, length, count_by, Some, slice_get}
use Rattle.std.specs.List.{AllZip}
use Rattle.geom.specs.declared.shapes.Shape.{Shape}
use Rattle.geom.specs.declared.shapes.Flat.{Flat}
use Rattle.geom.specs.Rectangle.{overlap}
use Rattle.circuit.specs.CellKinds.{number_of, inputs_of}
use Rattle.layout_rules.specs.declared.layers.TheConstants.{INPUT_PIN, OUTPUT_PIN}
use Rattle.layout_rules.specs.Nets.{AreNets}
use Rattle.layout_rules.specs.Rows.{row_of, row_count}
use Rattle.layout_rules.specs.Pins.{IsPinOf, entry_count, exit_count}
use Rattle.layout_rules.specs.Labels.{letter_i, letter_o, Marks, is_labelled, IsNumbered}
use Rattle.layout_rules.specs.ExcitationLines.{BarHasPhase}
use Rattle.layout_rules.specs.CircuitRules.{IsInput, IsSource}
use Rattle.rowed.specs.declared.source.Source.{Source}
use Rattle.circuit_extracted.specs.declared.cells.Feed.{Feed}
use Rattle.circuit_extracted.specs.declared.cells.Feed.TheVariants.{Nothing, Pin, Label}
use Rattle.circuit_extracted.specs.declared.cells.ExCell.{ExCell}
use Rattle.circuit_extracted.specs.Circuits.{CircuitView, feed_at}
use Rattle.shape_extract.specs.Frames.{AreFrames}

-- a label of this letter and this number marks the pin
pub record IsNamed (flat : Flat) (letter n p : ℕ) : Type 0 where
  pub place : ℕ
  pub mark : Marks flat place p
  pub numbered : IsNumbered mark.label letter n

-- pin p is the output of the circuit's cells that the source names, the cells being these frames in order
pub record IsOutputPin (flat : Flat) (frames : List ℕ) (source : Source) (p : ℕ) : Type 0 where
  pub frame : ℕ
  pub frame_is : slice_get frames source.cell ≡ Some frame
  pub pin : IsPinOf flat.shapes frame OUTPUT_PIN source.output p

-- input pin p has no label, and the one output pin in its net is that of the source
pub record IsDrivenBy (flat : Flat) (frames : List ℕ) (source : Source) (p : ℕ) : Type 0 where
  pub input : IsInput flat false p
  pub driver : ℕ
  pub driver_is : IsSource flat.shapes p driver
  pub only : (q : ℕ) → IsSource flat.shapes p q → q ≡ driver
  pub output : IsOutputPin flat frames source driver

-- what feeds input pin p
abbrev pub FeedsPin : Flat → List ℕ → ℕ → Feed → Type 0
FeedsPin flat frames p Nothing = ⊥
FeedsPin flat frames p (Pin cell output) = IsDrivenBy flat frames (record { cell = cell; output = output }) p
FeedsPin flat frames p (Label n) = IsNamed flat letter_i n p

-- the feed of input pin i of the cell with frame f
pub record IsFeedAt (flat : Flat) (frames : List ℕ) (f i : ℕ) (feed : Feed) : Type 0 where
  pub number : ℕ
  pub pin : IsPinOf flat.shapes f INPUT_PIN i number
  pub feeds : FeedsPin flat frames number feed

-- the bar that overlaps the frame has this phase
pub record IsInPhase (shapes : List Shape) (frame : Shape) (phase : ℕ) : Type 0 where
  pub number : ℕ
  pub bar : BarHasPhase shapes number phase
  pub over : overlap bar.is_bar.shape.rect frame.rect ≡ true

-- the cell of the frame of number f
pub record IsCellFrom (flat : Flat) (frames : List ℕ) (cell : ExCell) (f : ℕ) : Type 0 where
  pub frame : Shape
  pub frame_is : slice_get flat.shapes f ≡ Some frame
  pub kind_is : frame.datatype ≡ number_of cell.kind
  pub row_is : cell.row ≡ row_of flat.shapes frame.rect.y0
  pub excited : IsInPhase flat.shapes frame cell.phase
  -- a feed for each input pin of the kind, and nothing past them
  pub feeds : (i : ℕ) → i < inputs_of cell.kind → IsFeedAt flat frames f i (feed_at cell i)
  pub no_more : (i : ℕ) → inputs_of cell.kind ≤ i → feed_at cell i ≡ Nothing

-- output n of the circuit is the output pin that the label of number n marks
pub record IsOutputFrom (flat : Flat) (frames : List ℕ) (n : ℕ) (source : Source) : Type 0 where
  pub number : ℕ
  pub named : IsNamed flat letter_o n number
  pub output : IsOutputPin flat frames source number

-- an input pin that another cell is to feed
abbrev pub is_wired : Flat → Shape → Bool
is_wired flat pin = pin.layer == INPUT_PIN && not (is_labelled flat pin)

-- the cells are those of the frames in order, and inputs, outputs, wires and nets are the layout's
pub record IsCircuitOf (flat : Flat) (circuit : CircuitView) : Type 0 where
  pub frames : List ℕ
  pub are_frames : AreFrames flat.shapes frames
  pub cells : AllZip (IsCellFrom flat frames) circuit.cells frames
  pub rows : circuit.rows ≡ row_count flat.shapes
  pub inputs : circuit.inputs ≡ entry_count flat.shapes
  pub output_count : length circuit.outputs ≡ exit_count flat.shapes
  pub outputs : (n : ℕ) (source : Source) → slice_get circuit.outputs n ≡ Some source
      → IsOutputFrom flat frames n source
  pub wires : circuit.wires ≡ count_by (is_wired flat) flat.shapes
  pub nets : AreNets flat.shapes circuit.nets
