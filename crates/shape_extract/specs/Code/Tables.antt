-- What the cells of a circuit are made from: a layout that keeps the rules of circuits, its nets, its frames in order,
-- the place of each frame, and the driver of each net.
use Rattle.std.specs.Prelude.{◌≡◌, ℕ, ◌^◌, ◌<◌, ◌≤◌, List, length, Some, slice_get, true}
use Rattle.geom.specs.declared.shapes.Shape.{Shape}
use Rattle.geom.specs.declared.shapes.Flat.{Flat}
use Rattle.geom.specs.FlatForm.{flat_count}
use Rattle.circuit.specs.declared.cell_kind.CellKind.{CellKind}
use Rattle.circuit.specs.CellKinds.{number_of, inputs_of}
use Rattle.layout_rules.specs.Layers.{is_frame}
use Rattle.layout_rules.specs.Nets.{AreNets}
use Rattle.shape_extract.specs.declared.circuits.cell_feeds.Tables.{Tables}
use Rattle.circuit_extracted.specs.declared.cells.Feed.{Feed}
use Rattle.circuit_extracted.specs.declared.cells.Feed.TheVariants.{Nothing}
use Rattle.shape_extract.specs.Code.Marking.{AreMarks}
use Rattle.shape_extract.specs.Code.FramesOfPins.{ArePinFrames}
use Rattle.shape_extract.specs.Frames.{AreFrames}
use Rattle.shape_extract.specs.Code.Corners.{ArePlaces}
use Rattle.shape_extract.specs.Code.Drivers.{AreDrivers}
use Rattle.shape_extract.specs.Extracts.{KeepsFive}
use Rattle.shape_extract.specs.Extraction.{IsFeedAt}

-- the lists are those of the layout, which keeps the rules of circuits
pub record AreTables (flat : Flat) (nets frames places drivers : List ℕ) : Type 0 where
  pub few : flat_count flat < 2 ^ 32
  pub five : KeepsFive flat
  pub nets_are : AreNets flat.shapes nets
  pub frames_are : AreFrames flat.shapes frames
  pub fewer : length frames ≤ length flat.shapes
  pub places_are : ArePlaces frames places
  pub drivers_are : AreDrivers flat.shapes nets drivers

-- the tables are those of their layout
abbrev pub AreReady : Tables → Type 0
AreReady tables = AreTables tables.flat.now tables.nets.now tables.frames.now tables.places.now tables.drivers.now

-- which labels mark each pin, and the frame of each pin
pub record AreKnownPins (tables : Tables) : Type 0 where
  pub marks : AreMarks tables.flat.now.shapes tables.flat.now.labels tables.marking.now
  pub frames : ArePinFrames tables.flat.now.shapes tables.pin_frames.now

-- f is the frame of a cell of this kind
pub record IsFrameOf (shapes : List Shape) (kind : CellKind) (f : ℕ) : Type 0 where
  pub frame : Shape
  pub frame_is : slice_get shapes f ≡ Some frame
  pub frame_so : is_frame frame ≡ true
  pub kind_is : frame.datatype ≡ number_of kind

-- the feed of input i of a cell of this kind with frame f, which is nothing past the inputs of the kind
pub record IsFeedOfInput (flat : Flat) (frames : List ℕ) (kind : CellKind) (f i : ℕ) (feed : Feed) : Type 0 where
  pub within : i < inputs_of kind → IsFeedAt flat frames f i feed
  pub past : inputs_of kind ≤ i → feed ≡ Nothing
