-- The tables of a layout: what its rules and its circuit are read from.
use Rattle.geom.specs.declared.shapes.Flat.{Flat}
use Rattle.layout_rules.specs.Nets.{AreNets}
use Rattle.layout_rules.specs.Rows.{AreRows}
use Rattle.shape_extract.specs.declared.tables.layout_tables.LayoutTables.{LayoutTables}
use Rattle.shape_extract.specs.Code.FramesOfPins.{ArePinFrames}
use Rattle.shape_extract.specs.Code.Marking.{AreMarks}
use Rattle.shape_extract.specs.Code.RowFaults.{ArePinRows}

-- the tables are those of the layout
pub record AreTablesOf (flat : Flat) (tables : LayoutTables) : Type 0 where
  pub marks_are : AreMarks flat.shapes flat.labels tables.marking.items
  pub nets_are : AreNets flat.shapes tables.nets
  pub rows_are : AreRows flat.shapes tables.edges.items
  pub frames_are : ArePinFrames flat.shapes tables.pin_frames.items
  pub pin_rows_are : ArePinRows flat.shapes tables.pin_rows.items
