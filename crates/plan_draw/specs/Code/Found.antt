-- A chip of a netlist of cells that a search has found.
use Rattle.blif_read.specs.Parts.{NetView}
use Rattle.circuit.specs.SameAnswers.{SameAnswers}
use Rattle.rowed.specs.RowNets.{RowView, IsAnswer}
use Rattle.rowed.specs.PlacedNets.{PlacedView, IsPlaced}
use Rattle.cell_library.specs.Library.{LibraryView}
use Rattle.plan_limits.specs.Drawable.{IsDrawable}
use Rattle.plan_draw.specs.CellPlans.{AreCellRows}
use Rattle.plan_draw.specs.DrawnChips.{IsPlacingOf}

-- its cells stand in these rows, or in wider ones, and answer as they do
pub record IsStanding (rows : RowView) (placed : PlacedView) : Type 0 where
  pub keeps : IsPlaced placed
  pub same : SameAnswers rows.inputs placed.net.inputs rows.outputs placed.net.outputs (IsAnswer rows)
      (IsAnswer placed.net)
  pub stands : IsPlacingOf rows placed

-- it may be drawn, and its cells stand in the rows of the netlist, or in wider ones
pub record IsFoundChip (l : LibraryView) (net : NetView) (chip : PlacedView) : Type 0 where
  pub rows : RowView
  pub of_net : AreCellRows l net rows
  pub placed : PlacedView
  pub stands : IsStanding rows placed
  pub drawable : IsDrawable l net placed chip
