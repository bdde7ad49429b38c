-- A netlist of cells on its way to its chip.
use Rattle.std.specs.Prelude.{◌≡◌, ◌≤◌, length, None}
use Rattle.blif_read.specs.Parts.{NetView}
use Rattle.rowed.specs.PlacedNets.{PlacedView, placed_rows}
use Rattle.rowed.specs.RowNets.{RowView}
use Rattle.rowed.specs.Extent.{widest_packed}
use Rattle.rowed.specs.Limits.{KeepsWidth, cell_limit, height_limit}
use Rattle.rowed.specs.Counts.{cells_in}
use Rattle.plan_draw.specs.Packs.{IsPacked}
use Rattle.repeater_rows.specs.Passes.{cells_past}
use Rattle.cell_library.specs.Library.{LibraryView}
use Rattle.cell_library.specs.Reach.{slot_width_of}
use Rattle.plan_build.specs.Plans.{rows_height}
use Rattle.plan_draw.specs.CellPlans.{AreCellRows, chip_of_rows}

-- its rows are packed, none of them too wide
pub record IsPackedCells (l : LibraryView) (net : NetView) (placed : PlacedView) : Type 0 where
  pub of_net : AreCellRows l net placed.net
  pub is_packed : IsPacked placed.net (slot_width_of l) placed

-- it has its repeaters, and not too many cells or rows
pub record IsShortCells (l : LibraryView) (net : NetView) (chip : PlacedView) : Type 0 where
  pub rows : RowView
  pub of_net : AreCellRows l net rows
  pub is_chip : chip ≡ chip_of_rows l rows
  pub narrow : KeepsWidth (widest_packed rows.rows) (slot_width_of l)
  pub few_cells : cells_past 0 (placed_rows chip) ≡ None
  pub few : cells_in chip.net.rows ≤ cell_limit
  pub low : rows_height l (length chip.net.rows) ≤ height_limit
