-- The chip that is drawn of a netlist of cells: its rows packed, or at slots that a search has found, or those of a
-- wider net, with rows of repeaters. It has no more cells than the packed one, if that keeps its limits.
use Rattle.std.specs.Prelude.{◌≡◌, ℕ, ◌≤◌, ◌⊎◌, List}
use Rattle.blif_read.specs.Parts.{NetView}
use Rattle.rowed.specs.RowNets.{RowView}
use Rattle.rowed.specs.PlacedNets.{PlacedView, lagged}
use Rattle.rowed.specs.Counts.{cells_in}
use Rattle.row_place.specs.Arranged.{IsArranged}
use Rattle.placement_check.specs.Wider.{IsWider}
use Rattle.plan_draw.specs.Packs.{pack}
use Rattle.repeater_rows.specs.Repeaters.{repeated}
use Rattle.cell_library.specs.Library.{LibraryView}
use Rattle.cell_library.specs.Reach.{reach_of}
use Rattle.layout_make.specs.Size.{element_number}
use Rattle.rowed.specs.Limits.{element_limit}
use Rattle.plan_draw.specs.CellPlans.{AreCellRows, chip_of_rows, KeepsSize}

-- the rows stand packed, or at slots that a search has found, or in a wider net: with buffers in added rows, so that
-- each output leads through such buffers alone to the use that the netlist names, and constants in any row
abbrev pub IsPlacingOf : RowView → PlacedView → Type 0
IsPlacingOf rows placed =
    (placed ≡ pack rows) ⊎ ((slots : List (List ℕ)) × IsArranged rows slots placed) ⊎ IsWider rows placed.net

-- this is a chip of a netlist of cells, which has few enough elements to be drawn
pub record IsDrawnChip (l : LibraryView) (net : NetView) (chip : PlacedView) : Type 0 where
  pub rows : RowView
  pub of_net : AreCellRows l net rows
  pub placed : PlacedView
  pub stands : IsPlacingOf rows placed
  -- its odd rows may lag
  pub is_chip : lagged chip 0 ≡ repeated placed (reach_of l)
  pub few : element_number chip ≤ element_limit
  pub no_larger : KeepsSize l rows → cells_in chip.net.rows ≤ cells_in (chip_of_rows l rows).net.rows
