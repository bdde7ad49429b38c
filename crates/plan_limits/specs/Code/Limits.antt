-- A placed net on its way to a chip that may be drawn.
use Rattle.std.specs.Prelude.{◌≡◌, ◌≤◌, length}
use Rattle.blif_read.specs.Parts.{NetView}
use Rattle.rowed.specs.PlacedNets.{PlacedView, IsPlaced, placed_rows}
use Rattle.rowed.specs.Short.{AreShort}
use Rattle.rowed.specs.Counts.{cells_in}
use Rattle.rowed.specs.Extent.{widest}
use Rattle.rowed.specs.Limits.{cell_limit, height_limit, KeepsWidth, element_limit}
use Rattle.repeater_rows.specs.Repeaters.{repeated}
use Rattle.cell_library.specs.Library.{LibraryView}
use Rattle.cell_library.specs.Reach.{reach_of, slot_width_of}
use Rattle.layout_make.specs.MayDraw.{GivesKinds, most_height}
use Rattle.layout_make.specs.Size.{element_number}
use Rattle.plan_build.specs.Laws.{AnswersAs}

-- it has its repeaters, its wires are short, and its cells and its height keep their limits
pub record IsShortened (l : LibraryView) (net : NetView) (placed chip : PlacedView) : Type 0 where
  pub is_chip : chip ≡ repeated placed (reach_of l)
  pub keeps : IsPlaced chip
  pub answers : AnswersAs net chip
  pub short : AreShort (reach_of l) (placed_rows chip)
  pub few_cells : cells_in chip.net.rows ≤ cell_limit
  pub low : most_height l (length chip.net.rows) ≤ height_limit

-- its kinds are given, it is narrow, and it has few elements
pub record KeepsLimits (l : LibraryView) (chip : PlacedView) : Type 0 where
  pub given : GivesKinds l chip.net.rows
  pub narrow : KeepsWidth (widest (placed_rows chip)) (slot_width_of l)
  pub few : element_number chip ≤ element_limit
