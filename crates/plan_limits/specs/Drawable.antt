-- A placed net with rows of repeaters that may be drawn.
use Rattle.std.specs.Prelude.{◌≡◌, ◌≤◌}
use Rattle.blif_read.specs.Parts.{NetView}
use Rattle.rowed.specs.PlacedNets.{PlacedView}
use Rattle.repeater_rows.specs.Repeaters.{repeated}
use Rattle.cell_library.specs.Library.{LibraryView}
use Rattle.cell_library.specs.Reach.{reach_of}
use Rattle.layout_make.specs.MayDraw.{MayDraw}
use Rattle.layout_make.specs.Size.{element_number}
use Rattle.rowed.specs.Limits.{element_limit}
use Rattle.plan_build.specs.Laws.{AnswersAs}

-- this is a placed net with the rows of repeaters that the library's reach calls for; it may be drawn, has few enough
-- elements, and answers every word as the netlist
pub record IsDrawable (l : LibraryView) (net : NetView) (placed chip : PlacedView) : Type 0 where
  pub is_chip : chip ≡ repeated placed (reach_of l)
  pub draws : MayDraw chip l
  pub answers : AnswersAs net chip
  pub few : element_number chip ≤ element_limit
