-- A chip that the search has found, on its way to be taken.
use Rattle.std.specs.Prelude.{◌≤◌}
use Rattle.blif_read.specs.Parts.{NetView}
use Rattle.rowed.specs.PlacedNets.{PlacedView}
use Rattle.cell_library.specs.Library.{LibraryView}
use Rattle.layout_make.specs.MayDraw.{MayDraw}
use Rattle.layout_make.specs.Size.{element_number}
use Rattle.rowed.specs.Limits.{element_limit}
use Rattle.plan_build.specs.Laws.{AnswersAs}

-- it may be drawn, and answers as the netlist
pub record IsCandidate (l : LibraryView) (net : NetView) (chip : PlacedView) : Type 0 where
  pub draws : MayDraw chip l
  pub answers : AnswersAs net chip
  pub few : element_number chip ≤ element_limit
