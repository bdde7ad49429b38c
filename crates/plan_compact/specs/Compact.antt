-- What is said of a chip that was searched for: its size beside the chip of the plan.
use Rattle.std.specs.Prelude.{◌≡◌, ◌≤◌, ◌⊎◌}
use Rattle.blif_read.specs.Parts.{NetView}
use Rattle.rowed.specs.Counts.{cells_in}
use Rattle.rowed.specs.PlacedNets.{PlacedView}
use Rattle.cell_library.specs.Library.{LibraryView}
use Rattle.layout_make.specs.Size.{element_number}
use Rattle.rowed.specs.Limits.{element_limit}
use Rattle.plan_build.specs.Plans.{IsWithin, chip_of}
use Rattle.plan_compact.specs.Junctions.{junctions_in}

-- the chip has at most as many cells as the other, and at most as many junctions
pub record IsNoLarger (chip other : PlacedView) : Type 0 where
  pub cells : cells_in chip.net.rows ≤ cells_in other.net.rows
  pub junctions : junctions_in chip.net.rows ≤ junctions_in other.net.rows

-- the chip of the plan, which keeps the plan's limits
pub record IsPlanned (l : LibraryView) (net : NetView) (chip : PlacedView) : Type 0 where
  pub is : chip ≡ chip_of l net
  pub within : IsWithin l net

-- another chip, which has few enough elements to be drawn, and is no larger than the plan's, if that keeps its limits
pub record IsFound (l : LibraryView) (net : NetView) (chip : PlacedView) : Type 0 where
  pub few : element_number chip ≤ element_limit
  pub no_larger : IsWithin l net → IsNoLarger chip (chip_of l net)

-- the chip was found, or else is that of the plan
abbrev pub IsCompactChip : LibraryView → NetView → PlacedView → Type 0
IsCompactChip l net chip = IsPlanned l net chip ⊎ IsFound l net chip
