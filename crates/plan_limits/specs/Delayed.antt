-- A chip whose odd rows are delayed.
use Rattle.std.specs.Prelude.{◌≡◌, ◌≤◌, ◌⊎◌}
use Rattle.rowed.specs.PlacedNets.{PlacedView, lagged}
use Rattle.layout_make.specs.Size.{element_number}
use Rattle.rowed.specs.Limits.{element_limit}

-- it is the chip but for the delay, and has few enough elements to be drawn, if it is not just the chip
pub record IsDelayed (chip out : PlacedView) : Type 0 where
  pub is : out ≡ lagged chip out.lag
  pub few : (out ≡ chip) ⊎ (element_number out ≤ element_limit)
