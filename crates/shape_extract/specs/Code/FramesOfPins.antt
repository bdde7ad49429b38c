-- The frame of each pin, where the rule of cells is kept.
use Rattle.std.specs.Prelude.{◌≡◌, ℕ, List, length, slice_index}
use Rattle.geom.specs.declared.shapes.Shape.{Shape}
use Rattle.layout_rules.specs.Layers.{is_pin}
use Rattle.layout_rules.specs.Pins.{LiesIn}
use Rattle.layout_rules.specs.Reports.{Passes}

-- for each shape a number, which for a pin is that of the frame in which it lies
pub record ArePinFrames (shapes : List Shape) (frames : List ℕ) : Type 0 where
  pub long : length frames ≡ length shapes
  pub each : (p : ℕ) → Passes is_pin shapes p → LiesIn shapes p (slice_index frames p)
