-- The output pin that drives a net, which is one where the rule of nets is kept.
use Rattle.std.specs.Prelude.{◌≡◌, ℕ, List, length, Some, slice_get, slice_index}
use Rattle.geom.specs.declared.shapes.Shape.{Shape}
use Rattle.layout_rules.specs.declared.layers.TheConstants.{OUTPUT_PIN}
use Rattle.layout_rules.specs.CircuitRules.{IsSource}

-- for each net, by its number, the output pin in it
pub record AreDrivers (shapes : List Shape) (nets drivers : List ℕ) : Type 0 where
  pub long : length drivers ≡ length shapes
  pub each : (q : ℕ) (pin : Shape) → slice_get shapes q ≡ Some pin → pin.layer ≡ OUTPUT_PIN
      → slice_get drivers (slice_index nets q) ≡ Some q

-- the one output pin in the net of p
pub record IsOnlySource (shapes : List Shape) (p driver : ℕ) : Type 0 where
  pub source : IsSource shapes p driver
  pub only : (q : ℕ) → IsSource shapes p q → q ≡ driver
