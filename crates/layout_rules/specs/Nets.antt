-- Nets: all shapes that are joined to one. A net goes by the least number in it.
use Rattle.std.specs.Prelude.{◌≡◌, ℕ, ◌<◌, ◌≤◌, List, length, slice_index}
use Rattle.geom.specs.declared.shapes.Shape.{Shape}
use Rattle.layout_rules.specs.Touch.{Touching, Joined}

-- for each shape the least number in its net
pub record AreNets (shapes : List Shape) (nets : List ℕ) : Type 0 where
  pub long : length nets ≡ length shapes
  pub joined : (i : ℕ) → i < length shapes → Joined shapes i (slice_index nets i)
  pub least : (i j : ℕ) → i < length shapes → Joined shapes i j → slice_index nets i ≤ j

-- what shows that numbers are those of nets: each shape is joined to its own, which is not above it, and touching
-- shapes have one
pub record Certifies (shapes : List Shape) (nets : List ℕ) : Type 0 where
  pub long : length nets ≡ length shapes
  pub joined : (i : ℕ) → i < length shapes → Joined shapes i (slice_index nets i)
  pub not_above : (i : ℕ) → i < length shapes → slice_index nets i ≤ i
  pub agree : (i j : ℕ) → Touching shapes i j → slice_index nets i ≡ slice_index nets j

-- some list is that of the nets of these shapes
pub record HaveNets (shapes : List Shape) : Type 0 where
  pub nets : List ℕ
  pub are : AreNets shapes nets
