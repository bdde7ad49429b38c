-- The rule of lengths: the metal of a net is short enough for the pulse that runs along it.
use Rattle.std.specs.Prelude.{◌≡◌, ℕ, ◌<◌, ◌≤◌, ◌==◌, ◌&&◌, max, List, slice_index, zip, sum_by, if◌then◌else◌}
use Rattle.geom.specs.declared.shapes.Shape.{Shape}
use Rattle.geom.specs.Rectangle.{Rectangle, width, height}
use Rattle.layout_rules.specs.Layers.{is_metal}
use Rattle.layout_rules.specs.Limits.{Limits}
use Rattle.layout_rules.specs.Nets.{AreNets}
use Rattle.layout_rules.specs.Reports.{Alone, Passes}

-- the longer side of a rectangle, in nanometres
abbrev pub longer_side : Rectangle → ℕ
longer_side r = max (width r) (height r)

-- what a shape of some net adds to the length of this one
abbrev pub length_in : ℕ → Shape × ℕ → ℕ
length_in net s = (if is_metal s.0 && s.1 == net then longer_side s.0.rect else 0)

-- the length of a net: the longer sides of its M1 and M2 shapes together
abbrev pub net_length : List Shape → List ℕ → ℕ → ℕ
net_length shapes nets net = sum_by (length_in net) (zip shapes nets)

-- the least metal shape of a net that is too long
pub record IsTooLong (limits : Limits) (shapes : List Shape) (a : ℕ) : Type 0 where
  pub metal : Passes is_metal shapes a
  pub nets : List ℕ
  pub are_nets : AreNets shapes nets
  pub least : (c : ℕ) → Passes is_metal shapes c → slice_index nets c ≡ slice_index nets a → a ≤ c
  pub too_long : limits.limit < net_length shapes nets (slice_index nets a)

-- the metal of a net is too long
abbrev pub LengthsBroken : Limits → List Shape → ℕ → ℕ → Type 0
LengthsBroken limits shapes = Alone (IsTooLong limits shapes)
