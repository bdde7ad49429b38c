-- Which shapes touch, and which are joined, as circuit extraction from mask layouts takes connection.
use Rattle.std.specs.Prelude.{◌≡◌, ℕ, ◌&&◌, ◌||◌, Bool, true, List, [], ◌∷◌, slice_get, Some}
use Rattle.geom.specs.declared.shapes.Shape.{Shape}
use Rattle.geom.specs.Rectangle.{share_point}
use Rattle.layout_rules.specs.Layers.{is_lower, is_upper, is_via}

-- a shape of the first kind conducts to one of the second: both in the lower plane, both in the upper one, or a via and
-- either
abbrev pub conducts : Shape → Shape → Bool
conducts a b = (is_lower a && is_lower b) || (is_upper a && is_upper b)
    || (is_via a && (is_lower b || is_upper b))
    || (is_via b && (is_lower a || is_upper a))

-- the two conduct to each other and share a point
abbrev pub touch : Shape → Shape → Bool
touch a b = conducts a b && share_point a.rect b.rect

-- the shapes of these two numbers touch
pub record Touching (shapes : List Shape) (i j : ℕ) : Type 0 where
  pub first : Shape
  pub second : Shape
  pub first_is : slice_get shapes i ≡ Some first
  pub second_is : slice_get shapes j ≡ Some second
  pub touch_so : touch first second ≡ true

-- from i each shape touches the next one of the path, and j is the last
abbrev pub IsPath : List Shape → ℕ → List ℕ → ℕ → Type 0
IsPath shapes i [] j = i ≡ j
IsPath shapes i (m ∷ path) j = Touching shapes i m × IsPath shapes m path j

-- some path leads from the one to the other
abbrev pub Joined : List Shape → ℕ → ℕ → Type 0
Joined shapes i j = (path : List ℕ) × IsPath shapes i path j
