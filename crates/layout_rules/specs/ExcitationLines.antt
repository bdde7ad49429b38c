-- Excitation lines: each leads from its start over the rows of its layer, by bars over rows and links at the chip's
-- sides. Cells are excited in four phases by two such lines, as in AQFP logic of Takeuchi and others.
use Rattle.std.specs.Prelude.{◌≡◌, ◌≢◌, ℕ, suc, ◌<◌, ◌==◌, ◌&&◌, ◌||◌, not, Bool, true, List, [], ◌∷◌, length}
use Rattle.std.specs.Prelude.{slice_get, slice_index, Some, if◌then◌else◌}
use Rattle.geom.specs.declared.shapes.Shape.{Shape}
use Rattle.geom.specs.Rectangle.{Rectangle, share_point, left_edge, right_edge}
use Rattle.layout_rules.specs.declared.layers.TheConstants.{EVEN_LINE, BAR, START}
use Rattle.layout_rules.specs.Layers.{is_line}
use Rattle.layout_rules.specs.Reports.{Passes}

-- two parts of one line, or of lines on one layer, share a point
abbrev pub meet : Shape → Shape → Bool
meet a b = is_line a && a.layer == b.layer && share_point a.rect b.rect

-- the second of these numbers is a contact of the first: another shape, which meets it
pub record Contact (shapes : List Shape) (i j : ℕ) : Type 0 where
  pub apart : i ≢ j
  pub first : Shape
  pub second : Shape
  pub first_is : slice_get shapes i ≡ Some first
  pub second_is : slice_get shapes j ≡ Some second
  pub meet_so : meet first second ≡ true

-- the shape of this number is a bar, a link or a start, by its datatype
pub record IsPart (shapes : List Shape) (datatype i : ℕ) : Type 0 where
  pub shape : Shape
  pub shape_is : slice_get shapes i ≡ Some shape
  pub line_so : is_line shape ≡ true
  pub datatype_is : shape.datatype ≡ datatype

-- a chain leads from a start by contacts to its first number
abbrev pub IsChain : List Shape → List ℕ → Type 0
IsChain shapes [] = ⊥
IsChain shapes (a ∷ []) = IsPart shapes START a
IsChain shapes (b ∷ a ∷ rest) = Contact shapes a b × IsChain shapes (a ∷ rest)

-- the shape is joined to a start by contacts
pub record IsReached (shapes : List Shape) (i : ℕ) : Type 0 where
  pub rest : List ℕ
  pub chain : IsChain shapes (i ∷ rest)

-- a shape of this layer
abbrev pub is_on : ℕ → Shape → Bool
is_on layer s = s.layer == layer

-- a layer is one path: it begins at a start, each next shape is a contact of the last, and each shape comes once
pub record IsLine (shapes : List Shape) (layer : ℕ) (path : List ℕ) : Type 0 where
  pub start : 0 < length path → IsPart shapes START (slice_index path 0)
  pub next : (k : ℕ) → suc k < length path → Contact shapes (slice_index path k) (slice_index path (suc k))
  pub within : (k : ℕ) → k < length path → Passes (is_on layer) shapes (slice_index path k)
  pub all : (i : ℕ) → Passes (is_on layer) shapes i → (k : ℕ) × ((k < length path) × (slice_index path k ≡ i))
  pub once : (j k : ℕ) → j < k → k < length path → slice_index path j ≢ slice_index path k

-- some path is that of the layer, and no other
pub record HasOneLine (shapes : List Shape) (layer : ℕ) : Type 0 where
  pub path : List ℕ
  pub line : IsLine shapes layer path
  pub only : (other : List ℕ) → IsLine shapes layer other → other ≡ path

-- shape a is the one before shape b on its line, and so b the one after a
pub record Before (shapes : List Shape) (a b : ℕ) : Type 0 where
  pub layer : ℕ
  pub path : List ℕ
  pub line : IsLine shapes layer path
  pub place : ℕ
  pub within : suc place < length path
  pub first_is : slice_index path place ≡ a
  pub second_is : slice_index path (suc place) ≡ b

-- the shape shares a point with the bar's left edge
abbrev pub at_left : Shape → Shape → Bool
at_left s bar = share_point s.rect (left_edge bar.rect)

-- or with its right one
abbrev pub at_right : Shape → Shape → Bool
at_right s bar = share_point s.rect (right_edge bar.rect)

-- with its left edge and not with its right one
abbrev pub at_left_only : Shape → Shape → Bool
at_left_only s bar = at_left s bar && not (at_right s bar)

-- with its right edge and not with its left one
abbrev pub at_right_only : Shape → Shape → Bool
at_right_only s bar = at_right s bar && not (at_left s bar)

-- the line comes to the bar at one side
abbrev pub enters : Shape → Shape → Bool
enters before bar = at_left_only before bar || at_right_only before bar

-- and goes on at the other
abbrev pub leaves : Shape → Shape → Shape → Bool
leaves before bar after = (if at_left before bar then at_right_only after bar else at_left_only after bar)

-- the phase of a bar, by its layer and by its direction, which is to the right where the line comes to its left edge
abbrev pub phase_of : Shape → Shape → ℕ
phase_of before bar =
    (if bar.layer == EVEN_LINE then (if at_left before bar then 0 else 2) else (if at_left before bar then 1 else 3))

-- b is a bar of this phase
pub record BarHasPhase (shapes : List Shape) (b phase : ℕ) : Type 0 where
  pub is_bar : IsPart shapes BAR b
  pub before : ℕ
  pub before_shape : Shape
  pub before_shape_is : slice_get shapes before ≡ Some before_shape
  pub is_before : Before shapes before b
  pub phase_is : phase_of before_shape is_bar.shape ≡ phase
