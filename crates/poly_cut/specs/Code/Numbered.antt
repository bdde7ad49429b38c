-- On the way down to the shape or label of a number.
use Rattle.std.specs.Prelude.{◌≡◌, ℕ, ◌+◌, ◌/◌, ◌%◌, ◌<◌, ◌≤◌, List, false, length, take, sum_by, slice_get}
use Rattle.std.specs.Prelude.{Option, Some, None}
use Rattle.geom.specs.declared.shapes.Shape.{Shape}
use Rattle.geom.specs.declared.shapes.Label.{Label}
use Rattle.poly_cut.specs.declared.layout.Point.{Point}
use Rattle.poly_cut.specs.declared.layout.Item.{Item}
use Rattle.poly_cut.specs.declared.layout.WideStructure.{WideStructure}
use Rattle.poly_cut.specs.declared.numbered.Spot.{Spot}
use Rattle.poly_cut.specs.declared.numbered.Copied.{Copied}
use Rattle.poly_cut.specs.Conditions.{goes_down}
use Rattle.poly_cut.specs.FlatForm.{shapes_of, labels_of, DEPTH}

-- the shapes of structure n, down all chains
unfoldable pub all_shapes : List WideStructure → ℕ → List Shape
all_shapes ss n = shapes_of DEPTH ss n

-- and its labels
unfoldable pub all_labels : List WideStructure → ℕ → List Label
all_labels ss n = labels_of DEPTH ss n

-- no chain goes down farther
unfoldable pub AreShort : List WideStructure → Type 0
AreShort ss = (n : ℕ) → goes_down DEPTH ss n ≡ false

-- no chain of so many references goes down from structure n
unfoldable pub EndsWithin : ℕ → List WideStructure → ℕ → Type 0
EndsWithin depth ss n = goes_down depth ss n ≡ false

-- the items before this one have so many less than the number, and it has more than are left, by the size of items
pub record IsIn (size : Item → ℕ) (items : List Item) (number : ℕ) (spot : Spot) : Type 0 where
  pub stands : spot.item < length items
  pub before : sum_by size (take spot.item items) + spot.number ≡ number
  pub within : (item : Item) → slice_get items spot.item ≡ Some item → spot.number < size item

-- where the one of the number is, if the items have so many
abbrev pub IsSpot : (Item → ℕ) → List Item → ℕ → Option Spot → Type 0
IsSpot size items number None = sum_by size items ≤ number
IsSpot size items number (Some spot) = IsIn size items number spot

-- where each of the points has so many, at which of them the one of the number is, and its number there
pub record IsCopied (points : List Point) (count number : ℕ) (copied : Copied) : Type 0 where
  pub at : slice_get points (number / count) ≡ Some copied.point
  pub left : copied.number ≡ number % count
