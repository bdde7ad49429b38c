-- What items add to a flat form, their figures being cut.
use Rattle.std.specs.Prelude.{◌≡◌, ℕ, ◌<◌, ◌++◌, List, [], ◌∷◌, map, length, Option, Some, None, slice_get}
use Rattle.std.specs.List.{flat_map, AllByRecursion}
use Rattle.geom.specs.declared.shapes.Shape.{Shape}
use Rattle.geom.specs.declared.shapes.Label.{Label}
use Rattle.poly_cut.specs.declared.layout.Item.{Item}
use Rattle.poly_cut.specs.declared.layout.WideStructure.{WideStructure}
use Rattle.poly_cut.specs.declared.ready.Ready.{Ready}
use Rattle.poly_cut.specs.declared.ready.Ready.TheVariants.{Boxed, Drawn, Placed, Shown}
use Rattle.poly_cut.specs.Turns.{placed_shape, placed_label, grid_points}
use Rattle.poly_cut.specs.Conditions.{IsPlaced}
use Rattle.poly_cut.specs.FlatForm.{shape, item_shapes, item_labels, shapes_of, labels_of, items_at, DEPTH}

-- the shapes that it adds, where these are the shapes of each structure
abbrev pub ready_shapes : (ℕ → List Shape) → Ready → List Shape
ready_shapes of (Boxed s) = s ∷ []
ready_shapes of (Drawn layer datatype rects) = map (shape layer datatype) rects
ready_shapes of (Placed n at turn grid) = flat_map (λ p. map (placed_shape turn p) (of n)) (grid_points at grid)
ready_shapes of (Shown l) = []

-- and the labels
abbrev pub ready_labels : (ℕ → List Label) → Ready → List Label
ready_labels of (Boxed s) = []
ready_labels of (Drawn layer datatype rects) = []
ready_labels of (Placed n at turn grid) = flat_map (λ p. map (placed_label turn p) (of n)) (grid_points at grid)
ready_labels of (Shown l) = l ∷ []

-- a placement among this many structures is one
abbrev pub IsReady : ℕ → Ready → Type 0
IsReady count (Boxed s) = Unit {0}
IsReady count (Drawn layer datatype rects) = Unit {0}
IsReady count (Placed n at turn grid) = IsPlaced count n at turn grid
IsReady count (Shown l) = Unit {0}

-- it adds these shapes and nothing else
pub record IsDrawing (shapes : List Shape) (ready : Ready) : Type 0 where
  pub same : (of : ℕ → List Shape) → ready_shapes of ready ≡ shapes
  pub none : (of : ℕ → List Label) → ready_labels of ready ≡ []
  pub each : (count : ℕ) → IsReady count ready

-- it adds what the item adds, among this many structures
pub record AddsItem (count : ℕ) (item : Item) (ready : Ready) : Type 0 where
  pub shapes : (of : ℕ → List Shape) → ready_shapes of ready ≡ item_shapes of item
  pub labels : (of : ℕ → List Label) → ready_labels of ready ≡ item_labels of item
  pub each : IsReady count ready

-- the item adds nothing
pub record AddsNothing (ss : List WideStructure) (item : Item) : Type 0 where
  pub shapes : (depth : ℕ) → depth < DEPTH → item_shapes (shapes_of depth ss) item ≡ []
  pub labels : (depth : ℕ) → depth < DEPTH → item_labels (labels_of depth ss) item ≡ []

-- what the item adds, if it adds anything
abbrev pub IsReadied : List WideStructure → Item → Option Ready → Type 0
IsReadied ss item None = AddsNothing ss item
IsReadied ss item (Some ready) = AddsItem (length ss) item ready

-- these add what the items add
pub record AddsAs (ss : List WideStructure) (items : List Item) (ready : List Ready) : Type 0 where
  pub shapes : (depth : ℕ) → depth < DEPTH
      → flat_map (ready_shapes (shapes_of depth ss)) ready ≡ flat_map (item_shapes (shapes_of depth ss)) items
  pub labels : (depth : ℕ) → depth < DEPTH
      → flat_map (ready_labels (labels_of depth ss)) ready ≡ flat_map (item_labels (labels_of depth ss)) items
  pub each : AllByRecursion (IsReady (length ss)) ready

-- the second list adds what the first one adds, and then what the item adds
pub record GainsItem (ss : List WideStructure) (item : Item) (old new : List Ready) : Type 0 where
  pub shapes : (depth : ℕ) → depth < DEPTH
      → flat_map (ready_shapes (shapes_of depth ss)) new
      ≡ flat_map (ready_shapes (shapes_of depth ss)) old ++ item_shapes (shapes_of depth ss) item
  pub labels : (depth : ℕ) → depth < DEPTH
      → flat_map (ready_labels (labels_of depth ss)) new
      ≡ flat_map (ready_labels (labels_of depth ss)) old ++ item_labels (labels_of depth ss) item
  pub each : AllByRecursion (IsReady (length ss)) old → AllByRecursion (IsReady (length ss)) new

-- an entry of the table, where there is one, adds what the items add
abbrev pub IsEntry : List WideStructure → List Item → Option (List Ready) → Type 0
IsEntry ss items None = Unit {0}
IsEntry ss items (Some ready) = AddsAs ss items ready

-- the table has an entry for each structure, in order
abbrev pub IsTable : List WideStructure → List (Option (List Ready)) → Type 0
IsTable ss table =
    (n : ℕ) (entry : Option (List Ready)) → slice_get table n ≡ Some entry → IsEntry ss (items_at ss n) entry
