-- The flat form of a wide layout, and the set of squares of each structure (GDSII Stream Format manual: a reference
-- stands for what the named structure holds, at each point of its grid).
use Rattle.std.specs.Prelude.{ℕ, zero, suc, ◌==◌, ◌&&◌, ◌||◌, List, [], ◌∷◌, Bool, true, false, map, Option, Some, None}
use Rattle.std.specs.Prelude.{slice_get, ℤ}
use Rattle.std.specs.List.{flat_map, AllByRecursion}
use Rattle.geom.specs.Rectangle.{Rectangle}
use Rattle.geom.specs.declared.shapes.Shape.{Shape}
use Rattle.geom.specs.declared.shapes.Label.{Label}
use Rattle.geom.specs.declared.shapes.Flat.{Flat}
use Rattle.poly_cut.specs.declared.layout.Point.{Point}
use Rattle.poly_cut.specs.declared.layout.Item.{Item}
use Rattle.poly_cut.specs.declared.layout.Item.TheVariants.{Draw, Place, Text}
use Rattle.poly_cut.specs.declared.layout.WideStructure.{WideStructure}
use Rattle.poly_cut.specs.declared.layout.WideLayout.{WideLayout}
use Rattle.poly_cut.specs.declared.layout.Figure.TheVariants.{Ring, Path}
use Rattle.poly_cut.specs.Figures.{cut_of, figure_holds, IsRound}
use Rattle.poly_cut.specs.Turns.{turned_set, moved_set, placed_shape, placed_label, grid_points}

-- the items of a structure, and none where there is no structure
abbrev pub items_in : Option WideStructure → List Item
items_in None = []
items_in (Some s) = s.items

-- the items of structure n
abbrev pub items_at : List WideStructure → ℕ → List Item
items_at ss n = items_in (slice_get ss n)

-- a rectangle on a layer and datatype
abbrev pub shape : ℕ → ℕ → Rectangle → Shape
shape layer datatype r = record { layer = layer; datatype = datatype; rect = r }

-- the shapes of an item, where these are the shapes of each structure
abbrev pub item_shapes : (ℕ → List Shape) → Item → List Shape
item_shapes of (Draw layer datatype f) = map (shape layer datatype) (cut_of f)
item_shapes of (Place n at turn grid) = flat_map (λ p. map (placed_shape turn p) (of n)) (grid_points at grid)
item_shapes of (Text l) = []

-- and its labels, where these are the labels of each structure
abbrev pub item_labels : (ℕ → List Label) → Item → List Label
item_labels of (Draw layer datatype f) = []
item_labels of (Place n at turn grid) = flat_map (λ p. map (placed_label turn p) (of n)) (grid_points at grid)
item_labels of (Text l) = l ∷ []

-- the shapes of structure n, and of those to which chains of fewer references than this lead from it
abbrev pub shapes_of : ℕ → List WideStructure → ℕ → List Shape
shapes_of zero ss n = []
shapes_of (suc depth) ss n = flat_map (item_shapes (shapes_of depth ss)) (items_at ss n)

-- and their labels
abbrev pub labels_of : ℕ → List WideStructure → ℕ → List Label
labels_of zero ss n = []
labels_of (suc depth) ss n = flat_map (item_labels (labels_of depth ss)) (items_at ss n)

-- a chain has at most 64 references, and so at most 65 structures
abbrev pub DEPTH : ℕ
DEPTH = 65

-- the flat form: that of the top structure
unfoldable pub wide_flat : WideLayout → Flat
wide_flat w = record { shapes = shapes_of DEPTH w.structures w.top; labels = labels_of DEPTH w.structures w.top }

-- ---- the squares of a layer and datatype

-- some of the points passes the test
abbrev pub some_point : (Point → Bool) → List Point → Bool
some_point test [] = false
some_point test (p ∷ ps) = test p || some_point test ps

-- what an item holds, where these are the sets of each structure
abbrev pub item_holds : (ℕ → ℤ → ℤ → Bool) → ℕ → ℕ → Item → ℤ → ℤ → Bool
item_holds of layer datatype (Draw l d f) i j = (l == layer && d == datatype) && figure_holds f i j
item_holds of layer datatype (Place n at turn grid) i j =
    some_point (λ p. moved_set p (turned_set turn (of n)) i j) (grid_points at grid)
item_holds of layer datatype (Text l) i j = false

-- what some of the items holds
abbrev pub items_hold : (ℕ → ℤ → ℤ → Bool) → ℕ → ℕ → List Item → ℤ → ℤ → Bool
items_hold of layer datatype [] i j = false
items_hold of layer datatype (e ∷ es) i j = item_holds of layer datatype e i j || items_hold of layer datatype es i j

-- a structure holds what some item of it holds
abbrev pub structure_holds : ℕ → List WideStructure → ℕ → ℕ → ℕ → ℤ → ℤ → Bool
structure_holds zero ss layer datatype n i j = false
structure_holds (suc depth) ss layer datatype n i j =
    items_hold (structure_holds depth ss layer datatype) layer datatype (items_at ss n) i j

-- the rectangles of a layer and datatype
abbrev pub rects_on : ℕ → ℕ → List Shape → List Rectangle
rects_on layer datatype [] = []
rects_on layer datatype (s ∷ ss) = elim (s.layer == layer && s.datatype == datatype) [
  | true ↦ s.rect ∷ rects_on layer datatype ss
  | false ↦ rects_on layer datatype ss
]

-- the ring of an item goes round
abbrev pub IsRoundItem : Item → Type 0
IsRoundItem (Draw layer datatype (Ring ps)) = IsRound ps
IsRoundItem (Draw layer datatype (Path extended half ps)) = Unit {0}
IsRoundItem (Place n at turn grid) = Unit {0}
IsRoundItem (Text l) = Unit {0}

-- all rings of a layout go round
abbrev pub AreRound : List WideStructure → Type 0
AreRound ss = AllByRecursion (λ s. AllByRecursion IsRoundItem s.items) ss
