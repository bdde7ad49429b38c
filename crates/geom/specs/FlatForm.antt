-- The flat form of a layout: its shapes and labels without references (GDSII Stream Format manual: a structure
-- reference stands for what the named structure holds, moved).
use Rattle.std.specs.Prelude.{ℕ, ℤ, ◌+ℤ◌, ◌+◌, List, [], ◌∷◌, ◌++◌, map, length, Option, Some, None, slice_get}
use Rattle.geom.specs.Rectangle.{moved}
use Rattle.geom.specs.declared.shapes.Shape.{Shape}
use Rattle.geom.specs.declared.shapes.Label.{Label}
use Rattle.geom.specs.declared.shapes.Flat.{Flat}
use Rattle.geom.specs.declared.layout.Element.{Element}
use Rattle.geom.specs.declared.layout.Element.TheVariants.{Box, Place, Text}
use Rattle.geom.specs.declared.layout.Structure.{Structure}
use Rattle.geom.specs.declared.layout.Layout.{Layout}

abbrev pub moved_shape : ℤ → ℤ → Shape → Shape
moved_shape x y s = record { layer = s.layer; datatype = s.datatype; rect = moved x y s.rect }

abbrev pub moved_label : ℤ → ℤ → Label → Label
moved_label x y l = record { layer = l.layer; x = l.x +ℤ x; y = l.y +ℤ y; text = l.text }

-- the shapes that stand among the elements themselves
abbrev pub own_shapes : List Element → List Shape
own_shapes [] = []
own_shapes (Box s ∷ es) = s ∷ own_shapes es
own_shapes (Place n x y ∷ es) = own_shapes es
own_shapes (Text l ∷ es) = own_shapes es

-- the labels that stand among the elements themselves
abbrev pub own_labels : List Element → List Label
own_labels [] = []
own_labels (Box s ∷ es) = own_labels es
own_labels (Place n x y ∷ es) = own_labels es
own_labels (Text l ∷ es) = l ∷ own_labels es

-- the elements of a structure, and none where there is no structure
abbrev pub elements_in : Option Structure → List Element
elements_in None = []
elements_in (Some s) = s.elements

abbrev pub elements_at : List Structure → ℕ → List Element
elements_at ss n = elements_in (slice_get ss n)

-- the shapes of the elements, where a reference stands for the shapes of its structure
abbrev pub flat_shapes : List Structure → List Element → List Shape
flat_shapes ss [] = []
flat_shapes ss (Box s ∷ es) = s ∷ flat_shapes ss es
flat_shapes ss (Place n x y ∷ es) = map (moved_shape x y) (own_shapes (elements_at ss n)) ++ flat_shapes ss es
flat_shapes ss (Text l ∷ es) = flat_shapes ss es

-- the labels of the elements, where a reference stands for the labels of its structure
abbrev pub flat_labels : List Structure → List Element → List Label
flat_labels ss [] = []
flat_labels ss (Box s ∷ es) = flat_labels ss es
flat_labels ss (Place n x y ∷ es) = map (moved_label x y) (own_labels (elements_at ss n)) ++ flat_labels ss es
flat_labels ss (Text l ∷ es) = l ∷ flat_labels ss es

-- the flat form: that of the top structure's elements
unfoldable pub flat_of : Layout → Flat
flat_of layout = record {
  shapes = flat_shapes layout.structures (elements_at layout.structures layout.top);
  labels = flat_labels layout.structures (elements_at layout.structures layout.top);
}

-- how many shapes and labels a flat form may have together, to be read
abbrev pub shape_limit : ℕ
shape_limit = 8000000

-- how many it has together
abbrev pub flat_count : Flat → ℕ
flat_count flat = length flat.shapes + length flat.labels
