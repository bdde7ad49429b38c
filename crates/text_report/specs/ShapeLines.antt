-- The line of a shape or a label: its number, its layer and where it lies, in database units of one nanometre.
use Rattle.std.specs.Prelude.{ℕ, ◌-◌, List, [], ◌++◌, codes, length, Option, Some, None, slice_get, ℤ}
use Rattle.std.specs.Fmt.{decimal, signed_decimal}
use Rattle.geom.specs.Rectangle.{Rectangle}
use Rattle.geom.specs.declared.shapes.Shape.{Shape}
use Rattle.geom.specs.declared.shapes.Label.{Label}
use Rattle.geom.specs.declared.shapes.Flat.{Flat}

-- a point, x first
abbrev pub point_text : ℤ → ℤ → List ℕ
point_text x y = signed_decimal x ++ codes " " ++ signed_decimal y

-- the number, layer and datatype of a shape
unfoldable pub box_head : ℕ → ℕ → ℕ → List ℕ
box_head number layer datatype =
    codes "shape " ++ decimal number
    ++ codes " layer " ++ decimal layer
    ++ codes " datatype " ++ decimal datatype ++ codes " box "

-- its lower left corner and its upper right corner
unfoldable pub corners_text : Rectangle → List ℕ
corners_text r = point_text r.x0 r.y0 ++ codes " " ++ point_text r.x1 r.y1

-- the line of a shape of this number
unfoldable pub box_line : ℕ → Shape → List ℕ
box_line number shape = box_head number shape.layer shape.datatype ++ corners_text shape.rect ++ codes "\n"

-- the number and layer of a label
unfoldable pub label_head : ℕ → ℕ → List ℕ
label_head number layer = codes "label " ++ decimal number ++ codes " layer " ++ decimal layer ++ codes " at "

-- the line of a label of this number
unfoldable pub label_line : ℕ → Label → List ℕ
label_line number label = label_head number label.layer ++ point_text label.x label.y ++ codes "\n"

-- the line of a label that may be there
abbrev pub label_line_of : ℕ → Option Label → List ℕ
label_line_of number None = []
label_line_of number (Some label) = label_line number label

-- the line of a shape that may be there, and otherwise of the label
abbrev pub line_of : ℕ → Option Shape → Option Label → List ℕ
line_of number None label = label_line_of number label
line_of number (Some shape) label = box_line number shape

-- the line of the shape or label of this number, where labels are counted after all shapes
unfoldable pub shape_line : Flat → ℕ → List ℕ
shape_line flat number =
    line_of number (slice_get flat.shapes number) (slice_get flat.labels (number - length flat.shapes))
