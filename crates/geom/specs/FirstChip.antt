-- The first chip: a buffer in each of two rows, and one wire between them.
use Rattle.std.specs.Prelude.{ℕ, ℤ, pos, negsuc, List, [], ◌∷◌}
use Rattle.geom.specs.declared.shapes.Shape.{Shape}
use Rattle.geom.specs.declared.shapes.Label.{Label}
use Rattle.geom.specs.declared.shapes.Flat.{Flat}
use Rattle.geom.specs.declared.layout.Element.TheVariants.{Box, Place, Text}
use Rattle.geom.specs.declared.layout.Structure.{Structure}
use Rattle.geom.specs.declared.layout.Layout.{Layout}

-- a rectangle of a layer and a datatype
abbrev pub drawn : ℕ → ℕ → ℤ → ℤ → ℤ → ℤ → Shape
drawn layer datatype x0 y0 x1 y1 =
    record { layer = layer; datatype = datatype; rect = record { x0 = x0; y0 = y0; x1 = x1; y1 = y1 } }

-- a label of the label layer
abbrev pub labelled : ℤ → ℤ → List ℕ → Label
labelled x y text = record { layer = 30; x = x; y = y; text = text }

-- the structure BUF: frame, input pin and output pin of a buffer
unfoldable pub first_buffer : Structure
first_buffer = record {
  name = 66 ∷ 85 ∷ 70 ∷ [];
  elements =
      Box (drawn 20 1 (pos 0) (pos 0) (pos 8000) (pos 10000))
      ∷ Box (drawn 21 0 (pos 2500) (pos 0) (pos 3500) (pos 1000))
      ∷ Box (drawn 22 0 (pos 4500) (pos 9000) (pos 5500) (pos 10000))
      ∷ [];
}

-- the structure TOP: the two buffers, the excitation lines, the wire, and the labels I0 and O0
unfoldable pub first_top : Structure
first_top = record {
  name = 84 ∷ 79 ∷ 80 ∷ [];
  elements =
      Place 0 (pos 0) (pos 0)
      ∷ Box (drawn 14 2 (negsuc 3999) (pos 0) (pos 0) (pos 10000))
      ∷ Box (drawn 14 0 (pos 0) (pos 0) (pos 8000) (pos 10000))
      ∷ Box (drawn 10 0 (pos 4500) (pos 9000) (pos 5500) (pos 12500))
      ∷ Box (drawn 10 0 (pos 2500) (pos 11500) (pos 3500) (pos 15000))
      ∷ Box (drawn 12 0 (pos 2500) (pos 11500) (pos 5500) (pos 12500))
      ∷ Box (drawn 11 0 (pos 4700) (pos 11700) (pos 5300) (pos 12300))
      ∷ Box (drawn 11 0 (pos 2700) (pos 11700) (pos 3300) (pos 12300))
      ∷ Place 0 (pos 0) (pos 14000)
      ∷ Box (drawn 15 2 (negsuc 3999) (pos 14000) (pos 0) (pos 24000))
      ∷ Box (drawn 15 0 (pos 0) (pos 14000) (pos 8000) (pos 24000))
      ∷ Text (labelled (pos 3000) (pos 500) (73 ∷ 48 ∷ []))
      ∷ Text (labelled (pos 5000) (pos 23500) (79 ∷ 48 ∷ []))
      ∷ [];
}

unfoldable pub first_layout : Layout
first_layout = record { structures = first_buffer ∷ first_top ∷ []; top = 1 }

-- its flat form: shapes 0 to 14, and the labels 15 and 16
unfoldable pub first_flat : Flat
first_flat = record {
  shapes =
      drawn 20 1 (pos 0) (pos 0) (pos 8000) (pos 10000)
      ∷ drawn 21 0 (pos 2500) (pos 0) (pos 3500) (pos 1000)
      ∷ drawn 22 0 (pos 4500) (pos 9000) (pos 5500) (pos 10000)
      ∷ drawn 14 2 (negsuc 3999) (pos 0) (pos 0) (pos 10000)
      ∷ drawn 14 0 (pos 0) (pos 0) (pos 8000) (pos 10000)
      ∷ drawn 10 0 (pos 4500) (pos 9000) (pos 5500) (pos 12500)
      ∷ drawn 10 0 (pos 2500) (pos 11500) (pos 3500) (pos 15000)
      ∷ drawn 12 0 (pos 2500) (pos 11500) (pos 5500) (pos 12500)
      ∷ drawn 11 0 (pos 4700) (pos 11700) (pos 5300) (pos 12300)
      ∷ drawn 11 0 (pos 2700) (pos 11700) (pos 3300) (pos 12300)
      ∷ drawn 20 1 (pos 0) (pos 14000) (pos 8000) (pos 24000)
      ∷ drawn 21 0 (pos 2500) (pos 14000) (pos 3500) (pos 15000)
      ∷ drawn 22 0 (pos 4500) (pos 23000) (pos 5500) (pos 24000)
      ∷ drawn 15 2 (negsuc 3999) (pos 14000) (pos 0) (pos 24000)
      ∷ drawn 15 0 (pos 0) (pos 14000) (pos 8000) (pos 24000)
      ∷ [];
  labels = labelled (pos 3000) (pos 500) (73 ∷ 48 ∷ []) ∷ labelled (pos 5000) (pos 23500) (79 ∷ 48 ∷ []) ∷ [];
}
