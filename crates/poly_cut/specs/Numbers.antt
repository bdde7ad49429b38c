-- The shape or label of a number in a flat form, where labels are counted after all shapes.
use Rattle.std.specs.Prelude.{ℕ, ◌-◌, length, Option, Some, None, slice_get, option_map}
use Rattle.geom.specs.declared.shapes.Shape.{Shape as Box}
use Rattle.geom.specs.declared.shapes.Label.{Label as Tag}
use Rattle.geom.specs.declared.shapes.Flat.{Flat}
use Rattle.poly_cut.specs.declared.numbered.Drawn.{Drawn}
use Rattle.poly_cut.specs.declared.numbered.Drawn.TheVariants.{Shape, Label}

-- the shape, if it is there, and otherwise the label
abbrev pub drawn_of : Option Box → Option Tag → Option Drawn
drawn_of None label = option_map Label label
drawn_of (Some s) label = Some (Shape s)

unfoldable pub drawn_at : Flat → ℕ → Option Drawn
drawn_at flat number =
    drawn_of (slice_get flat.shapes number) (slice_get flat.labels (number - length flat.shapes))
