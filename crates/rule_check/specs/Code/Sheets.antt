-- Sheets: the shapes of a layout by kinds, of which each is filed by planes.
use Rattle.std.specs.Prelude.{◌≡◌, ℕ, ◌<◌, ◌^◌, List, length, slice_get, Some}
use Rattle.geom.specs.Rectangle.{IsProper}
use Rattle.geom.specs.declared.shapes.Shape.{Shape}
use Rattle.shape_extract.specs.Distinct.{IsDistinct, kinds_at}
use Rattle.shape_extract.specs.Planes.{ArePlanes}
use Rattle.shape_extract.specs.declared.filed_shapes.FiledShapes.{FiledShapes}

-- each of the shapes is proper
abbrev pub HaveSides : List Shape → Type 0
HaveSides shapes = (n : ℕ) (s : Shape) → slice_get shapes n ≡ Some s → IsProper s.rect

-- the sheet has each different shape of the layout once, fewer than 2^32 in all, filed by planes
pub record IsSheet (all : List Shape) (sheet : FiledShapes) : Type 0 where
  pub distinct : IsDistinct all sheet.kinds.numbers.items (kinds_at all sheet.kinds.numbers.items)
  pub few : length (kinds_at all sheet.kinds.numbers.items) < 2 ^ 32
  pub filed : ArePlanes (kinds_at all sheet.kinds.numbers.items) sheet.planes
