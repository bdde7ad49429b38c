-- What the records of a wide stream say.
use Rattle.std.specs.Prelude.{ℕ, ◌+◌, ◌*◌, ◌/◌, ◌^◌, ◌<◌, ◌==◌, ◌||◌, List, true, false, map, Some, None, pos, ◌-ℤ◌}
use Rattle.std.specs.Prelude.{nat_abs, int_div}
use Rattle.poly_cut.specs.declared.layout.Point.{Point}
use Rattle.poly_cut.specs.declared.layout.Figure.{Figure}
use Rattle.poly_cut.specs.declared.layout.Figure.TheVariants.{Ring, Path}
use Rattle.poly_cut.specs.declared.layout.Turn.{Turn}
use Rattle.poly_cut.specs.declared.layout.Grid.{Grid}
use Rattle.poly_cut.specs.declared.layout.Item.{Item}
use Rattle.poly_cut.specs.declared.layout.Item.TheVariants.{Draw, Place, Text}
use Rattle.poly_cut.specs.declared.layout.WideStructure.{WideStructure}
use Rattle.poly_cut.specs.Turns.{point}
use Rattle.gds_records.specs.declared.codes.TheConstants.{BOUNDARY, PATH, SREF, AREF, LAYER, DATATYPE, XY, SNAME}
use Rattle.gds_records.specs.declared.codes.TheConstants.{STRING, STRANS, ANGLE, PATHTYPE, WIDTH, COLROW}
use Rattle.gds_records.specs.Records.{Record, number, trimmed}
use Rattle.std.specs.List.{AllByRecursion}
use Rattle.gds_records.specs.Values.{unsigned_value, at}
use Rattle.gds_records.specs.Drawing.{starts, field, has, coordinate, place_of, name_of, names_of, element_parts}
use Rattle.gds_records.specs.WideValues.{points, turns, quarters, columns, rows}

-- point i of an XY
abbrev pub point_at : List ℕ → ℕ → Point
point_at xy i = point (coordinate xy (2 * i)) (coordinate xy (2 * i + 1))

-- the step that leads from p to q in n times
abbrev pub step : ℕ → Point → Point → Point
step n p q = point (int_div (q.x -ℤ p.x) (pos n)) (int_div (q.y -ℤ p.y) (pos n))

-- how a reference is turned: STRANS says whether it is mirrored, ANGLE the quarter turns; without them it is not
abbrev pub turn_of : List Record → Turn
turn_of rs = record {
  mirror = unsigned_value 0 (field STRANS rs) == 0x8000;
  quarter = elim (quarters (field ANGLE rs)) [ Some n ↦ n | None ↦ 0 ];
}

-- where a reference repeats its structure: an AREF by its columns and rows, an SREF at its own point alone
abbrev pub grid_of : List Record → Grid
grid_of rs = elim (has COLROW rs) [
  | true ↦ record {
    columns = columns (field COLROW rs);
    rows = rows (field COLROW rs);
    column_step = step (columns (field COLROW rs)) (point_at (field XY rs) 0) (point_at (field XY rs) 1);
    row_step = step (rows (field COLROW rs)) (point_at (field XY rs) 0) (point_at (field XY rs) 2);
  }
  | false ↦ record { columns = 1; rows = 1; column_step = point (pos 0) (pos 0); row_step = point (pos 0) (pos 0) }
]

-- what a boundary or a path draws; a path's ends are extended with PATHTYPE 2, and half its WIDTH is kept
abbrev pub figure_of : List Record → Figure
figure_of rs = elim (has BOUNDARY rs) [
  | true ↦ Ring (points (field XY rs))
  | false ↦ Path
      (unsigned_value 0 (field PATHTYPE rs) == 2)
      (nat_abs (coordinate (field WIDTH rs) 0) / 2)
      (turns (points (field XY rs)))
]

-- the item that an element's records say, where the structures have these names
abbrev pub item_of : List (List ℕ) → List Record → Item
item_of names rs = elim (has BOUNDARY rs || has PATH rs) [
  | true ↦ Draw (number (field LAYER rs)) (number (field DATATYPE rs)) (figure_of rs)
  | false ↦ elim (has SREF rs || has AREF rs) [
    | true ↦ Place (place_of (trimmed (field SNAME rs)) names) (point_at (field XY rs) 0) (turn_of rs) (grid_of rs)
    | false ↦ Text (record {
      layer = number (field LAYER rs);
      x = coordinate (field XY rs) 0;
      y = coordinate (field XY rs) 1;
      text = trimmed (field STRING rs);
    })
  ]
]

-- the structure whose BGNSTR these records follow, where the structures have these names
abbrev pub wide_structure_of : List (List ℕ) → List Record → WideStructure
wide_structure_of names rs = record { name = name_of rs; items = map (item_of names) (element_parts rs) }

-- all structures of a wide stream, in order
abbrev pub wide_structures_of : List Record → List WideStructure
wide_structures_of rs = map (wide_structure_of (names_of rs)) (starts rs)

-- numbers of four bytes
abbrev pub AreFit : List Record → Type 0
AreFit rs = AllByRecursion (λ r. (k : ℕ) → at r.content k < 2 ^ 32) rs
