-- What the records of a stream say: its structures in order, with their elements in order.
use Rattle.std.specs.Prelude.{ℕ, suc, ◌*◌, ◌==◌, List, [], ◌∷◌, ◌++◌, Bool, true, false, map, take, drop, ℤ}
use Rattle.std.specs.Prelude.{int_le}
use Rattle.std.specs.Int.{w32, from_be_bytes, cast_signed}
use Rattle.geom.specs.Rectangle.{Rectangle}
use Rattle.geom.specs.declared.layout.Element.{Element}
use Rattle.geom.specs.declared.layout.Element.TheVariants.{Box, Place, Text}
use Rattle.geom.specs.declared.layout.Structure.{Structure}
use Rattle.gds_records.specs.declared.codes.TheConstants.{BGNSTR, STRNAME, ENDSTR, BOUNDARY, SREF, LAYER, DATATYPE, XY}
use Rattle.gds_records.specs.declared.codes.TheConstants.{ENDEL, SNAME, STRING}
use Rattle.gds_records.specs.Records.{Record, number, trimmed, same}

-- what follows each BGNSTR
abbrev pub starts : List Record → List (List Record)
starts [] = []
starts (r ∷ rs) = elim (r.kind == BGNSTR) [ true ↦ rs ∷ starts rs | false ↦ starts rs ]

-- the records before the first of this kind
abbrev pub up_to : ℕ → List Record → List Record
up_to kind [] = []
up_to kind (r ∷ rs) = elim (r.kind == kind) [ true ↦ [] | false ↦ r ∷ up_to kind rs ]

-- the parts of a list that end with a record of this kind; what is left behind the last is in none
abbrev pub parts : ℕ → List Record → List Record → List (List Record)
parts stop front [] = []
parts stop front (r ∷ rs) = elim (r.kind == stop) [
  | true ↦ (front ++ r ∷ []) ∷ parts stop [] rs
  | false ↦ parts stop (front ++ r ∷ []) rs
]

-- the content of the first record of this kind
abbrev pub field : ℕ → List Record → List ℕ
field kind [] = []
field kind (r ∷ rs) = elim (r.kind == kind) [ true ↦ r.content | false ↦ field kind rs ]

-- one of the records is of this kind
abbrev pub has : ℕ → List Record → Bool
has kind [] = false
has kind (r ∷ rs) = elim (r.kind == kind) [ true ↦ true | false ↦ has kind rs ]

-- coordinate i of an XY, where x and y of each point take turns
abbrev pub coordinate : List ℕ → ℕ → ℤ
coordinate bytes i = cast_signed w32 (from_be_bytes w32 (take 4 (drop (4 * i) bytes)))

-- the lesser of two coordinates
abbrev pub lesser : ℤ → ℤ → ℤ
lesser a b = elim (int_le a b) [ true ↦ a | false ↦ b ]

-- the greater of two coordinates
abbrev pub greater : ℤ → ℤ → ℤ
greater a b = elim (int_le a b) [ true ↦ b | false ↦ a ]

-- the rectangle between the first corner and the third, which is opposite
abbrev pub box_of : List ℕ → Rectangle
box_of xy = record {
  x0 = lesser (coordinate xy 0) (coordinate xy 4);
  y0 = lesser (coordinate xy 1) (coordinate xy 5);
  x1 = greater (coordinate xy 0) (coordinate xy 4);
  y1 = greater (coordinate xy 1) (coordinate xy 5);
}

-- the first place of a name
abbrev pub place_of : List ℕ → List (List ℕ) → ℕ
place_of name [] = 0
place_of name (n ∷ ns) = elim (same name n) [ true ↦ 0 | false ↦ suc (place_of name ns) ]

-- the element that its records say, where the structures have these names
abbrev pub element_of : List (List ℕ) → List Record → Element
element_of names rs = elim (has BOUNDARY rs) [
  | true ↦ Box (record {
    layer = number (field LAYER rs);
    datatype = number (field DATATYPE rs);
    rect = box_of (field XY rs);
  })
  | false ↦ elim (has SREF rs) [
    | true ↦ Place (place_of (trimmed (field SNAME rs)) names) (coordinate (field XY rs) 0) (coordinate (field XY rs) 1)
    | false ↦ Text (record {
      layer = number (field LAYER rs);
      x = coordinate (field XY rs) 0;
      y = coordinate (field XY rs) 1;
      text = trimmed (field STRING rs);
    })
  ]
]

-- the name of the structure whose BGNSTR these records follow
abbrev pub name_of : List Record → List ℕ
name_of rs = trimmed (field STRNAME rs)

-- the records of each of its elements, which stand between STRNAME and ENDSTR
abbrev pub element_parts : List Record → List (List Record)
element_parts rs = parts ENDEL [] (up_to ENDSTR (drop 1 rs))

-- the structure whose BGNSTR these records follow, where the structures have these names
abbrev pub structure_of : List (List ℕ) → List Record → Structure
structure_of names rs = record { name = name_of rs; elements = map (element_of names) (element_parts rs) }

-- the names of all structures of a stream, in order
abbrev pub names_of : List Record → List (List ℕ)
names_of rs = map name_of (starts rs)

-- all structures of a stream, in order
abbrev pub structures_of : List Record → List Structure
structures_of rs = map (structure_of (names_of rs)) (starts rs)
