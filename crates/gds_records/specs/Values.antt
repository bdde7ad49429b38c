-- The values that a record must have, after the records before it (GDSII Stream Format manual; that a database unit is
-- one nanometre, that boundaries are rectangles and that references are not turned is this project's own profile).
use Rattle.std.specs.Prelude.{ℕ, ◌+◌, ◌*◌, ◌==◌, ◌&&◌, ◌||◌, not, cond, nat_lt, List, [], ◌∷◌, Bool, true, false}
use Rattle.std.specs.Prelude.{length, take, drop, slice_index, Option, Some, None}
use Rattle.std.specs.Int.{w32, from_be_bytes}
use Rattle.gds_records.specs.declared.fault.StreamKind.{StreamKind}
use Rattle.gds_records.specs.declared.fault.StreamKind.TheVariants.{Value, Unsupported, NotRectangle}
use Rattle.gds_records.specs.declared.codes.TheConstants.{LIBNAME, UNITS, STRNAME, BOUNDARY, SREF, TEXT, XY, SNAME}
use Rattle.gds_records.specs.declared.codes.TheConstants.{STRING, STRANS}
use Rattle.gds_records.specs.Records.{Record, trimmed, same}

-- BOUNDARY, SREF or TEXT, whichever came last
abbrev pub opener : ℕ → List Record → ℕ
opener last [] = last
opener last (r ∷ rs) = elim (r.kind == BOUNDARY || r.kind == SREF || r.kind == TEXT) [
  | true ↦ opener r.kind rs
  | false ↦ opener last rs
]

-- a structure before has this name
abbrev pub is_structure_name : List ℕ → List Record → Bool
is_structure_name name [] = false
is_structure_name name (r ∷ rs) = r.kind == STRNAME && same name (trimmed r.content) || is_structure_name name rs

-- one of the bytes is zero
abbrev pub holds_zero : List ℕ → Bool
holds_zero [] = false
holds_zero (b ∷ bs) = b == 0 || holds_zero bs

-- a text holds no zero byte before its last other byte
abbrev pub is_text : List ℕ → Bool
is_text content = not (holds_zero (trimmed content))

-- a name is a text with at least one byte
abbrev pub is_name : List ℕ → Bool
is_name content = not (length (trimmed content) == 0) && is_text content

-- the number in these bytes, without sign
abbrev pub unsigned_value : ℕ → List ℕ → ℕ
unsigned_value so_far [] = so_far
unsigned_value so_far (b ∷ bs) = unsigned_value (so_far * 256 + b) bs

-- the second real of UNITS is one nanometre in metres, with room for rounding
abbrev pub is_nanometre : List ℕ → Bool
is_nanometre content = slice_index content 8 == 0x39
    && not (nat_lt (unsigned_value 0 (drop 9 content)) 0x44B82FA0000000)
    && nat_lt (unsigned_value 0 (drop 9 content)) 0x44B82FA1000000

-- coordinate i of an XY, as its bits
abbrev pub at : List ℕ → ℕ → ℕ
at xy i = from_be_bytes w32 (take 4 (drop (4 * i) xy))

-- points i and j have one x, or one y
abbrev pub one_x : List ℕ → ℕ → ℕ → Bool
one_x xy i j = at xy (2 * i) == at xy (2 * j)

-- points i and j have one y
abbrev pub one_y : List ℕ → ℕ → ℕ → Bool
one_y xy i j = at xy (2 * i + 1) == at xy (2 * j + 1)

-- five points, the last the first; the first and the third differ in x and in y; and the four go round along y and x in
-- turn
abbrev pub is_rectangle : List ℕ → Bool
is_rectangle xy =
    length xy == 40 && one_x xy 0 4 && one_y xy 0 4 && not (one_x xy 0 2) && not (one_y xy 0 2)
    && (one_y xy 0 1 && one_x xy 1 2 && one_y xy 2 3 && one_x xy 3 0
    || one_x xy 0 1 && one_y xy 1 2 && one_x xy 2 3 && one_y xy 3 0)

-- the values of records but a reference's STRANS and a boundary's XY; a structure's name may not be taken
abbrev pub has_value : Bool → Record → Bool
has_value taken r =
    cond (r.kind == LIBNAME || r.kind == STRING) (is_text r.content)
    (cond (r.kind == UNITS) (is_nanometre r.content)
    (cond (r.kind == STRNAME) (is_name r.content && not taken)
    (cond (r.kind == SNAME) (is_name r.content)
    (cond (r.kind == XY) (length r.content == 8) true))))

-- where it speaks of the record, its test or this fault; otherwise what else is wrong
abbrev pub rule : Bool → Bool → StreamKind → Option StreamKind → Option StreamKind
rule true true k others = None
rule true false k others = Some k
rule false good k others = others

-- what is wrong with a record's value in an element that this record opened
abbrev pub value_fault_in : ℕ → Bool → Record → Option StreamKind
value_fault_in element taken r =
    rule (r.kind == STRANS && element == SREF) (unsigned_value 0 r.content == 0) Unsupported
    (rule (r.kind == XY && element == BOUNDARY) (is_rectangle r.content) NotRectangle
    (rule true (has_value taken r) Value None))
