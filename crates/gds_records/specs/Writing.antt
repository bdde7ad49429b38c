-- The writer's one spelling of a layout: no optional records, the dates of 1970, and nothing after ENDLIB.
use Rattle.std.specs.Prelude.{ℕ, ◌%◌, List, [], ◌∷◌, ◌++◌, ◌==◌, if◌then◌else◌, length, ℤ, slice_index_or}
use Rattle.std.specs.List.{flat_map}
use Rattle.std.specs.Int.{w16, w32, to_be_bytes, cast_unsigned}
use Rattle.geom.specs.Rectangle.{Rectangle}
use Rattle.geom.specs.Writable.{names_in}
use Rattle.geom.specs.declared.layout.Element.{Element}
use Rattle.geom.specs.declared.layout.Element.TheVariants.{Box, Place, Text}
use Rattle.geom.specs.declared.layout.Structure.{Structure}
use Rattle.geom.specs.declared.layout.Layout.{Layout}
use Rattle.gds_records.specs.declared.codes.TheConstants.{HEADER, BGNLIB, LIBNAME, UNITS, ENDLIB, BGNSTR, STRNAME}
use Rattle.gds_records.specs.declared.codes.TheConstants.{ENDSTR, BOUNDARY, SREF, TEXT, LAYER, DATATYPE, XY, ENDEL}
use Rattle.gds_records.specs.declared.codes.TheConstants.{SNAME, TEXTTYPE, STRING, NO_DATA, TWO_BYTE_INTEGER}
use Rattle.gds_records.specs.declared.codes.TheConstants.{FOUR_BYTE_INTEGER, EIGHT_BYTE_REAL, ASCII_STRING}
use Rattle.gds_records.specs.Records.{Record, record_with, spelled}

-- a number below 65,536 as two bytes, the high one first
abbrev pub two_bytes : ℕ → List ℕ
two_bytes n = to_be_bytes w16 n

-- a signed number as four bytes of two's complement, the high one first
abbrev pub four_bytes : ℤ → List ℕ
four_bytes z = to_be_bytes w32 (cast_unsigned w32 z)

-- with a zero byte where the length is odd
abbrev pub padded : List ℕ → List ℕ
padded text = text ++ (if length text % 2 == 0 then [] else (0 ∷ []))

-- the eight bytes of a point, x before y
abbrev pub point : ℤ → ℤ → List ℕ
point x y = four_bytes x ++ four_bytes y

-- corners in turn, by the bits of their coordinates: from the lower left one through the lower right one, and back to
-- it
abbrev pub corner_bits : ℕ → ℕ → ℕ → ℕ → List ℕ
corner_bits x0 y0 x1 y1 =
    to_be_bytes w32 x0 ++ to_be_bytes w32 y0 ++ to_be_bytes w32 x1 ++ to_be_bytes w32 y0 ++ to_be_bytes w32 x1
    ++ to_be_bytes w32 y1 ++ to_be_bytes w32 x0 ++ to_be_bytes w32 y1 ++ to_be_bytes w32 x0 ++ to_be_bytes w32 y0

-- the forty bytes of a rectangle's XY: its four corners, and the first once more
abbrev pub corners : Rectangle → List ℕ
corners r = corner_bits
    (cast_unsigned w32 r.x0)
    (cast_unsigned w32 r.y0)
    (cast_unsigned w32 r.x1)
    (cast_unsigned w32 r.y1)

-- the records of an element, from BOUNDARY, SREF or TEXT to ENDEL, where the structures have these names
abbrev pub element_records : List (List ℕ) → Element → List Record
element_records names (Box s) =
    record_with BOUNDARY NO_DATA []
    ∷ record_with LAYER TWO_BYTE_INTEGER (two_bytes s.layer)
    ∷ record_with DATATYPE TWO_BYTE_INTEGER (two_bytes s.datatype)
    ∷ record_with XY FOUR_BYTE_INTEGER (corners s.rect)
    ∷ record_with ENDEL NO_DATA []
    ∷ []
element_records names (Place n x y) =
    record_with SREF NO_DATA []
    ∷ record_with SNAME ASCII_STRING (padded (slice_index_or names n []))
    ∷ record_with XY FOUR_BYTE_INTEGER (point x y)
    ∷ record_with ENDEL NO_DATA []
    ∷ []
element_records names (Text l) =
    record_with TEXT NO_DATA []
    ∷ record_with LAYER TWO_BYTE_INTEGER (two_bytes l.layer)
    ∷ record_with TEXTTYPE TWO_BYTE_INTEGER (two_bytes 0)
    ∷ record_with XY FOUR_BYTE_INTEGER (point l.x l.y)
    ∷ record_with STRING ASCII_STRING (padded l.text)
    ∷ record_with ENDEL NO_DATA []
    ∷ []

-- year, month, day, hour, minute and second
abbrev pub date : List ℕ
date = two_bytes 1970 ++ two_bytes 1 ++ two_bytes 1 ++ two_bytes 0 ++ two_bytes 0 ++ two_bytes 0

-- last modified, and last read
abbrev pub dates : List ℕ
dates = date ++ date

-- the records of a structure, from BGNSTR to ENDSTR, where the structures have these names
abbrev pub structure_records : List (List ℕ) → Structure → List Record
structure_records names s = record_with BGNSTR TWO_BYTE_INTEGER dates
    ∷ record_with STRNAME ASCII_STRING (padded s.name) ∷ flat_map (element_records names) s.elements
    ++ record_with ENDSTR NO_DATA [] ∷ []

-- a database unit in user units, one thousandth, and in metres, one nanometre
abbrev pub units : List ℕ
units = 0x3E ∷ 0x41 ∷ 0x89 ∷ 0x37 ∷ 0x4B ∷ 0xC6 ∷ 0xA7 ∷ 0xF0 ∷ 0x39 ∷ 0x44 ∷ 0xB8 ∷ 0x2F ∷ 0xA0 ∷ 0x9B ∷ 0x5A ∷ 0x54
    ∷ []

-- AQFP
abbrev pub library_name : List ℕ
library_name = 65 ∷ 81 ∷ 70 ∷ 80 ∷ []

-- what stands before the structures
abbrev pub library_head : List Record
library_head =
    record_with HEADER TWO_BYTE_INTEGER (two_bytes 600)
    ∷ record_with BGNLIB TWO_BYTE_INTEGER dates
    ∷ record_with LIBNAME ASCII_STRING library_name
    ∷ record_with UNITS EIGHT_BYTE_REAL units
    ∷ []

-- all records of a stream of these structures, from HEADER to ENDLIB
abbrev pub records_of : List Structure → List Record
records_of ss = library_head ++ flat_map (structure_records (names_in ss)) ss ++ record_with ENDLIB NO_DATA [] ∷ []

-- the bytes that the writer makes of a layout
unfoldable pub bytes_of : Layout → List ℕ
bytes_of layout = flat_map spelled (records_of layout.structures)
