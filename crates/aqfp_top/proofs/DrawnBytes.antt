-- The stream of a drawing is made of bytes: its names and labels are letters and digits.
use Rattle.std.proofs.Common.{◌≡◌, ℕ, zero, suc, ◌+◌, ◌<◌, ◌^◌, ◌%◌, ◌/◌, ◌==◌, List, [], ◌∷◌, ◌++◌, Bool, true, false}
use Rattle.std.proofs.Common.{length, map, refl, arith}
use Rattle.std.specs.Prelude.{slice_index, slice_index_or, if◌then◌else◌, nat_lt, nat_le, ◌&&◌, ◌||◌, not}
use Rattle.std.specs.Char.{is_ascii_digit}
use Rattle.std.specs.Fmt.{decimal}
use Rattle.std.specs.Int.{w16, byte_at, bytes_high_first, to_be_bytes, cast_unsigned, w32}
use Rattle.std.specs.List.{AllByRecursion, flat_map, list_all}
use Rattle.std.proofs.lemmas.Bool.{and_parts}
use Rattle.std.proofs.lemmas.Bool.Decides.{nat_tests}
use Rattle.blif_read.proofs.Within.{all_join}
use Rattle.circuit.specs.declared.cell_kind.CellKind.{CellKind}
use Rattle.circuit.specs.declared.cell_kind.CellKind.TheVariants.{Buffer}
use Rattle.geom.specs.Writable.{names_in}
use Rattle.geom.specs.declared.shapes.Label.{Label}
use Rattle.geom.specs.declared.layout.Element.{Element}
use Rattle.geom.specs.declared.layout.Element.TheVariants.{Box, Place, Text}
use Rattle.geom.specs.declared.layout.Structure.{Structure}
use Rattle.gds_records.specs.declared.codes.TheConstants.{HEADER, BGNLIB, LIBNAME, UNITS, ENDLIB, BGNSTR, STRNAME}
use Rattle.gds_records.specs.declared.codes.TheConstants.{ENDSTR, BOUNDARY, SREF, TEXT, LAYER, DATATYPE, XY, ENDEL}
use Rattle.gds_records.specs.declared.codes.TheConstants.{SNAME, TEXTTYPE, STRING, NO_DATA, TWO_BYTE_INTEGER}
use Rattle.gds_records.specs.declared.codes.TheConstants.{FOUR_BYTE_INTEGER, EIGHT_BYTE_REAL, ASCII_STRING}
use Rattle.gds_records.specs.Records.{Record, record_with, spelled}
use Rattle.gds_records.specs.Profiled.{IsBytes}
use Rattle.gds_records.specs.Writing.{bytes_of, records_of, library_head, structure_records, element_records, padded}
use Rattle.gds_records.specs.Writing.{two_bytes, dates, corner_bits, corners, point, units, library_name}
use Rattle.layout_rules.specs.Labels.{letter_i, letter_o, is_decimal}
use Rattle.layout_rules.proofs.LabelLaws.{is_decimal-decimal}
use Rattle.sorting.specs.Numbers.{numbers}
use Rattle.rowed.specs.PlacedNets.{PlacedView}
use Rattle.cell_library.specs.Library.{LibraryView}
use Rattle.layout_make.specs.Sheet.{Sheet, Tag}
use Rattle.layout_make.specs.Spots.{spots}
use Rattle.layout_make.specs.Channel.{channel}
use Rattle.layout_make.specs.Tags.{sheet, cell_tags, wire_tags, line_tags, lag_tags}
use Rattle.layout_make.specs.Draw as Draw
use Rattle.layout_make.specs.Draw.{draw}
use Rattle.layout_make.specs.MayDraw.{MayDraw}

-- ---- lists of which each element has something

all_flat : {X Y : Type 0} (Q : X → Type 0) (P : Y → Type 0) (f : X → List Y) → ((x : X) → Q x → AllByRecursion P (f x))
    → (xs : List X) → AllByRecursion Q xs → AllByRecursion P (flat_map f xs)
all_flat Q P f each [] all = tt
all_flat Q P f each (x ∷ xs) all = all_join P (f x) (flat_map f xs) (each x all.0) (all_flat Q P f each xs all.1)

all_mapped : {X Y : Type 0} (Q : X → Type 0) (P : Y → Type 0) (f : X → Y) → ((x : X) → Q x → P (f x)) → (xs : List X)
    → AllByRecursion Q xs → AllByRecursion P (map f xs)
all_mapped Q P f each [] all = tt
all_mapped Q P f each (x ∷ xs) all = (each x all.0, all_mapped Q P f each xs all.1)

-- whatever they are
all_whatever : {X : Type 0} (xs : List X) → AllByRecursion (λ x. Unit {0}) xs
all_whatever [] = tt
all_whatever (x ∷ xs) = (tt, all_whatever xs)

numbers_below : (P : ℕ → Type 0) (first count : ℕ) → ((n : ℕ) → n < first + count → P n)
    → AllByRecursion P (numbers first count)
numbers_below P first zero each = tt
numbers_below P first (suc count) each =
    (each first (omega arith), numbers_below P (suc first) count (λ n lt. each n (omega arith)))

-- ---- bytes

abbrev AreBytes : List ℕ → Type 0
AreBytes bs = AllByRecursion (λ b. b < 256) bs

is_bytes : (bs : List ℕ) → AreBytes bs → IsBytes bs
is_bytes [] all zero = omega arith
is_bytes [] all (suc i) = omega arith
is_bytes (b ∷ bs) all zero = all.0
is_bytes (b ∷ bs) all (suc i) = is_bytes bs all.1 i

is_less : (b : ℕ) → nat_lt b 256 ≡ true → b < 256
is_less b e = grind (arith, nat_tests)

by_test : (bs : List ℕ) → list_all (λ b. nat_lt b 256) bs ≡ true → AreBytes bs
by_test [] e = tt
by_test (b ∷ bs) e = let both = and_parts _ _ e in (is_less b both.0, by_test bs both.1)

remainder : (n : ℕ) → n % 256 < 256
remainder n = omega arith

byte_small : (i n : ℕ) → byte_at i n < 256
byte_small zero n = remainder n
byte_small (suc i) n = remainder (n / 256 ^ suc i)

high_first : (k n : ℕ) → AreBytes (bytes_high_first k n)
high_first zero n = tt
high_first (suc k) n = (byte_small k n, high_first k n)

is_few : (b : ℕ) → nat_le b 57 ≡ true → b < 256
is_few b e = grind (arith, nat_tests)

digit_small : (b : ℕ) → is_ascii_digit b ≡ true → b < 256
digit_small b e = is_few b (and_parts (nat_le 48 b) (nat_le b 57) e).1

digits_small : (bs : List ℕ) → list_all is_ascii_digit bs ≡ true → AreBytes bs
digits_small [] e = tt
digits_small (b ∷ bs) e = let both = and_parts _ _ e in (digit_small b both.0, digits_small bs both.1)

-- ---- records

abbrev AreSpelled : List Record → Type 0
AreSpelled rs = AllByRecursion (λ r. AreBytes (spelled r)) rs

spells : (kind form : ℕ) (content : List ℕ) → nat_lt kind 256 ≡ true → nat_lt form 256 ≡ true → AreBytes content
    → AreBytes (spelled (record_with kind form content))
spells kind form content k f all =
    all_join (λ b. b < 256) (to_be_bytes w16 (4 + length content)) (kind ∷ form ∷ content)
    (high_first 2 (4 + length content)) (is_less kind k, (is_less form f, all))

filled : (b : Bool) → AreBytes (if b then [] else (0 ∷ []))
filled true = tt
filled false = (omega arith, tt)

padded_bytes : (text : List ℕ) → AreBytes text → AreBytes (padded text)
padded_bytes text all = all_join (λ b. b < 256) text _ all (filled (length text % 2 == 0))

four : (n : ℕ) → AreBytes (bytes_high_first 4 n)
four n = high_first 4 n

point_bytes : (a b : ℕ) → AreBytes (bytes_high_first 4 a ++ bytes_high_first 4 b)
point_bytes a b = all_join (λ b. b < 256) (bytes_high_first 4 a) (bytes_high_first 4 b) (four a) (four b)

record Made (bs : List ℕ) : Type 0 where
  pub all : AreBytes bs

last_made : (n : ℕ) → Made (bytes_high_first 4 n)
last_made n = record { all = four n }

made : {bs : List ℕ} (n : ℕ) → Made bs → Made (bytes_high_first 4 n ++ bs)
made {bs} n is = record { all = all_join (λ b. b < 256) (bytes_high_first 4 n) bs (four n) is.all }

corner_bytes : (a b c d : ℕ) → AreBytes (corner_bits a b c d)
corner_bytes a b c d =
    (made a (made b (made c (made b (made c (made d (made a (made d (made a (last_made b)))))))))).all

name_at : (names : List (List ℕ)) → AllByRecursion AreBytes names → (n : ℕ) → AreBytes (slice_index_or names n [])
name_at [] all zero = tt
name_at [] all (suc n) = tt
name_at (name ∷ names) all zero = all.0
name_at (name ∷ names) all (suc n) = name_at names all.1 n

-- the text of a label is made of bytes
abbrev HasText : Element → Type 0
HasText (Box s) = Unit {0}
HasText (Place n x y) = Unit {0}
HasText (Text l) = AreBytes l.text

element_spelled : (names : List (List ℕ)) → AllByRecursion AreBytes names → (e : Element) → HasText e
    → AreSpelled (element_records names e)
element_spelled names all (Box s) has = (
  spells BOUNDARY NO_DATA [] refl refl tt,
  (
    spells LAYER TWO_BYTE_INTEGER (two_bytes s.layer) refl refl (high_first 2 s.layer),
    (
      spells DATATYPE TWO_BYTE_INTEGER (two_bytes s.datatype) refl refl (high_first 2 s.datatype),
      (
        spells XY FOUR_BYTE_INTEGER (corners s.rect) refl refl
            (corner_bytes (cast_unsigned w32 s.rect.x0) (cast_unsigned w32 s.rect.y0) (cast_unsigned w32 s.rect.x1)
            (cast_unsigned w32 s.rect.y1)),
        (spells ENDEL NO_DATA [] refl refl tt, tt),
      ),
    ),
  ),
)
element_spelled names all (Place n x y) has = (
  spells SREF NO_DATA [] refl refl tt,
  (
    spells SNAME ASCII_STRING (padded (slice_index_or names n [])) refl refl
        (padded_bytes (slice_index_or names n []) (name_at names all n)),
    (
      spells XY FOUR_BYTE_INTEGER (point x y) refl refl (point_bytes (cast_unsigned w32 x) (cast_unsigned w32 y)),
      (spells ENDEL NO_DATA [] refl refl tt, tt),
    ),
  ),
)
element_spelled names all (Text l) has = (
  spells TEXT NO_DATA [] refl refl tt,
  (
    spells LAYER TWO_BYTE_INTEGER (two_bytes l.layer) refl refl (high_first 2 l.layer),
    (
      spells TEXTTYPE TWO_BYTE_INTEGER (two_bytes 0) refl refl (high_first 2 0),
      (
        spells XY FOUR_BYTE_INTEGER (point l.x l.y) refl refl
            (point_bytes (cast_unsigned w32 l.x) (cast_unsigned w32 l.y)),
        (
          spells STRING ASCII_STRING (padded l.text) refl refl (padded_bytes l.text has),
          (spells ENDEL NO_DATA [] refl refl tt, tt),
        ),
      ),
    ),
  ),
)

-- the name of a structure and the texts of its labels are made of bytes
record HasTexts (s : Structure) : Type 0 where
  pub name : AreBytes s.name
  pub elements : AllByRecursion HasText s.elements

structure_spelled : (names : List (List ℕ)) → AllByRecursion AreBytes names → (s : Structure) → HasTexts s
    → AreSpelled (structure_records names s)
structure_spelled names all s has = (
  spells BGNSTR TWO_BYTE_INTEGER dates refl refl (by_test dates refl),
  (
    spells STRNAME ASCII_STRING (padded s.name) refl refl (padded_bytes s.name has.name),
    all_join (λ r. AreBytes (spelled r)) (flat_map (element_records names) s.elements)
        (record_with ENDSTR NO_DATA [] ∷ [])
        (all_flat HasText (λ r. AreBytes (spelled r)) (element_records names)
        (element_spelled names all) s.elements has.elements)
        (spells ENDSTR NO_DATA [] refl refl tt, tt),
  ),
)

head_spelled : AreSpelled library_head
head_spelled = (
  spells HEADER TWO_BYTE_INTEGER (two_bytes 600) refl refl (high_first 2 600),
  (
    spells BGNLIB TWO_BYTE_INTEGER dates refl refl (by_test dates refl),
    (
      spells LIBNAME ASCII_STRING library_name refl refl (by_test library_name refl),
      (spells UNITS EIGHT_BYTE_REAL units refl refl (by_test units refl), tt),
    ),
  ),
)

records_spelled : (ss : List Structure) → AllByRecursion HasTexts ss → AreBytes (flat_map spelled (records_of ss))
records_spelled ss all =
    let names = all_mapped HasTexts AreBytes (λ (s : Structure). s.name) (λ s has. has.name) ss all in
    let each = all_flat HasTexts (λ r. AreBytes (spelled r)) (structure_records (names_in ss))
    (structure_spelled (names_in ss) names) ss all in
    let end : AreSpelled (record_with ENDLIB NO_DATA [] ∷ []) = (spells ENDLIB NO_DATA [] refl refl tt, tt) in
    all_flat (λ r. AreBytes (spelled r)) (λ b. b < 256) spelled (λ r spelt. spelt) (records_of ss)
    (all_join (λ r. AreBytes (spelled r)) library_head
    (flat_map (structure_records (names_in ss)) ss ++ record_with ENDLIB NO_DATA [] ∷ []) head_spelled
    (all_join (λ r. AreBytes (spelled r)) (flat_map (structure_records (names_in ss)) ss)
    (record_with ENDLIB NO_DATA [] ∷ []) each end))

-- ---- the drawing

kind_named : (k : CellKind) → AreBytes (Draw.kind_name k)
kind_named Buffer = by_test (Draw.kind_name Buffer) refl
kind_named k = by_test (Draw.kind_name k) refl

boxes_have : (s : Sheet) (ts : List Tag) → AllByRecursion HasText (Draw.boxes s ts)
boxes_have s [] = tt
boxes_have s (t ∷ ts) = (tt, boxes_have s ts)

cells_have : {X : Type 0} (f : X → Element) → ((x : X) → HasText (f x)) → (xs : List X)
    → AllByRecursion HasText (map f xs)
cells_have f each [] = tt
cells_have f each (x ∷ xs) = (each x, cells_have f each xs)

cell_has : (l : LibraryView) (k : CellKind) → HasTexts (Draw.cell_structure l k)
cell_has l k = record { name = kind_named k; elements = boxes_have (Draw.alone l) (cell_tags l 0 0 k) }

row_has : (p : PlacedView) (l : LibraryView) (r : ℕ) → AllByRecursion HasText (Draw.row_elements p l r)
row_has p l r =
    let tags = line_tags r ++ flat_map (wire_tags r) (channel p l r) in
    all_join HasText (map (Draw.place_of_spot p l r) (spots p r)) (Draw.boxes (sheet p l) tags)
    (cells_have (Draw.place_of_spot p l r) (λ x. tt) (spots p r)) (boxes_have (sheet p l) tags)

all_digits : (text : List ℕ) → is_decimal text ≡ true → list_all is_ascii_digit text ≡ true
all_digits text e = (and_parts (list_all is_ascii_digit text)
    (length text == 1 || (nat_lt 1 (length text) && not (slice_index text 0 == 48))) e).0

numbered : (letter n : ℕ) → nat_lt letter 256 ≡ true → n < 2 ^ 32 → AreBytes (letter ∷ decimal n)
numbered letter n small few = (
  is_less letter small,
  digits_small (decimal n)
      (all_digits (decimal n) (is_decimal-decimal n (omega (arith, few)))),
)

labels_have : (p : PlacedView) (l : LibraryView) → MayDraw p l
    → AllByRecursion (λ (b : Label). AreBytes b.text) (Draw.labels p l)
labels_have p l may =
    let inputs = may.few_inputs in
    let outputs = may.few_outputs in
    all_join (λ (b : Label). AreBytes b.text) (map (Draw.input_label p l) (numbers 0 p.net.inputs))
    (map (Draw.output_label p l) (numbers 0 p.net.outputs))
    (all_mapped (λ n. n < p.net.inputs) (λ (b : Label). AreBytes b.text) (Draw.input_label p l)
    (λ n lt. numbered letter_i n refl (omega (arith, lt, inputs))) (numbers 0 p.net.inputs)
    (numbers_below (λ n. n < p.net.inputs) 0 p.net.inputs (λ n lt. omega (arith, lt))))
    (all_mapped (λ n. n < p.net.outputs) (λ (b : Label). AreBytes b.text) (Draw.output_label p l)
    (λ n lt. numbered letter_o n refl (omega (arith, lt, outputs))) (numbers 0 p.net.outputs)
    (numbers_below (λ n. n < p.net.outputs) 0 p.net.outputs (λ n lt. omega (arith, lt))))

top_has : (p : PlacedView) (l : LibraryView) → MayDraw p l → HasTexts (Draw.top_of p l)
top_has p l may = record {
  name = by_test (Draw.top_of p l).name refl;
  elements = all_join HasText (Draw.shape_elements p l) (map (λ b. Text b) (Draw.labels p l))
      (all_join HasText (flat_map (Draw.row_elements p l) (numbers 0 (length p.net.rows)))
      (Draw.boxes (sheet p l) (lag_tags p.lag))
      (all_flat (λ r. Unit {0}) HasText (Draw.row_elements p l) (λ r any. row_has p l r) (numbers 0 (length p.net.rows))
      (all_whatever (numbers 0 (length p.net.rows)))) (boxes_have (sheet p l) (lag_tags p.lag)))
      (all_mapped (λ (b : Label). AreBytes b.text) HasText (λ (b : Label). Text b) (λ b has. has)
      (Draw.labels p l) (labels_have p l may));
}

pub drawn_bytes : (p : PlacedView) (l : LibraryView) → MayDraw p l → IsBytes (bytes_of (draw p l))
unfolding bytes_of draw
drawn_bytes p l may =
    let kinds = Draw.used_kinds p in
    let structures = map (Draw.cell_structure l) kinds ++ Draw.top_of p l ∷ [] in
    let each = all_mapped (λ k. Unit {0}) HasTexts (Draw.cell_structure l)
    (λ k any. cell_has l k) kinds (all_whatever kinds) in
    is_bytes (flat_map spelled (records_of structures))
    (records_spelled structures
    (all_join HasTexts (map (Draw.cell_structure l) kinds) (Draw.top_of p l ∷ []) each (top_has p l may, tt)))
