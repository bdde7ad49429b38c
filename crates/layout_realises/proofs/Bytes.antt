-- How many bytes the drawing of a net has: at most 64 for each element of its top structure, and few beside.
use Rattle.std.proofs.Common.{◌≡◌, ℕ, ℤ, zero, suc, ◌+◌, ◌*◌, ◌%◌, ◌<◌, ◌≤◌, ◌^◌, Bool, true, false, ◌==◌, refl, sym}
use Rattle.std.proofs.Common.{ap, subst, ◌∙◌, arith, List, [], ◌∷◌, ◌++◌, length, length-append, map}
use Rattle.std.specs.Prelude.{slice_index_or, pos, if◌then◌else◌}
use Rattle.std.specs.Fmt.{decimal}
use Rattle.std.specs.List.{flat_map}
use Rattle.std.specs.Int.{w16, to_be_bytes}
use Rattle.std.proofs.lemmas.Fmt.{length-decimal-le}
use Rattle.std.proofs.lemmas.Grind.{flat_map-append}
use Rattle.std.proofs.lemmas.List.{length-map, map-append}
use Rattle.std.proofs.lemmas.List.Sums.{length-filter, count_by-le-length}
use Rattle.circuit.specs.CellKinds.{inputs_of, outputs_of}
use Rattle.circuit.specs.declared.cell_kind.CellKind.{CellKind}
use Rattle.circuit.specs.declared.cell_kind.CellKind.TheVariants.{Buffer}
use Rattle.cell_library.specs.Kinds.{all_kinds}
use Rattle.cell_library.specs.Library.{LibraryView}
use Rattle.geom.specs.Writable.{names_in}
use Rattle.geom.specs.declared.shapes.Label.{Label}
use Rattle.geom.specs.declared.layout.Element.{Element}
use Rattle.geom.specs.declared.layout.Element.TheVariants.{Box, Place, Text}
use Rattle.geom.specs.declared.layout.Structure.{Structure}
use Rattle.gds_records.specs.declared.codes.TheConstants.{ENDLIB, BGNSTR, STRNAME, ENDSTR, SREF, TEXT, LAYER, XY, ENDEL}
use Rattle.gds_records.specs.declared.codes.TheConstants.{SNAME, TEXTTYPE, STRING, NO_DATA, TWO_BYTE_INTEGER}
use Rattle.gds_records.specs.declared.codes.TheConstants.{FOUR_BYTE_INTEGER, ASCII_STRING}
use Rattle.gds_records.specs.Records.{Record, record_with, spelled}
use Rattle.gds_records.specs.Writing.{two_bytes, padded, point, dates, element_records, structure_records, library_head}
use Rattle.gds_records.specs.Writing.{bytes_of}
use Rattle.layout_rules.specs.Labels.{letter_i, letter_o}
use Rattle.sorting.specs.Numbers.{numbers}
use Rattle.rowed.specs.PlacedNets.{PlacedView}
use Rattle.layout_make.specs.Channel.{channel}
use Rattle.layout_make.specs.Draw as Draw
use Rattle.layout_make.specs.Sheet.{Sheet, Tag, shape_of, lower_edge}
use Rattle.layout_make.specs.Spots.{spots}
use Rattle.layout_make.specs.Tags.{sheet, cell_tags, wire_tags, line_tags, lag_tags}
use Rattle.layout_make.specs.declared.spots.Spot.{Spot}
use Rattle.layout_realises.proofs.Counts.{cell_shapes}

-- ---- records

-- the bytes of these records
bytes_in : List Record → ℕ
bytes_in rs = length (flat_map spelled rs)

record_long : (r : Record) → length (spelled r) ≡ 4 + length r.content
record_long r = length-append (to_be_bytes w16 (4 + length r.content)) (r.kind ∷ r.form ∷ r.content) ∙ omega arith

bytes-cons : (r : Record) (rs : List Record) → bytes_in (r ∷ rs) ≡ 4 + length r.content + bytes_in rs
unfolding bytes_in
bytes-cons r rs = let a = length-append (spelled r) (flat_map spelled rs) in let b = record_long r in omega arith

bytes-append : (rs more : List Record) → bytes_in (rs ++ more) ≡ bytes_in rs + bytes_in more
unfolding bytes_in
bytes-append rs more = ap length (flat_map-append spelled rs more)
    ∙ length-append (flat_map spelled rs) (flat_map spelled more)

bytes-none : bytes_in [] ≡ 0
unfolding bytes_in
bytes-none = refl

padded_long : (text : List ℕ) → length (padded text) ≤ 1 + length text
padded_long text = let a = length-append text (if length text % 2 == 0 then [] else (0 ∷ [])) in
    let b = most (length text % 2 == 0) in omega arith
  where
    most : (even : Bool) → length {A = ℕ} (if even then [] else (0 ∷ [])) ≤ 1
    most true = omega arith
    most false = omega arith

-- ---- elements

-- names of at most four bytes
AreShort : List (List ℕ) → Type 0
AreShort names = (n : ℕ) → length (slice_index_or names n []) ≤ 4

-- the bytes of these elements
abbrev element_bytes : List (List ℕ) → List Element → ℕ
element_bytes names es = bytes_in (flat_map (element_records names) es)

-- at most 64 for each
IsSmall : List (List ℕ) → List Element → Type 0
IsSmall names es = element_bytes names es ≤ 64 * length es

small_none : (names : List (List ℕ)) → IsSmall names []
unfolding IsSmall
small_none names = let a = bytes-none in omega arith

small_append : (names : List (List ℕ)) (es more : List Element) → IsSmall names es → IsSmall names more
    → IsSmall names (es ++ more)
unfolding IsSmall
small_append names es more h k =
    let a : element_bytes names (es ++ more) ≡ element_bytes names es + element_bytes names more = ap bytes_in
    (flat_map-append (element_records names) es more) ∙ bytes-append (flat_map (element_records names) es)
    (flat_map (element_records names) more) in
    let b = length-append es more in
    omega arith

small_cons : (names : List (List ℕ)) (e : Element) (es : List Element) → bytes_in (element_records names e) ≤ 64
    → IsSmall names es → IsSmall names (e ∷ es)
unfolding IsSmall
small_cons names e es h k = let a = bytes-append (element_records names e) (flat_map (element_records names) es) in
    omega arith

-- a rectangle has 64 bytes, a reference and a label have fewer

box_small : (names : List (List ℕ)) (s : Sheet) (t : Tag) → bytes_in (element_records names (Box (shape_of s t))) ≤ 64
unfolding bytes_in
box_small names s t = omega arith

boxes_small : (names : List (List ℕ)) (s : Sheet) (ts : List Tag) → IsSmall names (Draw.boxes s ts)
boxes_small names s [] = small_none names
boxes_small names s (t ∷ ts) = small_cons names (Box (shape_of s t)) (Draw.boxes s ts) (box_small names s t)
    (boxes_small names s ts)

four_records : (a b c d : Record) → bytes_in (a ∷ b ∷ c ∷ d ∷ []) ≡ 16 + length a.content + length b.content + length
    c.content + length d.content
four_records a b c d =
    let p = bytes-cons a (b ∷ c ∷ d ∷ []) in
    let q = bytes-cons b (c ∷ d ∷ []) in
    let r = bytes-cons c (d ∷ []) in
    let s = bytes-cons d [] in
    let z = bytes-none in
    omega arith

place_small : (names : List (List ℕ)) → AreShort names → (n : ℕ) (x y : ℤ)
    → bytes_in (element_records names (Place n x y)) ≤ 64
unfolding AreShort
place_small names short n x y =
    let name = slice_index_or names n [] in
    let a = four_records (record_with SREF NO_DATA []) (record_with SNAME ASCII_STRING (padded name))
    (record_with XY FOUR_BYTE_INTEGER (point x y)) (record_with ENDEL NO_DATA []) in
    let b = padded_long name in
    let c = short n in
    omega arith

text_small : (names : List (List ℕ)) (label : Label) → length label.text ≤ 11
    → bytes_in (element_records names (Text label)) ≤ 64
text_small names label short =
    let a = bytes-append (record_with TEXT NO_DATA [] ∷ record_with LAYER TWO_BYTE_INTEGER (two_bytes label.layer)
    ∷ []) (record_with TEXTTYPE TWO_BYTE_INTEGER (two_bytes 0)
    ∷ record_with XY FOUR_BYTE_INTEGER (point label.x label.y) ∷ record_with STRING ASCII_STRING (padded label.text)
    ∷ record_with ENDEL NO_DATA [] ∷ []) in
    let b = four_records (record_with TEXTTYPE TWO_BYTE_INTEGER (two_bytes 0))
    (record_with XY FOUR_BYTE_INTEGER (point label.x label.y))
    (record_with STRING ASCII_STRING (padded label.text)) (record_with ENDEL NO_DATA []) in
    let c = bytes-cons (record_with TEXT NO_DATA []) (record_with LAYER TWO_BYTE_INTEGER (two_bytes label.layer) ∷ [])
    in
    let d = bytes-cons (record_with LAYER TWO_BYTE_INTEGER (two_bytes label.layer)) [] in
    let e = bytes-none in
    let f = padded_long label.text in
    omega arith

-- ---- the top structure

places_small : (names : List (List ℕ)) → AreShort names → (p : PlacedView) (l : LibraryView) (r : ℕ) (xs : List Spot)
    → IsSmall names (map (Draw.place_of_spot p l r) xs)
places_small names short p l r [] = small_none names
places_small names short p l r (x ∷ xs) = small_cons names (Draw.place_of_spot p l r x)
    (map (Draw.place_of_spot p l r) xs)
    (place_small names short (Draw.kind_place x.cell.kind (Draw.used_kinds p)) (pos (x.slot * (l.columns * l.pitch)))
    (pos (lower_edge (sheet p l) r))) (places_small names short p l r xs)

rows_small : (names : List (List ℕ)) (f : ℕ → List Element) (k n : ℕ) → ((r : ℕ) → IsSmall names (f r))
    → IsSmall names (flat_map f (numbers k n))
rows_small names f k zero each = small_none names
rows_small names f k (suc n) each = small_append names (f k) (flat_map f (numbers (suc k) n)) (each k)
    (rows_small names f (suc k) n each)

-- labels of numbers that have at most ten digits
labels_small : (names : List (List ℕ)) (f : ℕ → Label) (k n : ℕ) → ((i : ℕ) → i < k + n → length (f i).text ≤ 11)
    → IsSmall names (map (λ b. Text b) (map f (numbers k n)))
labels_small names f k zero each = small_none names
labels_small names f k (suc n) each =
    small_cons names (Text (f k)) (map (λ b. Text b) (map f (numbers (suc k) n)))
    (text_small names (f k) (each k (omega arith))) (labels_small names f (suc k) n (λ i lt. each i (omega arith)))

ten_digits : (letter n count : ℕ) → n < count → count < 2 ^ 32 → length (letter ∷ decimal n) ≤ 11
ten_digits letter n count lt few = let k = length-decimal-le 10 n (omega arith) (omega arith) (omega arith) in
    omega arith

module _ (p : PlacedView) (l : LibraryView) (few_inputs : p.net.inputs < 2 ^ 32) (few_outputs : p.net.outputs < 2 ^ 32)
    (names : List (List ℕ)) (short : AreShort names) where
  row_small : (r : ℕ) → IsSmall names (Draw.row_elements p l r)
  row_small r =
      small_append names (map (Draw.place_of_spot p l r) (spots p r))
      (Draw.boxes (sheet p l) (line_tags r ++ flat_map (wire_tags r) (channel p l r)))
      (places_small names short p l r (spots p r))
      (boxes_small names (sheet p l) (line_tags r ++ flat_map (wire_tags r) (channel p l r)))

  all_labels_small : IsSmall names (map (λ b. Text b) (Draw.labels p l))
  all_labels_small =
      subst (IsSmall names)
      (sym
      (map-append (λ b. Text b) (map (Draw.input_label p l) (numbers 0 p.net.inputs))
      (map (Draw.output_label p l) (numbers 0 p.net.outputs))))
      (small_append names (map (λ b. Text b) (map (Draw.input_label p l) (numbers 0 p.net.inputs)))
      (map (λ b. Text b) (map (Draw.output_label p l) (numbers 0 p.net.outputs)))
      (labels_small names (Draw.input_label p l) 0 p.net.inputs
      (λ i lt. ten_digits letter_i i p.net.inputs (omega arith) few_inputs))
      (labels_small names (Draw.output_label p l) 0 p.net.outputs
      (λ i lt. ten_digits letter_o i p.net.outputs (omega arith) few_outputs)))

  top_small : IsSmall names (Draw.top_elements p l)
  top_small =
      small_append names (Draw.shape_elements p l) (map (λ b. Text b) (Draw.labels p l))
      (small_append names (flat_map (Draw.row_elements p l) (numbers 0 (length p.net.rows)))
      (Draw.boxes (sheet p l) (lag_tags p.lag))
      (rows_small names (Draw.row_elements p l) 0 (length p.net.rows) row_small)
      (boxes_small names (sheet p l) (lag_tags p.lag))) all_labels_small

-- ---- structures

-- a structure has at most 41 bytes beside its elements, where its name is short
structure_bytes : (names : List (List ℕ)) (s : Structure) → length s.name ≤ 4 → IsSmall names s.elements
    → bytes_in (structure_records names s) ≤ 41 + 64 * length s.elements
unfolding IsSmall
structure_bytes names s short small =
    let head = record_with BGNSTR TWO_BYTE_INTEGER dates ∷ record_with STRNAME ASCII_STRING (padded s.name)
    ∷ flat_map (element_records names) s.elements in
    let a = bytes-append head (record_with ENDSTR NO_DATA [] ∷ []) in
    let b = bytes-cons (record_with BGNSTR TWO_BYTE_INTEGER dates)
    (record_with STRNAME ASCII_STRING (padded s.name) ∷ flat_map (element_records names) s.elements) in
    let c = bytes-cons (record_with STRNAME ASCII_STRING (padded s.name))
    (flat_map (element_records names) s.elements) in
    let d = bytes-cons (record_with ENDSTR NO_DATA []) [] in
    let e = bytes-none in
    let f = padded_long s.name in
    omega arith

kind_short : (k : CellKind) → length (Draw.kind_name k) ≤ 4
kind_short Buffer = omega arith
kind_short k = omega arith

pins_most : (k : CellKind) → inputs_of k + outputs_of k ≤ 4
pins_most Buffer = omega arith
pins_most k = omega arith

-- the structure of a kind has at most five shapes
kind_bytes : (names : List (List ℕ)) (l : LibraryView) (k : CellKind)
    → bytes_in (structure_records names (Draw.cell_structure l k)) ≤ 361
kind_bytes names l k =
    let a = structure_bytes names (Draw.cell_structure l k) (kind_short k)
    (boxes_small names (Draw.alone l) (cell_tags l 0 0 k)) in
    let b : length (Draw.boxes (Draw.alone l) (cell_tags l 0 0 k)) ≡ length (cell_tags l 0 0 k) = length-map
    (cell_tags l 0 0 k) _ in
    let c = cell_shapes l 0 0 k in
    let d = pins_most k in
    omega arith

kinds_bytes : (names : List (List ℕ)) (l : LibraryView) (ks : List CellKind)
    → bytes_in (flat_map (structure_records names) (map (Draw.cell_structure l) ks)) ≤ 361 * length ks
kinds_bytes names l [] = let a = bytes-none in omega arith
kinds_bytes names l (k ∷ ks) =
    let a = bytes-append (structure_records names (Draw.cell_structure l k))
    (flat_map (structure_records names) (map (Draw.cell_structure l) ks)) in
    let b = kind_bytes names l k in
    let c = kinds_bytes names l ks in
    omega arith

names_short : (l : LibraryView) (ks : List CellKind) (last : Structure) → length last.name ≤ 4 → (n : ℕ)
    → length (slice_index_or (names_in (map (Draw.cell_structure l) ks ++ last ∷ [])) n []) ≤ 4
names_short l [] last short zero = short
names_short l [] last short (suc n) = omega arith
names_short l (k ∷ ks) last short zero = kind_short k
names_short l (k ∷ ks) last short (suc n) = names_short l ks last short n

seven_kinds : (p : PlacedView) → length (Draw.used_kinds p) ≤ 7
seven_kinds p = let a = length-filter (Draw.uses p) all_kinds in let b = count_by-le-length (Draw.uses p) all_kinds in
    omega arith

-- ---- the whole drawing

pub few_bytes : (p : PlacedView) (l : LibraryView) → p.net.inputs < 2 ^ 32 → p.net.outputs < 2 ^ 32
    → length (bytes_of (Draw.draw p l)) ≤ 3000 + 64 * length (Draw.top_elements p l)
unfolding bytes_of Draw.draw AreShort bytes_in
few_bytes p l few_inputs few_outputs =
    let kinds = map (Draw.cell_structure l) (Draw.used_kinds p) in
    let top = Draw.top_of p l in
    let names = names_in (kinds ++ top ∷ []) in
    let each = structure_records names in
    let end = record_with ENDLIB NO_DATA [] in
    let short : AreShort names = names_short l (Draw.used_kinds p) top (omega arith) in
    let a = bytes-append (library_head ++ flat_map each (kinds ++ top ∷ [])) (end ∷ []) in
    let b = bytes-append library_head (flat_map each (kinds ++ top ∷ [])) in
    let c : bytes_in (flat_map each (kinds ++ top ∷ [])) ≡ bytes_in (flat_map each kinds) + bytes_in
    (each top ++ []) = ap bytes_in (flat_map-append each kinds (top ∷ []))
    ∙ bytes-append (flat_map each kinds) (each top ++ []) in
    let d = bytes-append (each top) [] in
    let e = bytes-none in
    let f = kinds_bytes names l (Draw.used_kinds p) in
    let g = seven_kinds p in
    let h = structure_bytes names top (omega arith) (top_small p l few_inputs few_outputs names short) in
    let i : bytes_in library_head ≡ 62 = refl in
    let j : bytes_in (end ∷ []) ≡ 4 = refl in
    omega arith
