-- What is written is a stream of what was drawn.
use Rattle.std.proofs.Common.{◌≡◌, ℕ, zero, suc, ◌%◌, ◌^◌, ◌<◌, List, [], ◌∷◌, ◌++◌, map, length, Bool, true, false}
use Rattle.std.proofs.Common.{cond, eqb, ◌&&◌, ◌||◌, refl, sym, ap, ◌∙◌, append_assoc, arith, inr}
use Rattle.std.specs.Prelude.{slice_index_or, FitsSigned, ℤ, int_le, not}
use Rattle.std.specs.List.{flat_map, AllByRecursion}
use Rattle.std.specs.Int.{w32, from_be_bytes, cast_signed, cast_unsigned}
use Rattle.std.proofs.lemmas.List.{map-append}
use Rattle.std.proofs.lemmas.List.Concat.{flat_map-cons}
use Rattle.std.proofs.lemmas.Bool.{eqb-true}
use Rattle.std.proofs.lemmas.Bool.Decides.{nat_tests}
use Rattle.std.proofs.lemmas.Int.{to_z-of_z}
use Rattle.std.proofs.Math.Facts.{Fits-of_z}
use Rattle.std.proofs.lemmas.Nat.{from_be_bytes-to_be_bytes_2, from_be_bytes-to_be_bytes_4}
use Rattle.geom.specs.Rectangle.{Rectangle}
use Rattle.geom.specs.declared.shapes.Shape.{Shape}
use Rattle.geom.specs.declared.shapes.Label.{Label}
use Rattle.geom.specs.declared.layout.Element.{Element}
use Rattle.geom.specs.declared.layout.Element.TheVariants.{Box, Place, Text}
use Rattle.geom.specs.declared.layout.Structure.{Structure}
use Rattle.gds_records.specs.Language.{Language, One, Then, Many, Speaks, none, more}
use Rattle.gds_records.specs.Records.{Record, record_with, kinds, number, trimmed}
use Rattle.gds_records.specs.Grammar.{◌>>◌, maybe, text, element, structure, stream}
use Rattle.gds_records.specs.Drawing.{starts, up_to, parts, name_of, coordinate, lesser, greater, box_of, place_of}
use Rattle.gds_records.specs.Drawing.{element_of, structure_of, names_of, structures_of}
use Rattle.gds_records.specs.Values.{is_rectangle}
use Rattle.geom.specs.Writable.{names_in}
use Rattle.gds_records.specs.Writing.{two_bytes, four_bytes, padded, corners, element_records, dates, structure_records}
use Rattle.gds_records.specs.Writing.{records_of}
use Rattle.gds_records.proofs.Premises.{IsText, IsBox, IsWritableElement, IsWritableStructure}
use Rattle.gds_records.proofs.Derive.{all_sound, goes_on}

-- ---- fields

trimmed-front : (text pad : List ℕ) → IsText text → trimmed pad ≡ [] → trimmed (text ++ pad) ≡ text
trimmed-front [] pad all e = e
trimmed-front (zero ∷ bs) pad all e = absurd (omega (arith, all.0))
trimmed-front (suc b ∷ bs) pad all e = ap (λ (x : List ℕ). suc b ∷ x) (trimmed-front bs pad all.1 e)

pad_is_nothing : (b : Bool) → trimmed (cond b [] (0 ∷ [])) ≡ []
pad_is_nothing true = refl
pad_is_nothing false = refl

pub trimmed-padded : (text : List ℕ) → IsText text → trimmed (padded text) ≡ text
trimmed-padded text all = trimmed-front text (cond (eqb (length text % 2) 0) [] (0 ∷ [])) all
    (pad_is_nothing (eqb (length text % 2) 0))

pub number_back : (n : ℕ) → n < 2 ^ 16 → number (two_bytes n) ≡ n
number_back n h = from_be_bytes-to_be_bytes_2 n h

pub signed_back : (z : ℤ) → FitsSigned w32 z → cast_signed w32 (from_be_bytes w32 (four_bytes z)) ≡ z
signed_back z fits = ap (λ (n : ℕ). cast_signed w32 n)
    (from_be_bytes-to_be_bytes_4 (cast_unsigned w32 z) (omega (arith, Fits-of_z fits))) ∙ to_z-of_z w32 z fits

lesser_is : (a b : ℤ) (t : Bool) → int_le a b ≡ t → t ≡ true → lesser a b ≡ a
lesser_is a b true e h = rw (e, lesser) refl
lesser_is a b false e h = absurd cc

greater_is : (a b : ℤ) (t : Bool) → int_le a b ≡ t → t ≡ true → greater a b ≡ b
greater_is a b true e h = rw (e, greater) refl
greater_is a b false e h = absurd cc

box_back : (r : Rectangle) → IsBox r → box_of (corners r) ≡ r
box_back r is =
    let a : coordinate (corners r) 0 ≡ r.x0 = signed_back r.x0 is.x0 in
    let b : coordinate (corners r) 1 ≡ r.y0 = signed_back r.y0 is.y0 in
    let c : coordinate (corners r) 4 ≡ r.x1 = signed_back r.x1 is.x1 in
    let d : coordinate (corners r) 5 ≡ r.y1 = signed_back r.y1 is.y1 in
    let e : lesser (coordinate (corners r) 0) (coordinate (corners r) 4) ≡ r.x0 =
    ap (λ (x : ℤ). lesser x (coordinate (corners r) 4)) a ∙ ap (λ (x : ℤ). lesser r.x0 x) c
    ∙ lesser_is r.x0 r.x1 true is.wide refl in
    let f : lesser (coordinate (corners r) 1) (coordinate (corners r) 5) ≡ r.y0 =
    ap (λ (x : ℤ). lesser x (coordinate (corners r) 5)) b ∙ ap (λ (x : ℤ). lesser r.y0 x) d
    ∙ lesser_is r.y0 r.y1 true is.high refl in
    let g : greater (coordinate (corners r) 0) (coordinate (corners r) 4) ≡ r.x1 =
    ap (λ (x : ℤ). greater x (coordinate (corners r) 4)) a ∙ ap (λ (x : ℤ). greater r.x0 x) c
    ∙ greater_is r.x0 r.x1 true is.wide refl in
    let h : greater (coordinate (corners r) 1) (coordinate (corners r) 5) ≡ r.y1 =
    ap (λ (x : ℤ). greater x (coordinate (corners r) 5)) b ∙ ap (λ (x : ℤ). greater r.y0 x) d
    ∙ greater_is r.y0 r.y1 true is.high refl in
    made _ _ _ _ r e f g h
  where
    made : (x0 y0 x1 y1 : ℤ) (q : Rectangle) → x0 ≡ q.x0 → y0 ≡ q.y0 → x1 ≡ q.x1 → y1 ≡ q.y1
        → record { x0 = x0; y0 = y0; x1 = x1; y1 = y1 } ≡ q
    made x0 y0 x1 y1 q a b c d = rw (a, b, c, d) refl

-- ---- corners are those of a rectangle

pub eqb_same : (k : ℕ) → eqb k k ≡ true
eqb_same k = grind (arith, nat_tests)

eqb_other : (a b : ℕ) → (a ≡ b → ⊥) → eqb a b ≡ false
eqb_other a b h = cases (eqb a b) refl
  where
    cases : (t : Bool) → eqb a b ≡ t → t ≡ false
    cases true e = absurd (h (eqb-true a b e))
    cases false e = refl

abbrev rectangle_test : ℕ → ℕ → ℕ → ℕ → Bool
rectangle_test a b c d = eqb a a && eqb b b && not (eqb a c) && not (eqb b d)
    && (eqb b b && eqb c c && eqb d d && eqb a a || eqb a c && eqb b d && eqb c a && eqb d b)

test_true : (a b c d : ℕ) → (a ≡ c → ⊥) → (b ≡ d → ⊥) → rectangle_test a b c d ≡ true
test_true a b c d p q = rw (eqb_same a, eqb_same b, eqb_same c, eqb_same d, eqb_other a c p, eqb_other b d q) refl

apart : (x y : ℤ) → FitsSigned w32 x → FitsSigned w32 y → (x ≡ y → ⊥)
    → from_be_bytes w32 (four_bytes x) ≡ from_be_bytes w32 (four_bytes y) → ⊥
apart x y fx fy h e = h (sym (signed_back x fx) ∙ ap (λ (n : ℕ). cast_signed w32 n) e ∙ signed_back y fy)

pub corners_so : (r : Rectangle) → IsBox r → is_rectangle (corners r) ≡ true
corners_so r is = test_true (from_be_bytes w32 (four_bytes r.x0)) (from_be_bytes w32 (four_bytes r.y0))
    (from_be_bytes w32 (four_bytes r.x1)) (from_be_bytes w32 (four_bytes r.y1))
    (apart r.x0 r.x1 is.x0 is.x1 is.not_thin) (apart r.y0 r.y1 is.y0 is.y1 is.not_flat)

-- ---- elements

pub names_back : (names : List (List ℕ)) → AllByRecursion IsText names → (n : ℕ) → IsText (slice_index_or names n [])
names_back [] all n = tt
names_back (t ∷ names) all zero = all.0
names_back (t ∷ names) all (suc n) = names_back names all.1 n

made_box : (l d : ℕ) (r : Rectangle) (s : Shape) → l ≡ s.layer → d ≡ s.datatype → r ≡ s.rect
    → Box (record { layer = l; datatype = d; rect = r }) ≡ Box s
made_box l d r s a b c = rw (a, b, c) refl

made_text : (l : ℕ) (x y : ℤ) (t : List ℕ) (s : Label) → l ≡ s.layer → x ≡ s.x → y ≡ s.y → t ≡ s.text
    → Text (record { layer = l; x = x; y = y; text = t }) ≡ Text s
made_text l x y t s a b c d = rw (a, b, c, d) refl

made_place : (n m : ℕ) (x y u v : ℤ) → n ≡ m → x ≡ u → y ≡ v → Place n x y ≡ Place m u v
made_place n m x y u v a b c = rw (a, b, c) refl

module _ (names : List (List ℕ)) (texts : AllByRecursion IsText names)
    (distinct : (n : ℕ) → n < length names → place_of (slice_index_or names n []) names ≡ n) where
  element_back : (e : Element) → IsWritableElement names e → element_of names (element_records names e) ≡ e
  element_back (Box s) is = made_box _ _ _ s (number_back s.layer is.0) (number_back s.datatype is.1)
      (box_back s.rect is.2)
  element_back (Place n x y) is = made_place _ _ _ _ _ _
      (ap (λ (t : List ℕ). place_of t names) (trimmed-padded (slice_index_or names n []) (names_back names texts n))
      ∙ distinct n is.0) (signed_back x is.1) (signed_back y is.2)
  element_back (Text l) is = made_text _ _ _ _ l (number_back l.layer is.0) (signed_back l.x is.1)
      (signed_back l.y is.2) (trimmed-padded l.text is.3)

  elements_back : (es : List Element) → AllByRecursion (IsWritableElement names) es
      → map (element_of names) (map (element_records names) es) ≡ es
  elements_back [] all = refl
  elements_back (e ∷ es) all = rw (element_back e all.0, elements_back es all.1) refl

-- ---- parts

parts_one : (names : List (List ℕ)) (e : Element) (rest : List Record)
    → parts 0x11 [] (element_records names e ++ rest) ≡ element_records names e ∷ parts 0x11 [] rest
parts_one names (Box s) rest = refl
parts_one names (Place n x y) rest = refl
parts_one names (Text l) rest = refl

pub flat_more : (names : List (List ℕ)) (e : Element) (es : List Element) (rest : List Record)
    → flat_map (element_records names) (e ∷ es) ++ rest ≡ element_records names e
    ++ (flat_map (element_records names) es ++ rest)
flat_more names e es rest = ap (λ (x : List Record). x ++ rest) (flat_map-cons (element_records names) e es)
    ∙ append_assoc (element_records names e) (flat_map (element_records names) es) rest

parts_elements : (names : List (List ℕ)) (es : List Element)
    → parts 0x11 [] (flat_map (element_records names) es) ≡ map (element_records names) es
parts_elements names [] = refl
parts_elements names (e ∷ es) =
    ap (λ (x : List Record). parts 0x11 [] x) (flat_map-cons (element_records names) e es)
    ∙ parts_one names e (flat_map (element_records names) es)
    ∙ ap (λ (x : List (List Record)). element_records names e ∷ x) (parts_elements names es)

up_to_one : (names : List (List ℕ)) (e : Element) (rest : List Record)
    → up_to 0x07 (element_records names e ++ rest) ≡ element_records names e ++ up_to 0x07 rest
up_to_one names (Box s) rest = refl
up_to_one names (Place n x y) rest = refl
up_to_one names (Text l) rest = refl

up_to_end : (names : List (List ℕ)) (es : List Element) (rest : List Record)
    → up_to 0x07 (flat_map (element_records names) es ++ (record_with 0x07 0 [] ∷ rest)) ≡ flat_map
    (element_records names) es
up_to_end names [] rest = refl
up_to_end names (e ∷ es) rest =
    ap (λ (x : List Record). up_to 0x07 x) (flat_more names e es (record_with 0x07 0 [] ∷ rest))
    ∙ up_to_one names e (flat_map (element_records names) es ++ (record_with 0x07 0 [] ∷ rest))
    ∙ ap (λ (x : List Record). element_records names e ++ x) (up_to_end names es rest)
    ∙ sym (flat_map-cons (element_records names) e es)

starts_one : (names : List (List ℕ)) (e : Element) (rest : List Record)
    → starts (element_records names e ++ rest) ≡ starts rest
starts_one names (Box s) rest = refl
starts_one names (Place n x y) rest = refl
starts_one names (Text l) rest = refl

starts_elements : (names : List (List ℕ)) (es : List Element) (rest : List Record)
    → starts (flat_map (element_records names) es ++ (record_with 0x07 0 [] ∷ rest)) ≡ starts rest
starts_elements names [] rest = refl
starts_elements names (e ∷ es) rest =
    ap (λ (x : List Record). starts x) (flat_more names e es (record_with 0x07 0 [] ∷ rest))
    ∙ starts_one names e (flat_map (element_records names) es ++ (record_with 0x07 0 [] ∷ rest))
    ∙ starts_elements names es rest

pub structure_more : (names : List (List ℕ)) (s : Structure) (ss : List Structure) (rest : List Record)
    → flat_map (structure_records names) (s ∷ ss) ++ rest ≡ structure_records names s
    ++ (flat_map (structure_records names) ss ++ rest)
structure_more names s ss rest = ap (λ (x : List Record). x ++ rest) (flat_map-cons (structure_records names) s ss)
    ∙ append_assoc (structure_records names s) (flat_map (structure_records names) ss) rest

-- what follows the BGNSTR of a structure, and then of each
tail_of : (names : List (List ℕ)) → Structure → List Record → List Record
tail_of names s rest = record_with 0x06 6 (padded s.name)
    ∷ (flat_map (element_records names) s.elements ++ (record_with 0x07 0 [] ∷ rest))

tails : (names : List (List ℕ)) → List Structure → List (List Record)
unfolding tail_of
tails names [] = []
tails names (s ∷ ss) = tail_of names s (flat_map (structure_records names) ss ++ record_with 0x04 0 [] ∷ [])
    ∷ tails names ss

starts_structure : (names : List (List ℕ)) (s : Structure) (rest : List Record)
    → starts (structure_records names s ++ rest) ≡ tail_of names s rest ∷ starts rest
unfolding tail_of
starts_structure names s rest =
    let e : record_with 0x05 2 dates ∷ record_with 0x06 6 (padded s.name) ∷ flat_map (element_records names) s.elements
    ++ record_with 0x07 0 [] ∷ [] ++ rest ≡ record_with 0x05 2 dates ∷ tail_of names s rest
    = ap (λ (x : List Record). record_with 0x05 2 dates ∷ record_with 0x06 6 (padded s.name) ∷ x)
    (append_assoc (flat_map (element_records names) s.elements) (record_with 0x07 0 [] ∷ []) rest) in
    ap (λ (x : List Record). starts x) e ∙ ap (λ (x : List (List Record)). tail_of names s rest ∷ x)
    (starts_elements names s.elements rest)

starts_structures : (names : List (List ℕ)) (ss : List Structure)
    → starts (flat_map (structure_records names) ss ++ record_with 0x04 0 [] ∷ []) ≡ tails names ss
unfolding tails
starts_structures names [] = refl
starts_structures names (s ∷ ss) =
    ap (λ (x : List Record). starts x) (structure_more names s ss (record_with 0x04 0 [] ∷ []))
    ∙ starts_structure names s (flat_map (structure_records names) ss ++ record_with 0x04 0 [] ∷ [])
    ∙ ap (λ (x : List (List Record)). tail_of names s
    (flat_map (structure_records names) ss ++ record_with 0x04 0 [] ∷ []) ∷ x) (starts_structures names ss)

starts_back : (ss : List Structure) → starts (records_of ss) ≡ tails (names_in ss) ss
starts_back ss = starts_structures (names_in ss) ss

names_read : (names : List (List ℕ)) (ss : List Structure) → AllByRecursion (IsWritableStructure names) ss
    → map name_of (tails names ss) ≡ names_in ss
unfolding tails tail_of
names_read names [] all = refl
names_read names (s ∷ ss) all = rw (trimmed-padded s.name all.0.0, names_read names ss all.1) refl

pub all_texts : (names : List (List ℕ)) (ss : List Structure) → AllByRecursion (IsWritableStructure names) ss
    → AllByRecursion IsText (names_in ss)
all_texts names [] all = tt
all_texts names (s ∷ ss) all = (all.0.0, all_texts names ss all.1)

made_structure : (n : List ℕ) (es : List Element) (s : Structure) → n ≡ s.name → es ≡ s.elements
    → record { name = n; elements = es } ≡ s
made_structure n es s a b = rw (a, b) refl

module _ (names : List (List ℕ)) (texts : AllByRecursion IsText names)
    (distinct : (n : ℕ) → n < length names → place_of (slice_index_or names n []) names ≡ n) where
  structure_back : (s : Structure) (rest : List Record) → IsWritableStructure names s
      → structure_of names (tail_of names s rest) ≡ s
  unfolding tail_of
  structure_back s rest is =
      made_structure _ _ s (trimmed-padded s.name is.0)
      (ap (λ (x : List Record). map (element_of names) (parts 0x11 [] x)) (up_to_end names s.elements rest)
      ∙ ap (λ (x : List (List Record)). map (element_of names) x) (parts_elements names s.elements)
      ∙ elements_back names texts distinct s.elements is.1)

  structures_back : (ss : List Structure) → AllByRecursion (IsWritableStructure names) ss
      → map (structure_of names) (tails names ss) ≡ ss
  unfolding tails
  structures_back [] all = refl
  structures_back (s ∷ ss) all =
      rw (
        structure_back s (flat_map (structure_records names) ss ++ record_with 0x04 0 [] ∷ []) all.0,
        structures_back
            ss all.1,
      ) refl

pub says_back : (ss : List Structure) → AllByRecursion (IsWritableStructure (names_in ss)) ss
    → ((n : ℕ) → n < length (names_in ss) → place_of (slice_index_or (names_in ss) n []) (names_in ss) ≡ n)
    → structures_of (records_of ss) ≡ ss
says_back ss all distinct =
    let names : names_of (records_of ss) ≡ names_in ss = ap (λ (x : List (List Record)). map name_of x) (starts_back ss)
    ∙ names_read (names_in ss) ss all in
    ap (λ (x : List (List ℕ)). map (structure_of x) (starts (records_of ss))) names
    ∙ ap (λ (x : List (List Record)). map (structure_of (names_in ss)) x) (starts_back ss)
    ∙ structures_back (names_in ss) (all_texts (names_in ss) ss all) distinct ss all

-- ---- the grammar

then_one : (k : ℕ) (b : Language) (word : List ℕ) → Speaks b word → Speaks (Then (One k) b) (k ∷ word)
then_one k b word h = (k ∷ [], word, refl, refl, h)

skip : (a b : Language) (word : List ℕ) → Speaks b word → Speaks (Then (maybe a) b) word
skip a b word h = ([], word, refl, inr refl, h)

element_speaks : (names : List (List ℕ)) (e : Element) → Speaks element (kinds (element_records names e))
element_speaks names (Box s) = all_sound (0x08 ∷ 0x0D ∷ 0x0E ∷ 0x10 ∷ 0x11 ∷ []) element refl
element_speaks names (Place n x y) = all_sound (0x0A ∷ 0x12 ∷ 0x10 ∷ 0x11 ∷ []) element refl
element_speaks names (Text l) = all_sound (0x0C ∷ 0x0D ∷ 0x16 ∷ 0x10 ∷ 0x19 ∷ 0x11 ∷ []) element refl

many_more : {X : Type 0} (a : Language) (f : X → List Record) (each : (x : X) → Speaks a (kinds (f x))) (xs : List X)
    → Speaks (Many a) (kinds (flat_map f xs))
many_more a f each [] = none [] refl
many_more a f each (x ∷ xs) =
    more (kinds (flat_map f (x ∷ xs))) (kinds (f x)) (kinds (flat_map f xs))
    (ap kinds (flat_map-cons f x xs) ∙ map-append (λ r. r.kind) (f x) (flat_map f xs)) (each x)
    (many_more a f each xs)

abbrev body : Language
body = Many element >> One 0x07

structure_speaks : (names : List (List ℕ)) (s : Structure) → Speaks structure (kinds (structure_records names s))
structure_speaks names s =
    let rest = kinds (flat_map (element_records names) s.elements ++ record_with 0x07 0 [] ∷ []) in
    let b : Speaks body rest = (
      kinds (flat_map (element_records names) s.elements),
      0x07
          ∷ [],
      map-append (λ r. r.kind) (flat_map (element_records names) s.elements)
          (record_with 0x07 0 [] ∷ []),
      many_more element (element_records names)
          (element_speaks names) s.elements,
      refl,
    ) in
    then_one 0x05 (One 0x06 >> body) (0x06 ∷ rest) (then_one 0x06 body rest b)

abbrev after_units : Language
after_units = Many structure >> One 0x04

pub stream_speaks : (ss : List Structure) → Speaks stream (kinds (records_of ss))
stream_speaks ss =
    let rest = kinds (flat_map (structure_records (names_in ss)) ss ++ record_with 0x04 0 [] ∷ []) in
    let b : Speaks after_units rest = (
      kinds (flat_map (structure_records (names_in ss)) ss),
      0x04 ∷ [],
      map-append (λ r. r.kind)
          (flat_map (structure_records (names_in ss)) ss) (record_with 0x04 0 [] ∷ []),
      many_more structure
          (structure_records (names_in ss)) (structure_speaks (names_in ss)) ss,
      refl,
    ) in
    goes_on (0x00 ∷ 0x01 ∷ 0x02 ∷ 0x03 ∷ []) rest stream b

pub names_length : (ss : List Structure) → length (names_in ss) ≡ length ss
names_length [] = refl
names_length (s ∷ ss) = ap suc (names_length ss)
