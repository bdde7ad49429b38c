-- The wide layout of a strict stream has the flat form of its layout.
use Rattle.std.proofs.Common.{◌≡◌, ℕ, zero, suc, ◌*◌, ◌^◌, ◌<◌, List, [], ◌∷◌, ◌++◌, map, drop, Bool, true}
use Rattle.std.proofs.Common.{false, eqb, ◌&&◌, ◌||◌, None, refl, sym, ap, subst, ◌∙◌, inl, inr}
use Rattle.std.specs.Prelude.{ℤ, pos}
use Rattle.std.specs.List.{flat_map, AllByRecursion}
use Rattle.std.proofs.lemmas.List.{append-nil}
use Rattle.std.proofs.lemmas.List.Concat.{flat_map-cons}
use Rattle.geom.specs.declared.shapes.Shape.{Shape}
use Rattle.geom.specs.declared.shapes.Label.{Label}
use Rattle.geom.specs.declared.layout.Element.{Element}
use Rattle.geom.specs.declared.layout.Element.TheVariants.{Box, Place, Text}
use Rattle.geom.specs.declared.layout.Structure.{Structure}
use Rattle.geom.specs.declared.layout.Layout.{Layout}
use Rattle.geom.specs.FlatForm.{moved_shape, moved_label, own_shapes, own_labels, elements_at, flat_shapes, flat_labels}
use Rattle.geom.specs.FlatForm.{flat_of}
use Rattle.geom.specs.Writable.{refers_to, is_referenced, holds_reference}
use Rattle.poly_cut.specs.declared.layout.Item.{Item}
use Rattle.poly_cut.specs.declared.layout.Figure.{Figure}
use Rattle.poly_cut.specs.declared.layout.Figure.TheVariants.{Ring}
use Rattle.poly_cut.specs.declared.layout.Turn.{Turn}
use Rattle.poly_cut.specs.declared.layout.Grid.{Grid}
use Rattle.geom.specs.Rectangle.{Rectangle}
use Rattle.std.proofs.lemmas.Bool.{eqb-true, or_right, or_parts}
use Rattle.gds_records.proofs.Written.{opener_last}
use Rattle.gds_records.proofs.WrittenRead.{eqb_same}
use Rattle.poly_cut.specs.declared.layout.WideStructure.{WideStructure}
use Rattle.poly_cut.specs.FlatForm.{items_at, item_shapes, item_labels, shape, shapes_of, labels_of, wide_flat}
use Rattle.poly_cut.specs.Cuts.{ring_cut}
use Rattle.poly_cut.specs.Turns.{point}
use Rattle.gds_records.specs.declared.fault.StreamKind.TheVariants.{Unsupported, NotRectangle, Value}
use Rattle.gds_records.specs.Language.{Language, One, Speaks}
use Rattle.gds_records.specs.Grammar.{◌>>◌, maybe, flags, tail, reference, text, element}
use Rattle.gds_records.specs.Records.{Record, spelled, kinds, number, trimmed}
use Rattle.gds_records.specs.Values.{at, unsigned_value, is_rectangle, is_structure_name, has_value, opener, rule}
use Rattle.gds_records.specs.Values.{value_fault_in}
use Rattle.gds_records.specs.WideValues.{points}
use Rattle.gds_records.specs.Drawing.{starts, field, has, coordinate, box_of, place_of, element_of, element_parts}
use Rattle.gds_records.specs.Drawing.{structure_of, names_of}
use Rattle.gds_records.specs.WideDrawing.{point_at, turn_of, grid_of, figure_of, item_of, wide_structure_of}
use Rattle.gds_records.specs.Stream.{IsStream, wide_layout_of}
use Rattle.gds_records.specs.Whole.{top_of}
use Rattle.gds_records.specs.Scan.{IsBytes}
use Rattle.gds_records.specs.Profiles.{strict}
use Rattle.gds_records.specs.Profiled.{AreGoodIn}
use Rattle.gds_read.proofs.Kept.{From, Kept, starts_kept, elements_kept}
use Rattle.gds_records.proofs.Sentences.{has_kind, lacks}
use Rattle.gds_read.proofs.Words.{holds}
use Rattle.gds_read.proofs.Shaped.{Headed, headed, has_is, Spoken, IsShaped, sentence_shaped}
use Rattle.gds_read.proofs.Placed.{HasBytes, all_bytes, bytes_front, starts_bytes, element_bytes, field_bytes, four_low}
use Rattle.gds_read.proofs.Placed.{drop_is_bytes, shallow_of}

-- ---- values after an opener

abbrev GoodFrom : ℕ → List Record → Type 0
GoodFrom last rs = From (λ last r. opener last (r ∷ []))
    (λ last r. (taken : Bool) × (value_fault_in last taken r ≡ None)) last rs

good_from : (before rs : List Record) → AreGoodIn strict before rs → GoodFrom (opener 0 before) rs
good_from before [] g = tt
good_from before (r ∷ rs) g = (
  (is_structure_name (trimmed r.content) before, g.0.value),
  subst
      (λ (x : ℕ). GoodFrom x rs) (opener_last 0 before r) (good_from (before ++ r ∷ []) rs g.1),
)

-- as after some opener
abbrev Good : List Record → Type 0
Good q = Kept (λ last r. opener last (r ∷ [])) (λ last r. (taken : Bool) × (value_fault_in last taken r ≡ None)) q

-- ---- fields

-- the first record of a kind
record Found (k last : ℕ) (rs : List Record) : Type 0 where
  it : Record
  taken : Bool
  kind : eqb it.kind k ≡ true
  content : field k rs ≡ it.content
  value : value_fault_in last taken it ≡ None

three_false : (a b c : Bool) → a ≡ false → b ≡ false → c ≡ false → (a || b || c) ≡ false
three_false true b c e f g = absurd cc
three_false false true c e f g = absurd cc
three_false false false c e f g = g

found : (k last : ℕ) (rs : List Record) → GoodFrom last rs → has_kind 8 (kinds rs) ≡ false
    → has_kind 10 (kinds rs) ≡ false → has_kind 12 (kinds rs) ≡ false → has_kind k (kinds rs) ≡ true → Found k last rs
found k last [] g a b c h = absurd cc
found k last (r ∷ rs) g a b c h =
    let x = or_parts (eqb r.kind 8) (has_kind 8 (kinds rs)) a in
    let y = or_parts (eqb r.kind 10) (has_kind 10 (kinds rs)) b in
    let z = or_parts (eqb r.kind 12) (has_kind 12 (kinds rs)) c in
    let s : opener last (r ∷ []) ≡ last =
    ap (λ (t : Bool). elim t as (λ (_ : Bool). ℕ) [ true ↦ r.kind | false ↦ last ])
    (three_false (eqb r.kind 8) (eqb r.kind 10) (eqb r.kind 12) x.0 y.0 z.0) in
    turn (eqb r.kind k) refl h (found k last rs (subst (λ (t : ℕ). GoodFrom t rs) s g.1) x.1 y.1 z.1)
  where
    turn : (t : Bool) → eqb r.kind k ≡ t → (t || has_kind k (kinds rs)) ≡ true
        → (has_kind k (kinds rs) ≡ true → Found k last rs) → Found k last (r ∷ rs)
    turn true e q f = record {
      it = r;
      taken = g.0.0;
      kind = e;
      content = ap (λ (t : Bool). elim t as (λ (_ : Bool). List ℕ) [ true ↦ r.content | false ↦ field k rs ]) e;
      value = g.0.1;
    }
    turn false e q f =
        let w = f q in
        record {
          it = w.it;
          taken = w.taken;
          kind = w.kind;
          content =
              ap (λ (t : Bool). elim t as (λ (_ : Bool). List ℕ) [ true ↦ r.content | false ↦ field k rs ]) e
              ∙ w.content;
          value = w.value;
        }

no_field : (k : ℕ) (rs : List Record) → has_kind k (kinds rs) ≡ false → field k rs ≡ []
no_field k [] e = refl
no_field k (r ∷ rs) e = let p = or_parts (eqb r.kind k) (has_kind k (kinds rs)) e in
    ap (λ (t : Bool). elim t as (λ (_ : Bool). List ℕ) [ true ↦ r.content | false ↦ field k rs ]) p.0
    ∙ no_field k rs p.1

-- an element behind its first record
record Opened (o : ℕ) (l : Language) (q : List Record) : Type 0 where
  rest : List Record
  others : Speaks l (kinds rest)
  good : GoodFrom o rest
  same_field : (k : ℕ) → eqb o k ≡ false → field k q ≡ field k rest
  first : has o q ≡ true

open_with : (o : ℕ) (l : Language) (q : List Record)
    → ((last : ℕ) → (elim (eqb o 8 || eqb o 10 || eqb o 12) as (λ (_ : Bool). ℕ) [ true ↦ o | false ↦ last ]) ≡ o)
    → eqb o o ≡ true → Good q → Headed o l q → Opened o l q
open_with o l q op self g h =
    let w : GoodFrom g.state (h.head ∷ h.rest) = subst (λ (x : List Record). GoodFrom g.state x) h.whole g.good in
    record {
      rest = h.rest;
      others = h.others;
      good = subst (λ (x : ℕ). GoodFrom x h.rest)
          (ap (λ (x : ℕ). elim (eqb x 8 || eqb x 10 || eqb x 12) as (λ (_ : Bool). ℕ) [ true ↦ x | false ↦ g.state ])
          h.kind ∙ op g.state) w.1;
      same_field = λ k e. ap (λ (x : List Record). field k x) h.whole
          ∙ ap (λ (t : Bool). elim t as (λ (_ : Bool). List ℕ) [ true ↦ h.head.content | false ↦ field k h.rest ])
          (ap (λ (x : ℕ). eqb x k) h.kind ∙ e);
      first = ap (λ (x : List Record). has o x) h.whole
          ∙ ap (λ (t : Bool). elim t as (λ (_ : Bool). Bool) [ true ↦ true | false ↦ has o h.rest ])
          (ap (λ (x : ℕ). eqb x o) h.kind ∙ self);
    }

abbrev in_boundary : Language
in_boundary = flags >> One 0x0D >> One 0x0E >> One 0x10 >> tail

abbrev in_reference : Language
in_reference = flags >> One 0x12 >> maybe (One 0x1A) >> One 0x10 >> tail

-- ---- what values say

rectangle_so : (blank rect strans xy has_it : Bool) → xy ≡ true
    → rule (strans && false) blank Unsupported
    (rule (xy && true) rect NotRectangle (rule true has_it Value None)) ≡ None
    → rect ≡ true
rectangle_so blank true s xy h e f = refl
rectangle_so blank false true true h e f = absurd cc
rectangle_so blank false false true h e f = absurd cc
rectangle_so blank false s false h e f = absurd cc

zero_so : (blank rect strans xy has_it : Bool) → strans ≡ true
    → rule (strans && true) blank Unsupported
    (rule (xy && false) rect NotRectangle (rule true has_it Value None)) ≡ None
    → blank ≡ true
zero_so true rect s xy h e f = refl
zero_so false rect true xy h e f = absurd cc
zero_so false rect false xy h e f = absurd cc

is_rectangle_so : (q : List Record) → Opened 8 in_boundary q → is_rectangle (field 16 q) ≡ true
is_rectangle_so q o =
    let f = found 16 8 o.rest o.good (lacks 8 in_boundary (kinds o.rest) refl o.others)
    (lacks 10 in_boundary (kinds o.rest) refl o.others) (lacks 12 in_boundary (kinds o.rest) refl o.others)
    (holds 16 in_boundary (kinds o.rest) refl o.others) in
    ap (λ (x : List ℕ). is_rectangle x) (o.same_field 16 refl ∙ f.content)
    ∙ rectangle_so (eqb (unsigned_value 0 f.it.content) 0) (is_rectangle f.it.content) (eqb f.it.kind 26)
    (eqb f.it.kind 16) (has_value f.taken f.it) f.kind f.value

no_strans : (q : List Record) → Opened 10 in_reference q → eqb (unsigned_value 0 (field 26 q)) 0 ≡ true
no_strans q o = turn (has_kind 26 (kinds o.rest)) refl
  where
    turn : (t : Bool) → has_kind 26 (kinds o.rest) ≡ t → eqb (unsigned_value 0 (field 26 q)) 0 ≡ true
    turn false e = ap (λ (x : List ℕ). eqb (unsigned_value 0 x) 0) (o.same_field 26 refl ∙ no_field 26 o.rest e)
    turn true e =
        let f = found 26 10 o.rest o.good (lacks 8 in_reference (kinds o.rest) refl o.others)
        (lacks 10 in_reference (kinds o.rest) refl o.others) (lacks 12 in_reference (kinds o.rest) refl o.others) e in
        ap (λ (x : List ℕ). eqb (unsigned_value 0 x) 0) (o.same_field 26 refl ∙ f.content)
        ∙ zero_so (eqb (unsigned_value 0 f.it.content) 0) (is_rectangle f.it.content) (eqb f.it.kind 26)
        (eqb f.it.kind 16) (has_value f.taken f.it) f.kind f.value

-- ---- elements and items

-- the shapes and the labels of an element, where these are those of each structure
abbrev draws : (ℕ → List Shape) → Element → List Shape
draws of (Box s) = s ∷ []
draws of (Place n x y) = map (moved_shape x y) (of n)
draws of (Text l) = []

abbrev tells : (ℕ → List Label) → Element → List Label
tells of (Box s) = []
tells of (Place n x y) = map (moved_label x y) (of n)
tells of (Text l) = l ∷ []

record Alike (e : Element) (i : Item) : Type 0 where
  shapes : (of : ℕ → List Shape) → item_shapes of i ≡ draws of e
  labels : (of : ℕ → List Label) → item_labels of i ≡ tells of e

by_equals : {e d : Element} {i j : Item} → e ≡ d → i ≡ j → Alike d j → Alike e i
by_equals a b h = record {
  shapes = λ of. ap (λ (x : Item). item_shapes of x) b ∙ h.shapes of ∙ sym (ap (λ (x : Element). draws of x) a);
  labels = λ of. ap (λ (x : Item). item_labels of x) b ∙ h.labels of ∙ sym (ap (λ (x : Element). tells of x) a);
}

abbrev plain_turn : Turn
plain_turn = record { mirror = false; quarter = 0 }

abbrev plain_grid : Grid
plain_grid = record { columns = 1; rows = 1; column_step = point (pos 0) (pos 0); row_step = point (pos 0) (pos 0) }

placed_alike : (n : ℕ) (x y : ℤ) → Alike (Place n x y) (Item.Place n (point x y) plain_turn plain_grid)
placed_alike n x y = record {
  shapes = λ of. append-nil (map (moved_shape x y) (of n));
  labels = λ of. append-nil (map (moved_label x y) (of n));
}

module _ (names : List (List ℕ))
    (ring : (xy : List ℕ) → ((k : ℕ) → at xy k < 2 ^ 32) → is_rectangle xy ≡ true
    → ring_cut (points xy) ≡ box_of xy ∷ []) where
  boundary_alike : (q : List Record) → ((k : ℕ) → at (field 16 q) k < 2 ^ 32) → has 8 q ≡ true
      → is_rectangle (field 16 q) ≡ true → Alike (element_of names q) (item_of names q)
  boundary_alike q fit b r =
      let e : element_of names q ≡ Box
      (record { layer = number (field 13 q); datatype = number (field 14 q); rect = box_of (field 16 q) }) =
      rw (element_of, b) refl in
      let i : item_of names q ≡ Item.Draw (number (field 13 q)) (number (field 14 q)) (figure_of q) =
      rw (item_of, b) refl in
      let f : figure_of q ≡ Ring (points (field 16 q)) = rw (figure_of, b) refl in
      by_equals e (i ∙ ap (λ (x : Figure). Item.Draw (number (field 13 q)) (number (field 14 q)) x) f)
      (record {
        shapes = λ of. ap
            (λ (x : List Rectangle). map (shape (number (field 13 q)) (number (field 14 q))) x)
            (ring (field 16 q) fit r);
        labels = λ of. refl;
      })

  reference_alike : (q : List Record) → has 8 q ≡ false → has 9 q ≡ false → has 10 q ≡ true → has 0x13 q ≡ false
      → eqb (unsigned_value 0 (field 26 q)) 0 ≡ true → field 0x1C q ≡ [] → Alike (element_of names q) (item_of names q)
  reference_alike q b p s c z a =
      let e : element_of names q ≡ Place (place_of (trimmed (field 18 q)) names) (coordinate (field 16 q) 0)
      (coordinate (field 16 q) 1) = rw (element_of, b, s) refl in
      let t : turn_of q ≡ plain_turn = rw (a, eqb-true (unsigned_value 0 (field 26 q)) 0 z) refl in
      let g : grid_of q ≡ plain_grid = rw (grid_of, c) refl in
      let i : item_of names q ≡ Item.Place (place_of (trimmed (field 18 q)) names) (point_at (field 16 q) 0) (turn_of q)
      (grid_of q) = rw (item_of, b, p, s) refl in
      by_equals e (i ∙ (λ k. Item.Place (place_of (trimmed (field 18 q)) names) (point_at (field 16 q) 0) (t k) (g k)))
      (placed_alike (place_of (trimmed (field 18 q)) names) (coordinate (field 16 q) 0) (coordinate (field 16 q) 1))

  text_alike : (q : List Record) → has 8 q ≡ false → has 9 q ≡ false → has 10 q ≡ false → has 11 q ≡ false
      → Alike (element_of names q) (item_of names q)
  text_alike q b p s a =
      let l : Label = record {
        layer = number (field 13 q);
        x = coordinate (field 16 q) 0;
        y = coordinate (field 16 q) 1;
        text = trimmed (field 25 q);
      } in
      let e : element_of names q ≡ Text l = rw (element_of, b, s) refl in
      let i : item_of names q ≡ Item.Text l = rw (item_of, b, p, s, a) refl in
      by_equals e i (record { shapes = λ of. refl; labels = λ of. refl })

  element_alike : (q : List Record) → ((k : ℕ) → at (field 16 q) k < 2 ^ 32) → Speaks element (kinds q) → Good q
      → Alike (element_of names q) (item_of names q)
  element_alike q fit (inl h) g =
      let o = open_with 8 in_boundary q (λ last. refl) refl g (headed 8 in_boundary q h) in
      boundary_alike q fit o.first (is_rectangle_so q o)
  element_alike q fit (inr (inl h)) g =
      let o = open_with 10 in_reference q (λ last. refl) refl g (headed 10 in_reference q h) in
      reference_alike q (has_is 8 q ∙ lacks 8 reference (kinds q) refl h)
      (has_is 9 q ∙ lacks 9 reference (kinds q) refl h) o.first
      (has_is 0x13 q ∙ lacks 0x13 reference (kinds q) refl h) (no_strans q o)
      (no_field 0x1C q (lacks 0x1C reference (kinds q) refl h))
  element_alike q fit (inr (inr h)) g =
      text_alike q (has_is 8 q ∙ lacks 8 text (kinds q) refl h) (has_is 9 q ∙ lacks 9 text (kinds q) refl h)
      (has_is 10 q ∙ lacks 10 text (kinds q) refl h) (has_is 11 q ∙ lacks 11 text (kinds q) refl h)

  abbrev AlikePart : List Record → Type 0
  AlikePart q = Alike (element_of names q) (item_of names q)

  parts_alike : (qs : List (List Record)) → AllByRecursion Spoken qs → AllByRecursion Good qs
      → AllByRecursion (AllByRecursion HasBytes) qs → AllByRecursion AlikePart qs
  parts_alike [] a b c = tt
  parts_alike (q ∷ qs) a b c = (
    element_alike q (λ k. four_low (drop (4 * k) (field 16 q))
        (drop_is_bytes (4 * k) (field 16 q) (field_bytes 16 q c.0))) a.0 b.0,
    parts_alike qs a.1 b.1 c.1,
  )

  structures_alike : (ps : List (List Record)) → AllByRecursion IsShaped ps → AllByRecursion Good ps
      → AllByRecursion (AllByRecursion HasBytes) ps
      → AllByRecursion (λ p. AllByRecursion AlikePart (element_parts p)) ps
  structures_alike [] a b c = tt
  structures_alike (p ∷ ps) a b c = (
    parts_alike (element_parts p) a.0.spoken
        (elements_kept (λ last r. opener last (r ∷ []))
        (λ last r. (taken : Bool) × (value_fault_in last taken r ≡ None)) p b.0)
        (element_bytes p c.0),
    structures_alike ps a.1 b.1 c.1,
  )

-- ---- flat forms

referenced_at : (n : ℕ) (ss : List Structure) (t : ℕ) → refers_to n (elements_at ss t) ≡ true
    → is_referenced n ss ≡ true
referenced_at n [] t e = absurd cc
referenced_at n (s ∷ ss) zero e = ap (λ (b : Bool). b || is_referenced n ss) e
referenced_at n (s ∷ ss) (suc t) e = or_right (refers_to n s.elements) (is_referenced n ss) (referenced_at n ss t e)

own_drawn : (of : ℕ → List Shape) (es : List Element) → holds_reference es ≡ false
    → flat_map (draws of) es ≡ own_shapes es
own_drawn of [] e = refl
own_drawn of (Box s ∷ es) e = flat_map-cons (draws of) (Box s) es ∙ ap (λ (x : List Shape). s ∷ x) (own_drawn of es e)
own_drawn of (Place n x y ∷ es) e = absurd cc
own_drawn of (Text l ∷ es) e = flat_map-cons (draws of) (Text l) es ∙ own_drawn of es e

own_told : (of : ℕ → List Label) (es : List Element) → holds_reference es ≡ false
    → flat_map (tells of) es ≡ own_labels es
own_told of [] e = refl
own_told of (Box s ∷ es) e = flat_map-cons (tells of) (Box s) es ∙ own_told of es e
own_told of (Place n x y ∷ es) e = absurd cc
own_told of (Text l ∷ es) e = flat_map-cons (tells of) (Text l) es ∙ ap (λ (x : List Label). l ∷ x) (own_told of es e)

flat_drawn : (of : ℕ → List Shape) (ss : List Structure) (es : List Element)
    → ((n : ℕ) → refers_to n es ≡ true → of n ≡ own_shapes (elements_at ss n))
    → flat_map (draws of) es ≡ flat_shapes ss es
flat_drawn of ss [] f = refl
flat_drawn of ss (Box s ∷ es) f = flat_map-cons (draws of) (Box s) es
    ∙ ap (λ (x : List Shape). s ∷ x) (flat_drawn of ss es f)
flat_drawn of ss (Place n x y ∷ es) f =
    let g : of n ≡ own_shapes (elements_at ss n) = f n (ap (λ (b : Bool). b || refers_to n es) (eqb_same n)) in
    let h = flat_drawn of ss es (λ m e. f m (or_right (eqb n m) (refers_to m es) e)) in
    flat_map-cons (draws of) (Place n x y) es ∙ (λ i. map (moved_shape x y) (g i) ++ h i)
flat_drawn of ss (Text l ∷ es) f = flat_map-cons (draws of) (Text l) es ∙ flat_drawn of ss es f

flat_told : (of : ℕ → List Label) (ss : List Structure) (es : List Element)
    → ((n : ℕ) → refers_to n es ≡ true → of n ≡ own_labels (elements_at ss n))
    → flat_map (tells of) es ≡ flat_labels ss es
flat_told of ss [] f = refl
flat_told of ss (Box s ∷ es) f = flat_map-cons (tells of) (Box s) es ∙ flat_told of ss es f
flat_told of ss (Place n x y ∷ es) f =
    let g : of n ≡ own_labels (elements_at ss n) = f n (ap (λ (b : Bool). b || refers_to n es) (eqb_same n)) in
    let h = flat_told of ss es (λ m e. f m (or_right (eqb n m) (refers_to m es) e)) in
    flat_map-cons (tells of) (Place n x y) es ∙ (λ i. map (moved_label x y) (g i) ++ h i)
flat_told of ss (Text l ∷ es) f = flat_map-cons (tells of) (Text l) es
    ∙ ap (λ (x : List Label). l ∷ x) (flat_told of ss es f)

module _ (names : List (List ℕ)) where
  abbrev AreAlike : List Record → Type 0
  AreAlike p = AllByRecursion (λ q. Alike (element_of names q) (item_of names q)) (element_parts p)

  shapes_alike : (of : ℕ → List Shape) (qs : List (List Record))
      → AllByRecursion (λ q. Alike (element_of names q) (item_of names q)) qs
      → flat_map (item_shapes of) (map (item_of names) qs) ≡ flat_map (draws of) (map (element_of names) qs)
  shapes_alike of [] all = refl
  shapes_alike of (q ∷ qs) all =
      let e = all.0.shapes of in
      let f = shapes_alike of qs all.1 in
      flat_map-cons (item_shapes of) (item_of names q) (map (item_of names) qs) ∙ (λ i. e i ++ f i)
      ∙ sym (flat_map-cons (draws of) (element_of names q) (map (element_of names) qs))

  labels_alike : (of : ℕ → List Label) (qs : List (List Record))
      → AllByRecursion (λ q. Alike (element_of names q) (item_of names q)) qs
      → flat_map (item_labels of) (map (item_of names) qs) ≡ flat_map (tells of) (map (element_of names) qs)
  labels_alike of [] all = refl
  labels_alike of (q ∷ qs) all =
      let e = all.0.labels of in
      let f = labels_alike of qs all.1 in
      flat_map-cons (item_labels of) (item_of names q) (map (item_of names) qs) ∙ (λ i. e i ++ f i)
      ∙ sym (flat_map-cons (tells of) (element_of names q) (map (element_of names) qs))

  shapes_at : (of : ℕ → List Shape) (ps : List (List Record)) (n : ℕ) → AllByRecursion AreAlike ps
      → flat_map (item_shapes of) (items_at (map (wide_structure_of names) ps) n) ≡ flat_map (draws of)
      (elements_at (map (structure_of names) ps) n)
  shapes_at of [] n all = refl
  shapes_at of (p ∷ ps) zero all = shapes_alike of (element_parts p) all.0
  shapes_at of (p ∷ ps) (suc n) all = shapes_at of ps n all.1

  labels_at : (of : ℕ → List Label) (ps : List (List Record)) (n : ℕ) → AllByRecursion AreAlike ps
      → flat_map (item_labels of) (items_at (map (wide_structure_of names) ps) n) ≡ flat_map (tells of)
      (elements_at (map (structure_of names) ps) n)
  labels_at of [] n all = refl
  labels_at of (p ∷ ps) zero all = labels_alike of (element_parts p) all.0
  labels_at of (p ∷ ps) (suc n) all = labels_at of ps n all.1

  module _ (ps : List (List Record)) (all : AllByRecursion AreAlike ps)
      (shallow : (n : ℕ) → is_referenced n (map (structure_of names) ps) ≡ true
      → holds_reference (elements_at (map (structure_of names) ps) n) ≡ false) where
    abbrev ss : List Structure
    ss = map (structure_of names) ps

    abbrev ws : List WideStructure
    ws = map (wide_structure_of names) ps

    same_shapes : (d t : ℕ) → shapes_of (suc (suc d)) ws t ≡ flat_shapes ss (elements_at ss t)
    same_shapes d t = shapes_at (shapes_of (suc d) ws) ps t all
        ∙ flat_drawn (shapes_of (suc d) ws) ss (elements_at ss t)
        (λ n e. shapes_at (shapes_of d ws) ps n all ∙ own_drawn (shapes_of d ws) (elements_at ss n)
        (shallow n (referenced_at n ss t e)))

    same_labels : (d t : ℕ) → labels_of (suc (suc d)) ws t ≡ flat_labels ss (elements_at ss t)
    same_labels d t = labels_at (labels_of (suc d) ws) ps t all
        ∙ flat_told (labels_of (suc d) ws) ss (elements_at ss t)
        (λ n e. labels_at (labels_of d ws) ps n all ∙ own_told (labels_of d ws) (elements_at ss n)
        (shallow n (referenced_at n ss t e)))

-- ---- streams

pub same_flat : ((xy : List ℕ) → ((k : ℕ) → at xy k < 2 ^ 32) → is_rectangle xy ≡ true
    → ring_cut (points xy) ≡ box_of xy ∷ [])
    → (bytes : List ℕ) (layout : Layout) → IsBytes bytes → (s : IsStream bytes layout)
    → wide_flat (wide_layout_of s.records) ≡ flat_of layout
unfolding wide_flat flat_of
same_flat ring bytes layout fits s =
    let rs : List Record = s.records in
    let w : IsBytes (flat_map spelled rs ++ s.rest) = subst (λ (x : List ℕ). IsBytes x) s.read.whole fits in
    let shaped = sentence_shaped rs s.read.grammar in
    let all = structures_alike (names_of rs) ring (starts rs) shaped
    (starts_kept (λ last r. opener last (r ∷ [])) (λ last r. (taken : Bool) × (value_fault_in last taken r ≡ None)) 0
    rs (good_from [] rs s.read.good))
    (starts_bytes rs (all_bytes rs (bytes_front (flat_map spelled rs) s.rest w))) in
    let shallow = shallow_of rs shaped s.conditions in
    let e = same_shapes (names_of rs) (starts rs) all shallow 63 (top_of rs) in
    let f = same_labels (names_of rs) (starts rs) all shallow 63 (top_of rs) in
    (λ i. record { shapes = e i; labels = f i }) ∙ ap (λ (l : Layout). flat_of l) (sym s.says)
