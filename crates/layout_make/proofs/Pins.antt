-- Rule E1 of a drawing.
use Rattle.std.proofs.Common.{◌≡◌, ℕ, ◌<◌, Bool, true, false, ◌||◌, ◌==◌, refl, sym, ap, subst, ◌∙◌, arith, List}
use Rattle.std.proofs.lemmas.Bool.Decides.{nat_tests}
use Rattle.circuit.specs.declared.cell_kind.CellKind.{CellKind}
use Rattle.geom.specs.Rectangle.{Rectangle, within}
use Rattle.geom.specs.declared.shapes.Shape.{Shape}
use Rattle.layout_make.specs.Sheet.{Sheet, Tag, Frame, area, rect_of, place_of, shape_of}
use Rattle.layout_make.specs.Tags.{At}
use Rattle.layout_make.specs.declared.marks.Ports.{Ports as Side}
use Rattle.layout_make.specs.declared.marks.Ports.TheVariants.{Inputs, Outputs}
use Rattle.layout_make.proofs.Sides.{pins_on, layer_on, pin_tag, pin_told, pin_place, pin_layer, pin_number}
use Rattle.layout_make.proofs.SheetKeeps.{IsDrawn, Owner, HasCells, column_at}
use Rattle.cell_library.specs.Library.{IsGiven}
use Rattle.layout_make.proofs.Layered.{is_pin}
use Rattle.layout_make.proofs.KeptRules.{LiesIn, HasPins, E1}
use Rattle.layout_make.proofs.Joins.{to_map, shapes_of, same_at}
use Rattle.layout_make.proofs.Cells.{Columns, Inside, pin_columns, pin_inside, pin_of_frame, one_frame}
use Rattle.layout_make.proofs.DrawnRules.{inside_test, test_inside, frame_at, pin_tag_at}

frames_same : (r a b : ℕ) (k m : CellKind) → Frame r a k ≡ Frame r b m → (a ≡ b) × (k ≡ m)
frames_same r a b k m e = (cc, cc)

-- A pin in a frame, by tags.
pub record PinOf (s : Sheet) (ts : List Tag) (side : Side) (f p i : ℕ) : Type 0 where
  pub row : ℕ
  pub slot : ℕ
  pub kind : CellKind
  pub column : ℕ
  pub frame_at : At ts f (Frame row slot kind)
  pub pin_at : At ts p (pin_tag side row column i)
  pub columns : Columns s slot kind column

inside_of : (s : Sheet) (t u : Tag) (a b : Shape) → shape_of s t ≡ a → shape_of s u ≡ b
    → place_of s t ≡ rect_of (area s t) → place_of s u ≡ rect_of (area s u) → within a.rect b.rect ≡ true
    → Inside (area s t) (area s u)
inside_of s t u a b ea eb pt pu e =
    test_inside (area s t) (area s u) (sym (ap (λ (x : Rectangle). within x (rect_of (area s u))) pt)
    ∙ sym (ap (λ (x : Rectangle). within (place_of s t) x) pu) ∙ ap (λ (x : Shape). within x.rect (place_of s u)) ea
    ∙ ap (λ (x : Shape). within a.rect x.rect) eb ∙ e)

pub pin_of : (s : Sheet) (ts : List Tag) → IsDrawn s ts → (side : Side) (f p i : ℕ)
    → LiesIn (shapes_of s ts) f p (layer_on side) i → PinOf s ts side f p i
pin_of s ts is side f p i h =
    let frame = frame_at s ts f h.frame h.frame_is h.of_frame in
    let u = pin_tag_at s ts side p h.pin h.pin_is h.of_layer in
    let number : u.2 ≡ i = sym (pin_number s side u.0 u.1 u.2) ∙ ap (λ (x : Shape). x.datatype) u.4 ∙ h.of_number in
    let x = pin_of_frame s is.routed.laws side u.0 frame.0 u.1 u.2 frame.1 frame.2
    (inside_of s (pin_tag side u.0 u.1 u.2) (Frame frame.0 frame.1 frame.2) h.pin h.frame u.4 frame.4
    (pin_place s side u.0 u.1 u.2) refl h.inside) in
    record {
      row = u.0;
      slot = frame.1;
      kind = frame.2;
      column = u.1;
      frame_at = subst (λ (n : ℕ). At ts f (Frame n frame.1 frame.2)) (sym x.0) frame.3;
      pin_at = subst (λ (n : ℕ). At ts p (pin_tag side u.0 u.1 n)) number u.3;
      columns = x.1;
    }

pub pin_lies : (s : Sheet) (ts : List Tag) → IsDrawn s ts → (side : Side) (f p r slot c i : ℕ) (k : CellKind)
    → At ts f (Frame r slot k) → At ts p (pin_tag side r c i) → Columns s slot k c
    → LiesIn (shapes_of s ts) f p (layer_on side) i
pin_lies s ts is side f p r slot c i k af ap' col =
    record {
      frame = shape_of s (Frame r slot k);
      pin = shape_of s (pin_tag side r c i);
      frame_is = to_map (shape_of s) ts f (Frame r slot k) af;
      pin_is = to_map (shape_of s) ts p (pin_tag side r c i) ap';
      of_frame = refl;
      of_layer = pin_layer side r c i;
      of_number = pin_number s side r c i;
      inside = ap (λ (x : Rectangle). within x (rect_of (area s (Frame r slot k)))) (pin_place s side r c i)
          ∙ inside_test (area s (pin_tag side r c i)) (area s (Frame r slot k))
          (pin_inside s is.routed.laws side r c i slot k col);
    }

-- the library gives the kind of a cell that stands
kind_given : (s : Sheet) (ts : List Tag) → IsDrawn s ts → (r : ℕ) (o : Owner ts r) → IsGiven s.library o.kind
kind_given s ts is r o = (is.fits o.stands.0 (Frame r o.slot o.kind) o.stands.1).2

-- a pin's cell, with the pin in its columns
pin_owner : (s : Sheet) (ts : List Tag) → IsDrawn s ts → HasCells s ts → (side : Side) (p r c i : ℕ)
    → At ts p (pin_tag side r c i) → (o : Owner ts r) × (i < pins_on side o.kind)
    × (c ≡ column_at s side o.slot o.kind i) × Columns s o.slot o.kind c
pin_owner s ts is has side p r c i at = let o = has.pins_owned side p r c i at in (
  o.0,
  o.1,
  o.2,
  subst (Columns s o.0.slot o.0.kind) (sym o.2)
      (pin_columns s is.routed.laws side o.0.slot i o.0.kind (kind_given s ts is r o.0) o.1),
)

-- a pin in a frame's columns is the cell's own
own_pin : (s : Sheet) (ts : List Tag) → IsDrawn s ts → HasCells s ts → (side : Side) (f p r slot c i : ℕ)
    (k : CellKind) → At ts f (Frame r slot k) → At ts p (pin_tag side r c i) → Columns s slot k c
    → (i < pins_on side k) × (c ≡ column_at s side slot k i)
own_pin s ts is has side f p r slot c i k af ap' col =
    let o = pin_owner s ts is has side p r c i ap' in
    let e = one_frame s ts has o.0.stands.0 f r c o.0.slot slot o.0.kind k o.0.stands.1 af o.3 col in
    let same = frames_same r o.0.slot slot o.0.kind k
    (same_at ts f (Frame r o.0.slot o.0.kind) (Frame r slot k)
    (subst (λ (n : ℕ). At ts n (Frame r o.0.slot o.0.kind)) e o.0.stands.1) af) in (
      subst (λ (m : CellKind). i < pins_on side m) same.1 o.1,
      o.2 ∙ ap (λ (n : ℕ). column_at s side n o.0.kind i) same.0
          ∙ ap (λ (m : CellKind). column_at s side slot m i) same.1,
    )

frames_all : (r a q b : ℕ) (k m : CellKind) → Frame r a k ≡ Frame q b m → (r ≡ q) × (a ≡ b) × (k ≡ m)
frames_all r a q b k m e = (cc, cc, cc)

-- a pin of frame f, in f's own terms
at_frame : (s : Sheet) (ts : List Tag) → IsDrawn s ts → HasCells s ts → (side : Side) (f p i r slot : ℕ) (k : CellKind)
    → At ts f (Frame r slot k) → LiesIn (shapes_of s ts) f p (layer_on side) i → (i < pins_on side k)
    × At ts p (pin_tag side r (column_at s side slot k i) i)
at_frame s ts is has side f p i r slot k af h =
    let x = pin_of s ts is side f p i h in
    let e = frames_all x.row x.slot r slot x.kind k
    (same_at ts f (Frame x.row x.slot x.kind) (Frame r slot k) x.frame_at af) in
    let o = own_pin s ts is has side f p x.row x.slot x.column i x.kind x.frame_at x.pin_at x.columns in (
      subst (λ (m : CellKind). i < pins_on side m) e.2 o.0,
      subst (λ (t : Tag). At ts p t)
          (ap (λ (n : ℕ). pin_tag side n x.column i) e.0
          ∙ ap (λ (n : ℕ). pin_tag side r n i) (o.1 ∙ ap (λ (n : ℕ). column_at s side n x.kind i) e.1
          ∙ ap (λ (m : CellKind). column_at s side slot m i) e.2)) x.pin_at,
    )

frame_pins : (s : Sheet) (ts : List Tag) → IsDrawn s ts → HasCells s ts → (side : Side) (f r slot : ℕ) (k : CellKind)
    → At ts f (Frame r slot k) → HasPins (shapes_of s ts) f (layer_on side) (pins_on side k)
frame_pins s ts is has side f r slot k af = record {
  each = λ i lt. let p = has.pins_there side r slot i k (f, af) lt in (
    p.0,
    pin_lies s ts is side f p.0 r slot (column_at s side slot k i) i k af p.1
        (pin_columns s is.routed.laws side slot i k (is.fits f (Frame r slot k) af).2 lt),
  );
  one = λ i p q hp hq. is.once p q (pin_tag side r (column_at s side slot k i) i)
      (at_frame s ts is has side f p i r slot k af hp).1 (at_frame s ts is has side f q i r slot k af hq).1;
  no_other = λ i p h. (at_frame s ts is has side f p i r slot k af h).0;
}

pin_cases : (n : ℕ) → is_pin n ≡ true → (side : Side) × (n ≡ layer_on side)
pin_cases n e = go (n == 21) (n == 22) refl refl e
  where
    same : (a b : ℕ) → (a == b) ≡ true → a ≡ b
    same a b e = grind (arith, nat_tests)

    go : (b c : Bool) → (n == 21) ≡ b → (n == 22) ≡ c → (b || c) ≡ true → (side : Side) × (n ≡ layer_on side)
    go true c p q e = (Inputs, same n 21 p)
    go false true p q e = (Outputs, same n 22 q)
    go false false p q e = absurd cc

one_of_pin : (s : Sheet) (ts : List Tag) → IsDrawn s ts → HasCells s ts → (side : Side) (f g p i : ℕ)
    → LiesIn (shapes_of s ts) f p (layer_on side) i → LiesIn (shapes_of s ts) g p (layer_on side) i → f ≡ g
one_of_pin s ts is has side f g p i hf hg =
    let x = pin_of s ts is side f p i hf in
    let y = pin_of s ts is side g p i hg in
    let e = pin_told side side x.row x.column i y.row y.column i (same_at ts p _ _ x.pin_at y.pin_at) in
    one_frame s ts has f g x.row x.column x.slot y.slot x.kind y.kind x.frame_at
    (subst (λ (n : ℕ). At ts g (Frame n y.slot y.kind)) (sym e.1) y.frame_at) x.columns
    (subst (Columns s y.slot y.kind) (sym e.2) y.columns)

pub drawn_e1 : (s : Sheet) (ts : List Tag) → IsDrawn s ts → HasCells s ts → E1 (shapes_of s ts)
drawn_e1 s ts is has = record {
  some = let rows = is.routed.rows_some in let o = has.frames_some 0 (omega arith) in (
    o.stands.0,
    shape_of s (Frame 0 o.slot o.kind),
    to_map (shape_of s) ts o.stands.0 (Frame 0 o.slot o.kind)
        o.stands.1,
    refl,
  );
  cells = λ f frame at l.
      let a = frame_at s ts f frame at l in
      record {
        kind = a.2;
        kind_so = sym (ap (λ (x : Shape). x.datatype) a.4);
        inputs = frame_pins s ts is has Inputs f a.0 a.1 a.2 a.3;
        outputs = frame_pins s ts is has Outputs f a.0 a.1 a.2 a.3;
      };
  each_in = λ p pin at l.
      let c = pin_cases pin.layer l in
      let u = pin_tag_at s ts c.0 p pin at c.1 in
      let o = pin_owner s ts is has c.0 p u.0 u.1 u.2 u.3 in
      let h = pin_lies s ts is c.0 o.0.stands.0 p u.0 o.0.slot u.1 u.2 o.0.kind o.0.stands.1 u.3 o.3 in (
        o.0.stands.0,
        subst (λ (n : ℕ). LiesIn (shapes_of s ts) o.0.stands.0 p n pin.datatype) (sym c.1)
            (subst (λ (n : ℕ). LiesIn (shapes_of s ts) o.0.stands.0 p (layer_on c.0) n)
            (sym (pin_number s c.0 u.0 u.1 u.2) ∙ ap (λ (x : Shape). x.datatype) u.4) h),
      );
  one_frame = λ f g p layer i l hf hg.
      let c = pin_cases layer l in
      one_of_pin s ts is has c.0 f g p i (subst (λ (n : ℕ). LiesIn (shapes_of s ts) f p n i) c.1 hf)
      (subst (λ (n : ℕ). LiesIn (shapes_of s ts) g p n i) c.1 hg);
}
