-- The rules of a drawing, over its flat form.
use Rattle.std.proofs.Common.{◌≡◌, ℕ, zero, suc, ◌+◌, ◌-◌, ◌/◌, ◌%◌, ◌<◌, ◌≤◌, min, max, cond, Bool, true, false, ◌||◌}
use Rattle.std.proofs.Common.{◌&&◌, refl, sym, ap, subst, ◌∙◌, arith, ◌⊎◌, inl, inr, List}
use Rattle.std.specs.Prelude.{pos, ◌-ℤ◌, ℤ, int_le, int_lt, nat_lt}
use Rattle.std.proofs.lemmas.Bool.Decides.{nat_tests}
use Rattle.std.proofs.lemmas.Int.{ints}
use Rattle.std.specs.Int.{int_min, int_max}
use Rattle.geom.specs.Rectangle.{common, Rectangle, overlap, within, width, height, grown}
use Rattle.cell_library.specs.Library.{LibraryView, limits_of}
use Rattle.layout_make.proofs.Lawful.{IsLawful}
use Rattle.circuit.specs.declared.cell_kind.CellKind.{CellKind}
use Rattle.geom.specs.declared.shapes.Shape.{Shape}
use Rattle.layout_rules.specs.GeometryRules.{are_too_close, is_below, is_too_small}
use Rattle.layout_make.specs.Sheet.{Sheet, Tag, Area, Frame, InPin, OutPin, Lead, Bar, Rise, Fall, Across, FromVia}
use Rattle.layout_make.specs.Sheet.{ToVia, area, layer_of, rect_of, place_of, shape_of, lower_edge, track_of}
use Rattle.layout_make.specs.declared.marks.Ports.{Ports as Side}
use Rattle.layout_make.specs.declared.marks.Ports.TheVariants.{Inputs, Outputs}
use Rattle.layout_make.proofs.Sides.{pin_tag, layer_on}
use Rattle.layout_make.proofs.SheetKeeps.{IsWire, Fits, Stands, IsDrawn, HasCells}
use Rattle.layout_make.specs.Tags.{At}
use Rattle.layout_make.specs.Laws.{Is}
use Rattle.layout_make.proofs.KeptRules.{G1, G2, G3, G4, G5, Encloses, holds_common, OverPin}
use Rattle.layout_make.proofs.Layered.{is_pin}
use Rattle.layout_make.proofs.Joins.{from_map, to_map, shapes_of}
use Rattle.layout_make.proofs.Spaced.{difference, spaced}
use Rattle.layout_make.proofs.ShapeSizes.{Sized, rise_sized, fall_sized, across_sized, from_sized, to_sized}
use Rattle.layout_make.proofs.ShapeSizes.{pin_sized, Covers, rise_covers, fall_covers}
use Rattle.layout_make.proofs.ShapeSizes.{across_covers_from, across_covers_to}
use Rattle.layout_make.proofs.Cells.{Inside, Overlaps, pin_inside, frames_overlap, rise_over}
use Rattle.layout_make.proofs.Cells.{fall_over, across_over, rows_meet}
use Rattle.layout_make.proofs.Columns.{track_above}
use Rattle.layout_make.proofs.Comparing.{four, le_of, lt_of, not_lt}

-- from areas to tests

pub inside_test : (a b : Area) → Inside a b → within (rect_of a) (rect_of b) ≡ true
inside_test a b h = plain a.left a.low a.right a.high b.left b.low b.right b.high h.left_so h.low_so h.right_so
    h.high_so
  where
    plain : (p q r s t u v w : ℕ) → t ≤ p → u ≤ q → r ≤ v → s ≤ w
        → (int_le (pos t) (pos p) && int_le (pos r) (pos v) && (int_le (pos u) (pos q) && int_le (pos s) (pos w))) ≡
        true
    plain p q r s t u v w e f g h = grind (arith, nat_tests)

pub test_inside : (a b : Area) → within (rect_of a) (rect_of b) ≡ true → Inside a b
test_inside a b e =
    let h = four _ _ _ _ e in
    record {
      left_so = le_of b.left a.left h.0;
      low_so = le_of b.low a.low h.2;
      right_so = le_of a.right b.right h.1;
      high_so = le_of a.high b.high h.3;
    }

pub test_overlaps : (a b : Area) → overlap (rect_of a) (rect_of b) ≡ true → Overlaps a b
test_overlaps a b e =
    let h = four _ _ _ _ e in
    record {
      left_so = lt_of a.left b.right h.0;
      right_so = lt_of b.left a.right h.1;
      low_so = lt_of a.low b.high h.2;
      high_so = lt_of b.low a.high h.3;
    }

sized_test : (w h : ℕ) (a : Area) → Sized w h a → is_below w h (rect_of a) ≡ false
sized_test w h a s =
    let x = difference (pos a.right -ℤ pos a.left) a.right a.left refl in
    let y = difference (pos a.high -ℤ pos a.low) a.high a.low refl in
    let p = s.wide in let q = s.high in
    plain (width (rect_of a)) (height (rect_of a)) w h (omega arith) (omega arith)
  where
    plain : (x y w h : ℕ) → w ≤ x → h ≤ y → (nat_lt x w || nat_lt y h) ≡ false
    plain x y w h e f = grind (arith, nat_tests)

less_pos : (a n : ℕ) → n ≤ a → pos a -ℤ pos n ≡ pos (a - n)
less_pos a n le = omega (arith, ints)

covers_test : (n : ℕ) (v m : Area) → Covers n v m → within (grown n (rect_of v)) (rect_of m) ≡ true
covers_test n v m c =
    let a = c.left_so in let b = c.low_so in let d = c.right_so in let e = c.high_so in
    let x = less_pos v.left n (omega arith) in
    let y = less_pos v.low n (omega arith) in
    ap (λ (z : ℤ). int_le (pos m.left) z && int_le (pos (v.right + n))
    (pos m.right) && (int_le (pos m.low) (pos v.low -ℤ pos n) && int_le (pos (v.high + n)) (pos m.high))) x
    ∙ ap (λ (z : ℤ). int_le (pos m.left) (pos (v.left - n)) && int_le (pos (v.right + n))
    (pos m.right) && (int_le (pos m.low) z && int_le (pos (v.high + n)) (pos m.high))) y
    ∙ inside_test (record { left = v.left - n; low = v.low - n; right = v.right + n; high = v.high + n }) m
    (record { left_so = omega arith; low_so = omega arith; right_so = omega arith; high_so = omega arith })

-- no more than its own size is asked of metal or a via, and none of a line
of_metal : (b : Bool) → b ≡ false → (b || false || false) ≡ false
of_metal true e = e
of_metal false e = refl

of_via : (b : Bool) → b ≡ false → (b || false) ≡ false
of_via true e = e
of_via false e = refl

of_line : (l : LibraryView) (n : ℕ) → n < 2 → (x : Rectangle)
    → is_too_small (limits_of l) (record { layer = 14 + n; datatype = 0; rect = x }) ≡ false
of_line l zero h x = refl
of_line l (suc zero) h x = refl
of_line l (suc (suc n)) h x = absurd (omega arith)

-- G1
pub sized : (s : Sheet) → IsLawful s.library → (t : Tag) → Fits s t
    → is_too_small (limits_of s.library) (shape_of s t) ≡ false
sized s laws (Frame r slot k) fits = refl
sized s laws (InPin r c i) fits = sized_test s.library.wire s.library.pin (area s (InPin r c i))
    (pin_sized s laws Inputs r c i)
sized s laws (OutPin r c i) fits = sized_test s.library.wire s.library.pin (area s (OutPin r c i))
    (pin_sized s laws Outputs r c i)
sized s laws (Rise r c) fits = of_metal (is_below s.library.wire s.library.wire (place_of s (Rise r c)))
    (sized_test s.library.wire s.library.wire (area s (Rise r c)) (rise_sized s laws r c))
sized s laws (Fall r c) fits = of_metal (is_below s.library.wire s.library.wire (place_of s (Fall r c)))
    (sized_test s.library.wire s.library.wire (area s (Fall r c)) (fall_sized s laws r c fits))
sized s laws (Across r c) fits = of_metal (is_below s.library.wire s.library.wire (place_of s (Across r c)))
    (sized_test s.library.wire s.library.wire (area s (Across r c)) (across_sized s laws r c))
sized s laws (FromVia r c) fits = of_via (is_below s.library.via s.library.via (place_of s (FromVia r c)))
    (sized_test s.library.via s.library.via (area s (FromVia r c)) (from_sized s laws r c))
sized s laws (ToVia r c) fits = of_via (is_below s.library.via s.library.via (place_of s (ToVia r c)))
    (sized_test s.library.via s.library.via (area s (ToVia r c)) (to_sized s laws r c))
sized s laws (Lead r) fits = of_line s.library (suc r % 2) (omega arith) (place_of s (Lead r))
sized s laws (Bar r) fits = of_line s.library (suc r % 2) (omega arith) (place_of s (Bar r))

-- the tag of a shape
pub tag_of : (s : Sheet) (ts : List Tag) (i : ℕ) (a : Shape) → Is (shapes_of s ts) i a → (t : Tag) × At ts i t
    × (shape_of s t ≡ a)
tag_of s ts i a is = from_map (shape_of s) ts i a is

pub drawn_g1 : (s : Sheet) (ts : List Tag) → IsDrawn s ts → G1 s.library (shapes_of s ts)
drawn_g1 s ts is i a at = let t = tag_of s ts i a at in
    sym (ap (λ (x : Shape). is_too_small (limits_of s.library) x) t.2) ∙ sized s is.routed.laws t.0 (is.fits i t.0 t.1)

pub drawn_g2 : (s : Sheet) (ts : List Tag) → IsDrawn s ts → G2 s.library (shapes_of s ts)
drawn_g2 s ts is i j a b ai bj =
    let t = tag_of s ts i a ai in
    let u = tag_of s ts j b bj in
    sym (ap (λ (x : Shape). are_too_close s.library.space x b) t.2)
    ∙ sym (ap (λ (x : Shape). are_too_close s.library.space (shape_of s t.0) x) u.2)
    ∙ spaced s is.routed t.0 u.0 (is.fits i t.0 t.1) (is.fits j u.0 u.1)

-- tags by their layers

line_not : (r n : ℕ) → 14 + r % 2 ≡ n → (n ≡ 14 → ⊥) → (n ≡ 15 → ⊥) → ⊥
line_not r n e f g = go (r % 2) (omega arith) e
  where
    go : (m : ℕ) → m < 2 → 14 + m ≡ n → ⊥
    go zero h e = f (sym e)
    go (suc zero) h e = g (sym e)
    go (suc (suc m)) h e = omega arith

pin_layers : (side : Side) → 21 ≤ layer_on side
pin_layers Inputs = omega arith
pin_layers Outputs = omega arith

pub frame_tag : (t : Tag) → layer_of t ≡ 20 → (r slot : ℕ) × (k : CellKind) × (t ≡ Frame r slot k)
frame_tag (Frame r slot k) e = (r, slot, k, refl)
frame_tag (Lead r) e = absurd (line_not (suc r) 20 e (λ x. omega arith) (λ x. omega arith))
frame_tag (Bar r) e = absurd (line_not (suc r) 20 e (λ x. omega arith) (λ x. omega arith))
frame_tag t e = absurd (omega arith)

pub pin_of_layer : (side : Side) (t : Tag) → layer_of t ≡ layer_on side → (r c i : ℕ) × (t ≡ pin_tag side r c i)
pin_of_layer Inputs (InPin r c i) e = (r, c, i, refl)
pin_of_layer Outputs (InPin r c i) e = absurd (omega arith)
pin_of_layer Outputs (OutPin r c i) e = (r, c, i, refl)
pin_of_layer Inputs (OutPin r c i) e = absurd (omega arith)
pin_of_layer side (Lead r) e = absurd (let k = pin_layers side in line_not (suc r) (layer_on side) e (λ x. omega arith)
    (λ x. omega arith))
pin_of_layer side (Bar r) e = absurd (let k = pin_layers side in line_not (suc r) (layer_on side) e (λ x. omega arith)
    (λ x. omega arith))
pin_of_layer side t e = absurd (let k = pin_layers side in omega arith)

pub via_tag : (t : Tag) → layer_of t ≡ 11 → (r c : ℕ) × ((t ≡ FromVia r c) ⊎ (t ≡ ToVia r c))
via_tag (FromVia r c) e = (r, c, inl refl)
via_tag (ToVia r c) e = (r, c, inr refl)
via_tag (Lead r) e = absurd (line_not (suc r) 11 e (λ x. omega arith) (λ x. omega arith))
via_tag (Bar r) e = absurd (line_not (suc r) 11 e (λ x. omega arith) (λ x. omega arith))
via_tag t e = absurd (omega arith)

pub across_tag : (t : Tag) → layer_of t ≡ 12 → (r c : ℕ) × (t ≡ Across r c)
across_tag (Across r c) e = (r, c, refl)
across_tag (Lead r) e = absurd (line_not (suc r) 12 e (λ x. omega arith) (λ x. omega arith))
across_tag (Bar r) e = absurd (line_not (suc r) 12 e (λ x. omega arith) (λ x. omega arith))
across_tag t e = absurd (omega arith)

pub lower_tag : (t : Tag) → layer_of t ≡ 10 → (r c : ℕ) × ((t ≡ Rise r c) ⊎ (t ≡ Fall r c))
lower_tag (Rise r c) e = (r, c, inl refl)
lower_tag (Fall r c) e = (r, c, inr refl)
lower_tag (Lead r) e = absurd (line_not (suc r) 10 e (λ x. omega arith) (λ x. omega arith))
lower_tag (Bar r) e = absurd (line_not (suc r) 10 e (λ x. omega arith) (λ x. omega arith))
lower_tag t e = absurd (omega arith)

-- G3
encloses : (s : Sheet) (ts : List Tag) (layer : ℕ) (v : Shape) (t u : Tag) → shape_of s t ≡ v
    → place_of s t ≡ rect_of (area s t) → place_of s u ≡ rect_of (area s u) → Stands ts u → layer_of u ≡ layer
    → Covers s.library.enclose (area s t) (area s u) → Encloses s.library (shapes_of s ts) layer v
encloses s ts layer v t u e f g stands l c = record {
  number = stands.0;
  shape = shape_of s u;
  at = to_map (shape_of s) ts stands.0 u stands.1;
  of_layer = l;
  contains = sym (ap (λ (x : Shape). within (grown s.library.enclose x.rect) (place_of s u)) e)
      ∙ ap (λ (x : Rectangle). within (grown s.library.enclose x) (place_of s u)) f
      ∙ ap (λ (x : Rectangle). within (grown s.library.enclose (rect_of (area s t))) x) g
      ∙ covers_test s.library.enclose (area s t) (area s u) c;
}

pub drawn_g3 : (s : Sheet) (ts : List Tag) → IsDrawn s ts → G3 s.library (shapes_of s ts)
drawn_g3 s ts is i v at l =
    let t = tag_of s ts i v at in
    let via = via_tag t.0 (ap (λ (x : Shape). x.layer) t.2 ∙ l) in
    elim via.2 [
      | inl e ↦ from via.0 via.1 (subst (λ (x : Tag). At ts i x) e t.1) (sym (ap (shape_of s) e) ∙ t.2)
      | inr e ↦ to via.0 via.1 (subst (λ (x : Tag). At ts i x) e t.1) (sym (ap (shape_of s) e) ∙ t.2)
    ]
  where
    from : (r c : ℕ) → At ts i (FromVia r c) → shape_of s (FromVia r c) ≡ v → Encloses s.library (shapes_of s ts) 10 v
        × Encloses s.library (shapes_of s ts) 12 v
    from r c at e =
        let w : IsWire s r c = is.fits i (FromVia r c) at in (
          encloses s ts 10 v (FromVia r c) (Rise r c) e refl refl (is.rises r c w) refl
              (rise_covers s is.routed.laws r c),
          encloses s ts 12 v (FromVia r c) (Across r c) e refl refl (is.crosses r c w) refl
              (across_covers_from s is.routed.laws r c),
        )

    to : (r c : ℕ) → At ts i (ToVia r c) → shape_of s (ToVia r c) ≡ v → Encloses s.library (shapes_of s ts) 10 v
        × Encloses s.library (shapes_of s ts) 12 v
    to r c at e =
        let w : IsWire s r c = is.fits i (ToVia r c) at in (
          encloses s ts 10 v (ToVia r c) (Fall r c) e refl refl (is.falls r c w) refl
              (fall_covers s is.routed.laws r c w),
          encloses s ts 12 v (ToVia r c) (Across r c) e refl refl (is.crosses r c w) refl
              (across_covers_to s is.routed.laws r c),
        )

-- G4

max_at : (a b : ℕ) → int_max (pos a) (pos b) ≡ pos (max a b)
max_at a b = go (int_lt (pos b) (pos a)) refl
  where
    go : (x : Bool) → int_lt (pos b) (pos a) ≡ x → cond x (pos a) (pos b) ≡ pos (max a b)
    go true e = let k = lt_of b a e in ap pos (omega arith)
    go false e = let k : a ≤ b = not_lt b a e in ap pos (omega arith)

min_at : (a b : ℕ) → int_min (pos a) (pos b) ≡ pos (min a b)
min_at a b = go (int_lt (pos b) (pos a)) refl
  where
    go : (x : Bool) → int_lt (pos b) (pos a) ≡ x → cond x (pos b) (pos a) ≡ pos (min a b)
    go true e = let k = lt_of b a e in ap pos (omega arith)
    go false e = let k : a ≤ b = not_lt b a e in ap pos (omega arith)

abbrev shared_area : Area → Area → Area
shared_area a f =
    record { left = max a.left f.left; low = max a.low f.low; right = min a.right f.right; high = min a.high f.high }

common_at : (a f : Area) → common (rect_of a) (rect_of f) ≡ rect_of (shared_area a f)
common_at a f = let p = max_at a.left f.left in let q = max_at a.low f.low in let r = min_at a.right f.right in
    let s = min_at a.high f.high in same_rect _ _ _ _ _ _ _ _ p q r s
  where
    same_rect : (a b c d e f g h : ℤ) → a ≡ e → b ≡ f → c ≡ g → d ≡ h
        → ◌≡◌ {A = Rectangle} (record { x0 = a; y0 = b; x1 = c; y1 = d }) (record { x0 = e; y0 = f; x1 = g; y1 = h })
    same_rect a b c d e f g h p q r s = cc

common_test : (a f p : Area) → (p.left ≤ a.left) → (p.low ≤ a.low) ⊎ (p.low ≤ f.low) → (a.right ≤ p.right)
    → (a.high ≤ p.high) ⊎ (f.high ≤ p.high) → holds_common (rect_of a) (rect_of f) (rect_of p) ≡ true
common_test a f p l b r h = ap (λ (x : Rectangle). within x (rect_of p)) (common_at a f)
    ∙ inside_test (shared_area a f) p
    (record { left_so = omega arith; low_so = low b; right_so = omega arith; high_so = high h })
  where
    low : (p.low ≤ a.low) ⊎ (p.low ≤ f.low) → p.low ≤ max a.low f.low
    low (inl x) = omega arith
    low (inr x) = omega arith

    high : (a.high ≤ p.high) ⊎ (f.high ≤ p.high) → min a.high f.high ≤ p.high
    high (inl x) = omega arith
    high (inr x) = omega arith

over_pin : (s : Sheet) (ts : List Tag) (a f : Shape) (pin : Tag) (t : Tag) (r slot : ℕ) (k : CellKind)
    → shape_of s t ≡ a → shape_of s (Frame r slot k) ≡ f → place_of s t ≡ rect_of (area s t)
    → place_of s pin ≡ rect_of (area s pin) → is_pin (layer_of pin) ≡ true → Stands ts pin
    → Inside (area s pin) (area s (Frame r slot k))
    → holds_common (rect_of (area s t)) (rect_of (area s (Frame r slot k))) (rect_of (area s pin)) ≡ true
    → OverPin (shapes_of s ts) a f
over_pin s ts a f pin t r slot k ea ef pt pp is_p stands inside common = record {
  number = stands.0;
  pin = shape_of s pin;
  at = to_map (shape_of s) ts stands.0 pin stands.1;
  of_pin = is_p;
  in_frame = sym (ap (λ (x : Shape). within (place_of s pin) x.rect) ef)
      ∙ ap (λ (x : Rectangle). within x (rect_of (area s (Frame r slot k)))) pp
      ∙ inside_test (area s pin) (area s (Frame r slot k)) inside;
  common = sym (ap (λ (x : Shape). holds_common x.rect f.rect (place_of s pin)) ea)
      ∙ sym (ap (λ (x : Shape). holds_common (place_of s t) x.rect (place_of s pin)) ef)
      ∙ ap (λ (x : Rectangle). holds_common x (rect_of (area s (Frame r slot k))) (place_of s pin)) pt
      ∙ ap (λ (x : Rectangle). holds_common (rect_of (area s t)) (rect_of (area s (Frame r slot k))) x) pp ∙ common;
}

overlap_areas : (a f : Shape) (s : Sheet) (t u : Tag) → shape_of s t ≡ a → shape_of s u ≡ f
    → place_of s t ≡ rect_of (area s t) → place_of s u ≡ rect_of (area s u) → overlap a.rect f.rect ≡ true
    → Overlaps (area s t) (area s u)
overlap_areas a f s t u ea ef pt pu e =
    test_overlaps (area s t) (area s u) (sym (ap (λ (x : Rectangle). overlap x (rect_of (area s u))) pt)
    ∙ sym (ap (λ (x : Rectangle). overlap (place_of s t) x) pu) ∙ ap (λ (x : Shape). overlap x.rect (place_of s u)) ea
    ∙ ap (λ (x : Shape). overlap a.rect x.rect) ef ∙ e)

g4_rise : (s : Sheet) (ts : List Tag) → IsDrawn s ts → HasCells s ts → (a f : Shape) (i r c q slot : ℕ) (k : CellKind)
    → At ts i (Rise r c) → shape_of s (Rise r c) ≡ a → shape_of s (Frame q slot k) ≡ f → overlap a.rect f.rect ≡ true
    → OverPin (shapes_of s ts) a f
g4_rise s ts is has a f i r c q slot k at ea ef e =
    let w : IsWire s r c = is.fits i (Rise r c) at in
    let o = overlap_areas a f s (Rise r c) (Frame q slot k) ea ef refl refl e in
    let x = rise_over s is.routed.laws r c q slot k w o in
    let pin = has.wire_begins r c w in
    let ef' : shape_of s (Frame r slot k) ≡ f = ap (λ (n : ℕ). shape_of s (Frame n slot k)) x.0 ∙ ef in
    over_pin s ts a f (OutPin r c pin.0) (Rise r c) r slot k ea ef' refl refl refl pin.1
    (pin_inside s is.routed.laws Outputs r c pin.0 slot k x.1)
    (common_test (area s (Rise r c)) (area s (Frame r slot k)) (area s (OutPin r c pin.0)) (omega arith)
    (inl (omega arith)) (omega arith) (inr (omega arith)))

g4_fall : (s : Sheet) (ts : List Tag) → IsDrawn s ts → HasCells s ts → (a f : Shape) (i r c q slot : ℕ) (k : CellKind)
    → At ts i (Fall r c) → shape_of s (Fall r c) ≡ a → shape_of s (Frame q slot k) ≡ f → overlap a.rect f.rect ≡ true
    → OverPin (shapes_of s ts) a f
g4_fall s ts is has a f i r c q slot k at ea ef e =
    let w : IsWire s r c = is.fits i (Fall r c) at in
    let o = overlap_areas a f s (Fall r c) (Frame q slot k) ea ef refl refl e in
    let x = fall_over s is.routed.laws r c q slot k w o in
    let pin = has.wire_ends r c w in
    let ef' : shape_of s (Frame (suc r) slot k) ≡ f = ap (λ (n : ℕ). shape_of s (Frame n slot k)) x.0 ∙ ef in
    over_pin s ts a f (InPin (suc r) (s.to r c) pin.0) (Fall r c) (suc r) slot k ea ef' refl refl refl pin.1
    (pin_inside s is.routed.laws Inputs (suc r) (s.to r c) pin.0 slot k x.1)
    (common_test (area s (Fall r c)) (area s (Frame (suc r) slot k)) (area s (InPin (suc r) (s.to r c) pin.0))
    (omega arith) (inr (omega arith)) (omega arith) (inl (omega arith)))

-- nothing that lies within a wire's channel overlaps a frame
g4_upper : (s : Sheet) (ts : List Tag) → IsDrawn s ts → (a f : Shape) (i r c q slot : ℕ) (k : CellKind) (t u : Tag)
    → t ≡ u → At ts i t → shape_of s t ≡ a → shape_of s (Frame q slot k) ≡ f → overlap a.rect f.rect ≡ true
    → place_of s u ≡ rect_of (area s u) → (Fits s u → IsWire s r c)
    → track_of s r c ≤ (area s u).low + s.library.wire / 2 → (area s u).high ≤ track_of s r c + s.library.wire / 2 → ⊥
g4_upper s ts is a f i r c q slot k t u same at ea ef e place wire low high =
    across_over s is.routed.laws r c q slot k (area s u)
    (wire (is.fits i u (subst (λ (x : Tag). At ts i x) same at))) low high
    (overlap_areas a f s u (Frame q slot k) (sym (ap (shape_of s) same) ∙ ea) ef place refl e)

pub frame_at : (s : Sheet) (ts : List Tag) (j : ℕ) (f : Shape) → Is (shapes_of s ts) j f → f.layer ≡ 20
    → (r slot : ℕ) × (k : CellKind) × At ts j (Frame r slot k) × (shape_of s (Frame r slot k) ≡ f)
frame_at s ts j f at l =
    let t = tag_of s ts j f at in
    let u = frame_tag t.0 (ap (λ (x : Shape). x.layer) t.2 ∙ l) in
    (u.0, u.1, u.2, subst (λ (x : Tag). At ts j x) u.3 t.1, sym (ap (shape_of s) u.3) ∙ t.2)

pub pin_tag_at : (s : Sheet) (ts : List Tag) (side : Side) (i : ℕ) (a : Shape) → Is (shapes_of s ts) i a
    → a.layer ≡ layer_on side → (r c n : ℕ) × At ts i (pin_tag side r c n) × (shape_of s (pin_tag side r c n) ≡ a)
pin_tag_at s ts side i a at e =
    let t = tag_of s ts i a at in
    let u = pin_of_layer side t.0 (ap (λ (x : Shape). x.layer) t.2 ∙ e) in
    (u.0, u.1, u.2, subst (λ (x : Tag). At ts i x) u.3 t.1, sym (ap (shape_of s) u.3) ∙ t.2)

pub drawn_g4 : (s : Sheet) (ts : List Tag) → IsDrawn s ts → HasCells s ts → G4 (shapes_of s ts)
drawn_g4 s ts is has = record {
  lower = λ i j a f ai fj la lf e.
      let frame = frame_at s ts j f fj lf in
      let t = tag_of s ts i a ai in
      let u = lower_tag t.0 (ap (λ (x : Shape). x.layer) t.2 ∙ la) in
      elim u.2 [
        | inl r ↦ g4_rise s ts is has a f i u.0 u.1 frame.0 frame.1 frame.2 (subst (λ (x : Tag). At ts i x) r t.1)
            (sym (ap (shape_of s) r) ∙ t.2) frame.4 e
        | inr r ↦ g4_fall s ts is has a f i u.0 u.1 frame.0 frame.1 frame.2 (subst (λ (x : Tag). At ts i x) r t.1)
            (sym (ap (shape_of s) r) ∙ t.2) frame.4 e
      ];
  upper = λ i j a f ai fj la lf e.
      let laws = is.routed.laws in
      let frame = frame_at s ts j f fj lf in
      let t = tag_of s ts i a ai in
      elim la [
        | inl l ↦
            let u = via_tag t.0 (ap (λ (x : Shape). x.layer) t.2 ∙ l) in
            let h = track_above s.library s.used u.0 (s.track u.0 u.1) in
            elim u.2 [
              | inl r ↦ g4_upper s ts is a f i u.0 u.1 frame.0 frame.1 frame.2 t.0 (FromVia u.0 u.1) r t.1 t.2 frame.4 e
                  refl (λ w. w) (omega arith) (omega arith)
              | inr r ↦ g4_upper s ts is a f i u.0 u.1 frame.0 frame.1 frame.2 t.0 (ToVia u.0 u.1) r t.1 t.2 frame.4 e
                  refl (λ w. w) (omega arith) (omega arith)
            ]
        | inr l ↦
            let u = across_tag t.0 (ap (λ (x : Shape). x.layer) t.2 ∙ l) in
            let h = track_above s.library s.used u.0 (s.track u.0 u.1) in
            g4_upper s ts is a f i u.0 u.1 frame.0 frame.1 frame.2 t.0 (Across u.0 u.1) u.2 t.1 t.2 frame.4 e
            refl (λ w. w) (omega arith) (omega arith)
      ];
}

-- G5
pub drawn_g5 : (s : Sheet) (ts : List Tag) → IsDrawn s ts → HasCells s ts → G5 (shapes_of s ts)
drawn_g5 s ts is has = record {
  apart = λ i j f g fi gj lf lg e.
      let a = frame_at s ts i f fi lf in
      let b = frame_at s ts j g gj lg in
      frames_overlap s ts is has i j a.0 b.0 a.1 b.1 a.2 b.2 a.3 b.3
      (overlap_areas f g s (Frame a.0 a.1 a.2) (Frame b.0 b.1 b.2) a.4 b.4 refl refl e);
  level = λ i j f g fi gj lf lg x y.
      let a = frame_at s ts i f fi lf in
      let b = frame_at s ts j g gj lg in
      let p : int_lt (pos (lower_edge s a.0)) (pos (lower_edge s b.0 + s.library.height)) ≡ true = ap
      (λ (z : Shape). int_lt z.rect.y0 (pos (lower_edge s b.0 + s.library.height))) a.4
      ∙ ap (λ (z : Shape). int_lt f.rect.y0 z.rect.y1) b.4 ∙ x in
      let q : int_lt (pos (lower_edge s b.0)) (pos (lower_edge s a.0 + s.library.height)) ≡ true = ap
      (λ (z : Shape). int_lt z.rect.y0 (pos (lower_edge s a.0 + s.library.height))) b.4
      ∙ ap (λ (z : Shape). int_lt g.rect.y0 z.rect.y1) a.4 ∙ y in
      let e : a.0 ≡ b.0 = rows_meet s a.0 b.0 (lt_of _ _ p) (lt_of _ _ q) in (
        sym (ap (λ (z : Shape). z.rect.y0) a.4) ∙ ap (λ (n : ℕ). pos (lower_edge s n)) e
            ∙ ap (λ (z : Shape). z.rect.y0) b.4,
        sym (ap (λ (z : Shape). z.rect.y1) a.4) ∙ ap (λ (n : ℕ). pos (lower_edge s n + s.library.height)) e
            ∙ ap (λ (z : Shape). z.rect.y1) b.4,
      );
}
