-- The row of a pin: where the rules of cells and of frames are kept, that to which its lower edge belongs.
use Rattle.std.proofs.Common.{◌≡◌, ℕ, suc, ◌<◌, Bool, true, false, ◌&&◌, ◌||◌, List, length, Some, ℤ, refl, sym, ap}
use Rattle.std.proofs.Common.{subst}
use Rattle.std.proofs.Common.{◌∙◌, arith, inl, inr}
use Rattle.std.specs.Prelude.{slice_get, int_lt, int_le, not, ◌<ℤ◌, ◌⊎◌}
use Rattle.std.specs.List.{list_any}
use Rattle.std.specs.Ordering.{int_eq}
use Rattle.std.proofs.lemmas.Bool.{cases_order, both_ways, and_parts, and_from, or_right}
use Rattle.std.proofs.lemmas.Int.{ints}
use Rattle.std.proofs.lemmas.Option.{same_Some, slice_get_within}
use Rattle.geom.specs.declared.shapes.Shape.{Shape}
use Rattle.geom.specs.Rectangle.{IsProper, within, overlap, meet_y}
use Rattle.layout_rules.specs.declared.layers.TheConstants.{OUTPUT_PIN}
use Rattle.layout_rules.specs.Layers.{is_frame, is_pin}
use Rattle.layout_rules.specs.Pins.{lies_in, LiesIn}
use Rattle.layout_rules.specs.Rows.{row_of, AreRows}
use Rattle.layout_rules.specs.Reports.{ReportsNone, Passes}
use Rattle.layout_rules.specs.CircuitRules.{IsNoCell, IsStrayPin, LiesInOneFrame, CellsBroken}
use Rattle.layout_rules.specs.GeometryRules.{collide, FramesBroken}
use Rattle.layout_rules.proofs.Deciding.{settled}
use Rattle.layout_rules.proofs.PlaceLaws.{PassesAt, list_any-at, list_any-place}
use Rattle.layout_rules.proofs.ReportLaws.{second_kept, alone_kept}
use Rattle.layout_rules.proofs.RowLaws.{row_of-certified}
use Rattle.shape_extract.specs.Code.PinRows.{IsRowOf}
use Rattle.text_report.specs.Code.Heights.{BelongsTo}
use Rattle.text_report.specs.Code.Sources.{HaveSides}

pub pin_so : (s : Shape) → s.layer ≡ OUTPUT_PIN → is_pin s ≡ true
pin_so s e = rw e refl

-- ---- a pin lies in one frame

module _ (shapes : List Shape) (kept : ReportsNone (CellsBroken shapes)) (p : ℕ) (pin : Passes is_pin shapes p) where
  not_stray : (LiesInOneFrame shapes p → ⊥) → ⊥
  not_stray none =
      alone_kept (λ n. IsNoCell shapes n ⊎ IsStrayPin shapes n) (second_kept _ _ kept) p
      (inr (record { pin = pin; not_so = none }))

  pub one_frame : (f g : ℕ) → LiesIn shapes p f → LiesIn shapes p g → f ≡ g
  one_frame f g first second =
      settled f g (λ ne. not_stray (λ one. ne (one.only f first ∙ sym (one.only g second))))

  in_frame : (b : Bool) → list_any (λ frame. lies_in pin.shape frame) shapes ≡ b
      → PassesAt (λ frame. lies_in pin.shape frame) shapes
  in_frame true e = list_any-place (λ frame. lies_in pin.shape frame) shapes e
  in_frame false e = absurd (not_stray (λ one.
      (let same : one.lies.pin ≡ pin.shape =
      same_Some one.lies.pin pin.shape (sym one.lies.pin_is ∙ pin.shape_is) in
      both_ways (list_any (λ frame. lies_in pin.shape frame) shapes) e
      (list_any-at (λ frame. lies_in pin.shape frame) shapes one.frame one.lies.frame one.lies.frame_is
      (subst (λ (s : Shape). lies_in s one.lies.frame ≡ true) same one.lies.lies_so)))))

  pub frame_of : (f : ℕ) × LiesIn shapes p f
  frame_of =
      let found : PassesAt (λ frame. lies_in pin.shape frame) shapes =
      in_frame (list_any (λ frame. lies_in pin.shape frame) shapes) refl in (
        found.place,
        record {
          pin = pin.shape;
          frame = found.item;
          pin_is = pin.shape_is;
          frame_is = found.item_is;
          lies_so = found.passes_so;
        },
      )

  pub row_is : (row : ℕ) (f : ℕ) → IsRowOf shapes p row → (lies : LiesIn shapes p f)
      → row_of shapes lies.frame.rect.y0 ≡ row
  row_is row f known lies =
      let same : f ≡ known.frame = one_frame f known.frame lies known.lies in
      let shape : lies.frame ≡ known.lies.frame =
      same_Some lies.frame known.lies.frame
      (sym lies.frame_is ∙ (ap (slice_get shapes) same ∙ known.lies.frame_is)) in
      ap (λ (s : Shape). row_of shapes s.rect.y0) shape ∙ known.row_is

-- ---- the row to which a pin's lower edge belongs

reaches : (a0 b0 b1 : ℤ) → int_lt a0 b0 ≡ true → b0 <ℤ b1 → int_lt a0 b1 ≡ true
reaches a0 b0 b1 h k = grind (arith, ints)

is_under : (p0 p1 a1 b0 : ℤ) → int_lt p0 b0 ≡ false → p0 <ℤ p1 → int_le p1 a1 ≡ true → int_lt b0 a1 ≡ true
is_under p0 p1 a1 b0 h k l = grind (arith, ints)

differ : (a0 b0 : ℤ) → int_lt a0 b0 ≡ true → int_eq a0 b0 ≡ false
differ a0 b0 h = grind (arith, ints)

differ_back : (a0 b0 : ℤ) → int_lt a0 b0 ≡ true → int_eq b0 a0 ≡ false
differ_back a0 b0 h = grind (arith, ints)

not_same : (a b : ℤ) → int_lt a b ≡ true → a ≡ b → ⊥
not_same a b h e = grind (arith, ints)

-- frames whose heights meet though their lower edges differ
collides : (a b : Shape) → is_frame a ≡ true → is_frame b ≡ true → meet_y a.rect b.rect ≡ true
    → int_eq a.rect.y0 b.rect.y0 ≡ false → collide a b ≡ true
collides a b frame_a frame_b meet other =
    let apart : not (int_eq a.rect.y0 b.rect.y0 && int_eq a.rect.y1 b.rect.y1) ≡ true =
    ap (λ (v : Bool). not (v && int_eq a.rect.y1 b.rect.y1)) other in
    and_from (is_frame a && is_frame b)
    (overlap a.rect b.rect
    || (meet_y a.rect b.rect && not (int_eq a.rect.y0 b.rect.y0 && int_eq a.rect.y1 b.rect.y1)))
    (and_from (is_frame a) (is_frame b) frame_a frame_b)
    (or_right (overlap a.rect b.rect)
    (meet_y a.rect b.rect && not (int_eq a.rect.y0 b.rect.y0 && int_eq a.rect.y1 b.rect.y1))
    (and_from (meet_y a.rect b.rect) (not (int_eq a.rect.y0 b.rect.y0 && int_eq a.rect.y1 b.rect.y1))
    meet apart))

module _ (shapes : List Shape) (frames_kept : ReportsNone (FramesBroken shapes)) (sides : HaveSides shapes)
    (edges : List ℤ) (rows : AreRows shapes edges) where
  -- no frame stands above another and below its upper edge
  no_collision : (f g : ℕ) (a b : Shape) → slice_get shapes f ≡ Some a → slice_get shapes g ≡ Some b
      → is_frame a ≡ true → is_frame b ≡ true → int_lt a.rect.y0 b.rect.y0 ≡ true
      → int_lt a.rect.y0 b.rect.y1 ≡ true → int_lt b.rect.y0 a.rect.y1 ≡ true → ⊥
  no_collision f g a b at_f at_g frame_a frame_b above one other = elim (cases_order f g) [
    | inl same ↦ not_same a.rect.y0 b.rect.y0 above
        (ap (λ (s : Shape). s.rect.y0) (same_Some a b (sym at_f ∙ (ap (slice_get shapes) same ∙ at_g))))
    | inr ne ↦ elim ne [
      | inl less ↦ frames_kept f g (
        less,
        record {
          first = a;
          second = b;
          first_is = at_f;
          second_is = at_g;
          passes_so = collides a b frame_a frame_b
              (and_from (int_lt a.rect.y0 b.rect.y1) (int_lt b.rect.y0 a.rect.y1) one other)
              (differ a.rect.y0 b.rect.y0 above);
        },
      )
      | inr more ↦ frames_kept g f (
        more,
        record {
          first = b;
          second = a;
          first_is = at_g;
          second_is = at_f;
          passes_so = collides b a frame_b frame_a
              (and_from (int_lt b.rect.y0 a.rect.y1) (int_lt a.rect.y0 b.rect.y1) other one)
              (differ_back a.rect.y0 b.rect.y0 above);
        },
      )
    ]
  ]

  module _ (p f : ℕ) (lies : LiesIn shapes p f) where
    parts : (is_pin lies.pin && is_frame lies.frame ≡ true) × (within lies.pin.rect lies.frame.rect ≡ true)
    parts = and_parts (is_pin lies.pin && is_frame lies.frame) (within lies.pin.rect lies.frame.rect) lies.lies_so

    frame_so : is_frame lies.frame ≡ true
    frame_so = (and_parts (is_pin lies.pin) (is_frame lies.frame) parts.0).1

    in_y : (int_le lies.frame.rect.y0 lies.pin.rect.y0 ≡ true) × (int_le lies.pin.rect.y1 lies.frame.rect.y1 ≡ true)
    in_y =
        and_parts (int_le lies.frame.rect.y0 lies.pin.rect.y0) (int_le lies.pin.rect.y1 lies.frame.rect.y1)
        (and_parts
        (int_le lies.frame.rect.x0 lies.pin.rect.x0 && int_le lies.pin.rect.x1 lies.frame.rect.x1)
        (int_le lies.frame.rect.y0 lies.pin.rect.y0 && int_le lies.pin.rect.y1 lies.frame.rect.y1) parts.1).1

    place : (r : ℕ) × (slice_get edges r ≡ Some lies.frame.rect.y0)
    place = rows.each f lies.frame lies.frame_is frame_so

    pub row_within : row_of shapes lies.frame.rect.y0 < length edges
    row_within =
        subst (λ (r : ℕ). r < length edges)
        (sym (row_of-certified shapes edges rows place.0 lies.frame.rect.y0 place.1))
        (slice_get_within edges place.0 lies.frame.rect.y0 place.1)

    under_next : (next : ℤ) → slice_get edges (suc place.0) ≡ Some next → (b : Bool)
        → int_lt lies.pin.rect.y0 next ≡ b → int_lt lies.pin.rect.y0 next ≡ true
    under_next next next_is true e = e
    under_next next next_is false e = absurd (
        let above : int_lt lies.frame.rect.y0 next ≡ true =
        rows.rising place.0 (suc place.0) lies.frame.rect.y0 next place.1 next_is (omega arith) in
        let other = rows.only (suc place.0) next next_is in
        let edge_is : other.1.rect.y0 ≡ next = other.4 in
        let proper : IsProper other.1.rect = sides other.0 other.1 other.2 in
        let pin_proper : IsProper lies.pin.rect = sides p lies.pin lies.pin_is in
        let over : int_lt lies.frame.rect.y0 other.1.rect.y0 ≡ true =
        subst (λ (y : ℤ). int_lt lies.frame.rect.y0 y ≡ true) (sym edge_is) above in
        let e_at : int_lt lies.pin.rect.y0 other.1.rect.y0 ≡ false =
        subst (λ (y : ℤ). int_lt lies.pin.rect.y0 y ≡ false) (sym edge_is) e in
        no_collision f other.0 lies.frame other.1 lies.frame_is other.2 frame_so other.3 over
        (reaches lies.frame.rect.y0 other.1.rect.y0 other.1.rect.y1 over proper.high)
        (is_under lies.pin.rect.y0 lies.pin.rect.y1 lies.frame.rect.y1 other.1.rect.y0 e_at pin_proper.high in_y.1)
        )

    pub belongs : BelongsTo edges (row_of shapes lies.frame.rect.y0) lies.pin.rect.y0
    belongs =
        subst (λ (r : ℕ). BelongsTo edges r lies.pin.rect.y0)
        (sym (row_of-certified shapes edges rows place.0 lies.frame.rect.y0 place.1))
        (record {
          edge = lies.frame.rect.y0;
          edge_is = place.1;
          reached = in_y.0;
          below_next = λ next next_is. under_next next next_is (int_lt lies.pin.rect.y0 next) refl;
        })
