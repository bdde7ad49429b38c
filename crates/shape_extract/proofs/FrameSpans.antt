-- Where frames lie along their lines, by the bars over them and by the ways to these.
use Rattle.std.proofs.Common.{◌≡◌, ℕ, suc, ◌+◌, ◌<◌, inl, inr, true, List, ◌∷◌, [], ◌++◌, length}
use Rattle.std.proofs.Common.{Some, None}
use Rattle.std.proofs.Common.{sym, ap, subst, ◌∙◌, arith, length-append}
use Rattle.std.specs.Prelude.{slice_get, slice_index}
use Rattle.std.proofs.lemmas.Bool.{cases_lt, and_parts, and_from}
use Rattle.std.proofs.lemmas.Option.{same_Some, slice_get_within, slice_get_cases, slice_get_past}
use Rattle.geom.specs.declared.shapes.Shape.{Shape}
use Rattle.geom.specs.Rectangle.{overlap}
use Rattle.layout_rules.specs.declared.layers.TheConstants.{BAR, START}
use Rattle.layout_rules.specs.Layers.{is_frame, is_line}
use Rattle.layout_rules.specs.Reports.{ReportsNone, Passes, PassTogether}
use Rattle.layout_rules.specs.ExcitationLines.{IsPart}
use Rattle.layout_rules.specs.ExcitationRule.{ExcitationBroken, IsExcited}
use Rattle.layout_rules.specs.LinePlaces.{way_into, ComesTo, IsPlaced}
use Rattle.layout_rules.proofs.Deciding.{settled}
use Rattle.layout_rules.proofs.LinePaths.{chain_from_path}
use Rattle.layout_rules.proofs.LinesAgree.{each_excited}
use Rattle.shape_extract.specs.declared.circuits.cell_spans.Span.{Span}
use Rattle.shape_extract.specs.Searches.{AreThose}
use Rattle.shape_extract.specs.Frames.{AreFrames}
use Rattle.shape_extract.specs.CellPlaces.{AreCellPlaces, near_of, far_of, near_at, far_at}
use Rattle.shape_extract.specs.Code.Lines.{AreWalked, lies_over}
use Rattle.shape_extract.specs.Code.Ways.{HasWay, AreWays, IsUnder, IsSpanUnder}
use Rattle.shape_extract.proofs.LineReach.{Before-reached}
use Rattle.shape_extract.proofs.RowEdges.{push_cases}

none_above : (n : ℕ) → 0 ≡ suc n → ⊥
none_above n e = omega (arith, e)

-- a bar is no start
not_both : (shapes : List Shape) (n : ℕ) → IsPart shapes BAR n → IsPart shapes START n → ⊥
not_both shapes n bar start =
    let same : bar.shape.datatype ≡ start.shape.datatype = ap (λ (s : Shape). s.datatype)
    (same_Some bar.shape start.shape (sym bar.shape_is ∙ start.shape_is)) in
    let e : BAR ≡ START = sym bar.datatype_is ∙ (same ∙ start.datatype_is) in
    none_above 1 e

-- ---- the bar over a frame

module _ (shapes : List Shape) (kept : ReportsNone (ExcitationBroken shapes)) (before : List ℕ)
    (walked : AreWalked shapes before) (f : ℕ) (frame : Passes is_frame shapes f) (over : List ℕ)
    (are : AreThose (PassTogether lies_over shapes f) over) where
  -- it cannot be that the frame is not excited
  excited : (IsExcited shapes frame.shape → ⊥) → ⊥
  excited none = each_excited shapes kept f (record { frame = frame; not_so = none })

  listed : (e : IsExcited shapes frame.shape) → (p : ℕ) × ((p < length over) × (slice_index over p ≡ e.bar))
  listed e = are.complete e.bar
      (record {
        first = frame.shape;
        second = e.phase.is_bar.shape;
        first_is = frame.shape_is;
        second_is = e.phase.is_bar.shape_is;
        passes_so = and_from (is_line e.phase.is_bar.shape) (overlap e.phase.is_bar.shape.rect frame.shape.rect)
            e.phase.is_bar.line_so e.over;
      })

  pub some_over : 0 < length over
  some_over = elim (cases_lt 0 (length over)) [
    | inl lt ↦ lt
    | inr none ↦ absurd (excited (λ e. let k = listed e in omega (arith, k.1.0)))
  ]

  first : PassTogether lies_over shapes f (slice_index over 0)
  first = are.each 0 some_over

  laps : (is_line first.second ≡ true) × (overlap first.second.rect frame.shape.rect ≡ true)
  laps =
      let same : first.first ≡ frame.shape = same_Some first.first frame.shape (sym first.first_is ∙ frame.shape_is) in
      and_parts (is_line first.second) (overlap first.second.rect frame.shape.rect)
      (subst (λ (s : Shape). lies_over s first.second ≡ true) same first.passes_so)

  only_bar : (e : IsExcited shapes frame.shape) → slice_index over 0 ≡ e.bar
  only_bar e = e.only (slice_index over 0) first.second first.second_is laps.0 laps.1

  is_bar : first.second.datatype ≡ BAR
  is_bar = settled first.second.datatype BAR (λ ne. excited (λ e.
      let bar = e.phase.is_bar in
      ne (ap (λ (s : Shape). s.datatype) (same_Some first.second bar.shape
      (sym first.second_is ∙ ap (slice_get shapes) (only_bar e) ∙ bar.shape_is)) ∙ bar.datatype_is)))

  come : slice_index before (slice_index over 0) < length shapes
  come = elim (cases_lt (slice_index before (slice_index over 0)) (length shapes)) [
    | inl lt ↦ lt
    | inr past ↦ absurd (excited (λ e.
        let chain = chain_from_path shapes e.phase.before e.bar e.phase.is_before in
        let lt : slice_index before e.bar < length shapes =
        walked.all e.bar (Before-reached shapes e.phase.before e.bar chain) in
        omega (arith, ap (slice_index before) (only_bar e))))
  ]

  pub first_under : IsUnder shapes before f (slice_index over 0)
  first_under = record {
    is_bar = record {
      shape = first.second;
      shape_is = first.second_is;
      line_so = laps.0;
      datatype_is = is_bar;
    };
    over = λ other at. subst (λ (s : Shape). overlap first.second.rect s.rect ≡ true)
        (same_Some frame.shape other (sym frame.shape_is ∙ at)) laps.1;
    within = slice_get_within shapes (slice_index over 0) first.second first.second_is;
    reached = come;
  }

-- ---- its place

module _ (shapes : List Shape) (before ways : List ℕ) (are : AreWays shapes before ways) where
  comes_under : (f bar : ℕ) (under : IsUnder shapes before f bar)
      → ComesTo shapes (slice_index before bar) bar (slice_index ways bar)
  comes_under f bar under = by_way (are.come bar under.within under.reached)
    where
      by_way : HasWay shapes before ways bar → ComesTo shapes (slice_index before bar) bar (slice_index ways bar)
      by_way (inl begins) = absurd (not_both shapes bar under.is_bar begins.0)
      by_way (inr comes) = comes

  pub placed_under : (f bar : ℕ) → IsUnder shapes before f bar → (frame : Shape) → slice_get shapes f ≡ Some frame
      → (span : Span) → IsSpanUnder shapes before ways bar frame span → IsPlaced shapes frame span.near span.far
  placed_under f bar under frame at span is =
      let same : is.bar_shape ≡ under.is_bar.shape = same_Some is.bar_shape under.is_bar.shape
      (sym is.bar_is ∙ under.is_bar.shape_is) in
      record {
        bar = bar;
        is_bar = under.is_bar;
        over = under.over frame at;
        before = slice_index before bar;
        before_shape = is.before_shape;
        before_shape_is = is.before_is;
        distance = slice_index ways bar;
        comes = comes_under f bar under;
        near_is = is.near_is
            ∙ ap (λ (s : Shape). slice_index ways bar + way_into is.before_shape s frame) same;
        far_is = is.far_is;
      }

-- ---- the places of all frames

-- the places of the first n frames
pub record AreSpansBelow (n : ℕ) (shapes : List Shape) (frames : List ℕ) (spans : List Span) : Type 0 where
  pub long : length spans ≡ n
  pub each : (c f : ℕ) (frame : Shape) (span : Span) → slice_get spans c ≡ Some span → slice_get frames c ≡ Some f
      → slice_get shapes f ≡ Some frame → IsPlaced shapes frame span.near span.far

pub no_spans : (shapes : List Shape) (frames : List ℕ) (spans : List Span) → spans ≡ []
    → AreSpansBelow 0 shapes frames spans
no_spans shapes frames spans none = record {
  long = ap (λ (l : List Span). length l) none;
  each = λ c f frame span at got is. absurd
      (let lt : c < length spans = slice_get_within spans c span at in
      omega (arith, ap (λ (l : List Span). length l) none));
}

long_more : (spans : List Span) (span : Span) → length (spans ++ span ∷ []) ≡ length spans + 1
long_more spans span = omega (arith, length-append spans (span ∷ []))

pub spans_more : (n : ℕ) (shapes : List Shape) (frames : List ℕ) (spans : List Span) (f : ℕ) (span : Span)
    → AreSpansBelow n shapes frames spans → slice_get frames n ≡ Some f
    → ((frame : Shape) → slice_get shapes f ≡ Some frame → IsPlaced shapes frame span.near span.far)
    → AreSpansBelow (n + 1) shapes frames (spans ++ span ∷ [])
spans_more n shapes frames spans f span are here placed = record {
  long = omega (arith, long_more spans span, are.long);
  each = λ c g frame other at got is. elim (push_cases spans span other c at) [
    | inl old ↦ are.each c g frame other old got is
    | inr new ↦
        let place : c ≡ n = omega (arith, new.0, are.long) in
        let number : f ≡ g = same_Some f g (sym here ∙ ap (slice_get frames) (sym place) ∙ got) in
        subst (λ (s : Span). IsPlaced shapes frame s.near s.far) new.1
        (placed frame (ap (slice_get shapes) number ∙ is))
  ];
}

pub spans_all : (n : ℕ) (shapes : List Shape) (frames : List ℕ) (spans : List Span) → AreFrames shapes frames
    → AreSpansBelow n shapes frames spans → length frames ≡ n
    → AreCellPlaces shapes (near_at spans) (far_at spans)
spans_all n shapes frames spans order are all = record {
  frames = frames;
  are_frames = order;
  placed = λ c f frame at got. elim (slice_get_cases spans c).1 [
    | inl there ↦
        rw there.2 (are.each c f frame there.0 there.2 at got)
    | inr past ↦ absurd (let lt : c < length frames = slice_get_within frames c f at in omega (arith, past.0, are.long))
  ];
  no_more = λ c le. (
      let none : slice_get spans c ≡ None = slice_get_past spans c (omega (arith, are.long)) in
      (ap near_of none, ap far_of none)
      );
}
