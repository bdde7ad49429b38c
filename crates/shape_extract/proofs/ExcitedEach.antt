-- Frames under bars, judged by what lies over them.
use Rattle.std.proofs.Common.{◌≡◌, ◌≢◌, ℕ, ◌+◌, ◌<◌, ◌≤◌, inl, inr, Bool, true, false, List, length, Some, ℤ, refl, sym}
use Rattle.std.proofs.Common.{ap, subst, ◌∙◌, arith, eq-eqb}
use Rattle.std.specs.Prelude.{slice_get, slice_index, not, ◌%◌, ◌==◌}
use Rattle.std.proofs.lemmas.Bool.{cases_eq, cases_lt, both_ways, and_parts, and_from, ne_eqb}
use Rattle.std.proofs.lemmas.Option.{same_Some, slice_get_within}
use Rattle.geom.specs.declared.shapes.Shape.{Shape}
use Rattle.geom.specs.Rectangle.{overlap, within}
use Rattle.layout_rules.specs.declared.layers.TheConstants.{BAR}
use Rattle.layout_rules.specs.Layers.{is_frame, is_line}
use Rattle.layout_rules.specs.Rows.{row_of, AreRows}
use Rattle.layout_rules.specs.Reports.{ReportsNone, IsFirstReport, Alone, Passes, PassTogether}
use Rattle.layout_rules.specs.ExcitationLines.{IsPart, IsReached, phase_of}
use Rattle.layout_rules.specs.ExcitationRule.{IsExcited, AreLaidOut}
use Rattle.layout_rules.specs.Code.LineChains.{ChainBefore}
use Rattle.layout_rules.specs.Code.ChainRule.{IsChainExcited, IsChainUnexcited}
use Rattle.layout_rules.proofs.ChainsAgree.{one_before}
use Rattle.shape_extract.specs.Searches.{SaysWhether, AreThose}
use Rattle.shape_extract.specs.Extraction.{IsInPhase}
use Rattle.shape_extract.specs.Code.Lines.{AreWalked, lies_over, Excites, IsChainExcitedAt, Judges}
use Rattle.shape_extract.proofs.LineReach.{Before-reached, bar_before}
use Rattle.shape_extract.proofs.JoinedParts.{passes_here}

-- the bar over an excited frame has the phase of the frame's row
pub excited_in_phase : (shapes : List Shape) (frame : Shape) → IsExcited shapes frame
    → IsInPhase shapes frame (row_of shapes frame.rect.y0 % 4)
excited_in_phase shapes frame excited = record { number = excited.bar; bar = excited.phase; over = excited.over }

-- ---- one bar and one frame

module _ (shapes : List Shape) (before : List ℕ) (lines : AreLaidOut shapes) (w : AreWalked shapes before) (b : ℕ)
    (lt : b < length shapes) (frame : Shape) where
  pub not_come_excites : (IsReached shapes b → ⊥) → Excites shapes b frame → ⊥
  not_come_excites not_so excites = not_so (Before-reached shapes excites.phase.before b excites.phase.is_before)

  module _ (is : IsPart shapes BAR b) (reached : IsReached shapes b) (from bar : Shape)
      (from_is : slice_get shapes (slice_index before b) ≡ Some from) (bar_is : slice_get shapes b ≡ Some bar) where
    comes : ChainBefore shapes (slice_index before b) b
    comes = bar_before shapes before w b lt is reached

    same_bar : (p : IsPart shapes BAR b) → bar ≡ p.shape
    same_bar p = same_Some bar p.shape (sym bar_is ∙ p.shape_is)

    pub excites_so : within frame.rect bar.rect ≡ true
        → phase_of from bar ≡ row_of shapes frame.rect.y0 % 4 → Excites shapes b frame
    excites_so inside phase = record {
      phase = record {
        is_bar = is;
        before = slice_index before b;
        before_shape = from;
        before_shape_is = from_is;
        is_before = comes;
        phase_is = ap (phase_of from) (sym (same_bar is)) ∙ phase;
      };
      contains = ap (λ (s : Shape). within frame.rect s.rect) (sym (same_bar is)) ∙ inside;
    }

    pub inside_from : Excites shapes b frame → within frame.rect bar.rect ≡ true
    inside_from excites = ap (λ (s : Shape). within frame.rect s.rect)
        (same_bar excites.phase.is_bar) ∙ excites.contains

    pub phase_from : Excites shapes b frame → phase_of from bar ≡ row_of shapes frame.rect.y0 % 4
    phase_from excites =
        let one : slice_index before b ≡ excites.phase.before = one_before shapes lines
        (slice_index before b) excites.phase.before b comes excites.phase.is_before in
        let shape : from ≡ excites.phase.before_shape = same_Some from excites.phase.before_shape
        (sym from_is ∙ (ap (slice_get shapes) one ∙ excites.phase.before_shape_is)) in
        ap (λ (s : Shape). phase_of s bar) shape
        ∙ (ap (phase_of excites.phase.before_shape) (same_bar excites.phase.is_bar) ∙ excites.phase.phase_is)

    pub excites_said : within frame.rect bar.rect ≡ true → (phase row : ℕ) → phase ≡ phase_of from bar
        → row_of shapes frame.rect.y0 ≡ row → SaysWhether (phase == row % 4) (Excites shapes b frame)
    excites_said inside phase row phase_is row_is = elim (cases_eq phase (row % 4)) [
      | inl e ↦ rw (eq-eqb phase (row % 4) e)
          (excites_so inside (sym phase_is ∙ (e ∙ ap (λ (n : ℕ). n % 4) (sym row_is))))
      | inr ne ↦ rw (ne_eqb phase (row % 4) ne)
          (λ excites. ne (phase_is ∙ (phase_from excites ∙ ap (λ (n : ℕ). n % 4) row_is)))
    ]

    pub not_inside : (answer : Bool) → answer ≡ within frame.rect bar.rect → answer ≡ false
        → SaysWhether answer (Excites shapes b frame)
    not_inside true e f = absurd cc
    not_inside false e f = λ excites. both_ways (within frame.rect bar.rect) (sym e) (inside_from excites)

-- ---- what lies over a frame

module _ (shapes : List Shape) (f : ℕ) (over : List ℕ) (are : AreThose (PassTogether lies_over shapes f) over)
    (frame : Shape) (got : slice_get shapes f ≡ Some frame) where
  over_at : (i : ℕ) (s : Shape) → slice_get shapes i ≡ Some s → is_line s ≡ true → overlap s.rect frame.rect ≡ true
      → (p : ℕ) × ((p < length over) × (slice_index over p ≡ i))
  over_at i s at line lap = are.complete i
      (record {
        first = frame;
        second = s;
        first_is = got;
        second_is = at;
        passes_so = and_from (is_line s) (overlap s.rect frame.rect) line lap;
      })

  overlaps_at : (p : ℕ) → p < length over → (s : Shape) → slice_get shapes (slice_index over p) ≡ Some s
      → (is_line s ≡ true) × (overlap s.rect frame.rect ≡ true)
  overlaps_at p lt s at =
      let both = are.each p lt in
      let first : both.first ≡ frame = same_Some both.first frame (sym both.first_is ∙ got) in
      let second : both.second ≡ s = same_Some both.second s (sym both.second_is ∙ at) in
      and_parts (is_line s) (overlap s.rect frame.rect)
      (subst (λ (x : Shape). lies_over frame x ≡ true) second
      (rw first at both.passes_so))

  pub not_one_over : length over ≢ 1 → IsChainExcited shapes frame → ⊥
  not_one_over ne excited =
      let bar = excited.phase.is_bar in
      let k = over_at excited.bar bar.shape bar.shape_is bar.line_so excited.over in
      elim (cases_lt 1 (length over)) [
        | inl more ↦
            let a : slice_index over 0 ≡ excited.bar =
            (let both = are.each 0 (omega arith) in let laps = overlaps_at 0
            (omega arith) both.second both.second_is in excited.only
            (slice_index over 0) both.second both.second_is laps.0 laps.1) in
            let b : slice_index over 1 ≡ excited.bar =
            (let both = are.each 1 more in let laps = overlaps_at 1 more both.second both.second_is in excited.only
            (slice_index over 1) both.second both.second_is laps.0 laps.1) in
            let lt : slice_index over 0 < slice_index over 1 = are.rising 0 1 (omega arith) more in
            omega arith
        | inr few ↦ ne (omega (arith, k.1.0))
      ]

  pub one_over : length over ≡ 1 → (b : ℕ) → slice_index over 0 ≡ b → (answer : Bool)
      → SaysWhether answer (Excites shapes b frame) → SaysWhether answer (IsChainExcited shapes frame)
  one_over one b is true excites =
      let bar = excites.phase.is_bar in
      let there : slice_get shapes (slice_index over 0) ≡ Some bar.shape = ap (slice_get shapes) is ∙ bar.shape_is in
      record {
        bar = b;
        phase = excites.phase;
        over = (overlaps_at 0 (omega arith) bar.shape there).1;
        contains = excites.contains;
        only = λ i s at line lap.
            (let k = over_at i s at line lap in let e : k.0 ≡ 0 = omega (arith, k.1.0) in sym k.1.1
            ∙ (ap (slice_index over) e ∙ is));
      }
  one_over one b is false not_so = λ excited. (
      let bar = excited.phase.is_bar in
      let k = over_at excited.bar bar.shape bar.shape_is bar.line_so excited.over in
      let e : k.0 ≡ 0 = omega (arith, k.1.0) in
      let same : excited.bar ≡ b = sym k.1.1 ∙ (ap (slice_index over) e ∙ is) in
      let whole : Excites shapes excited.bar frame = record { phase = excited.phase; contains = excited.contains } in
      not_so (rw same at whole)
      )

-- ---- the answer for one shape

module _ (shapes : List Shape) (f : ℕ) (here : Shape) (got : slice_get shapes f ≡ Some here) where
  pub judged : is_frame here ≡ true → (excited : Bool)
      → ((frame : Shape) → slice_get shapes f ≡ Some frame → SaysWhether excited (IsChainExcited shapes frame))
      → Judges shapes f (not excited)
  judged frame true says = λ s at so. says s at
  judged frame false says =
      record { frame = record { shape = here; shape_is = got; passes_so = frame }; not_so = says here got }

pub judged_true : (shapes : List Shape) (f : ℕ) (answer : Bool) → Judges shapes f answer → answer ≡ true
    → IsChainUnexcited shapes f
judged_true shapes f true judges e = judges
judged_true shapes f false judges e = absurd cc

pub judged_false : (shapes : List Shape) (f : ℕ) (answer : Bool) → Judges shapes f answer → answer ≡ false
    → IsChainExcitedAt shapes f
judged_false shapes f true judges e = absurd cc
judged_false shapes f false judges e = judges

-- ---- all frames

pub excited_next : (shapes : List Shape) (n : ℕ) → ((f : ℕ) → f < n → IsChainExcitedAt shapes f)
    → IsChainExcitedAt shapes n → (f : ℕ) → f < n + 1 → IsChainExcitedAt shapes f
excited_next shapes n so_far here f lt =
    elim (cases_eq f n) [ inl e ↦ subst (IsChainExcitedAt shapes) (sym e) here | inr ne ↦ so_far f (omega arith) ]

pub excited_all : (shapes : List Shape) (n : ℕ) → length shapes ≤ n → ((f : ℕ) → f < n → IsChainExcitedAt shapes f)
    → (f : ℕ) → IsChainExcitedAt shapes f
excited_all shapes n all so_far f frame at so = let lt : f < length shapes =
    slice_get_within shapes f frame at in so_far f (omega arith) frame at so

pub excited_none : (shapes : List Shape) → ((f : ℕ) → IsChainExcitedAt shapes f)
    → ReportsNone (Alone (IsChainUnexcited shapes))
excited_none shapes excited a b report = report.0.not_so
    (excited a report.0.frame.shape report.0.frame.shape_is report.0.frame.passes_so)

pub unexcited_first : (shapes : List Shape) (n : ℕ) → ((f : ℕ) → f < n → IsChainExcitedAt shapes f)
    → IsChainUnexcited shapes n → IsFirstReport (Alone (IsChainUnexcited shapes)) n n
unexcited_first shapes n before fault = record {
  reported = (fault, refl);
  least = λ c d report. elim (cases_lt c n) [
    | inl less ↦ absurd (report.0.not_so
        (before c less report.0.frame.shape report.0.frame.shape_is report.0.frame.passes_so))
    | inr ge ↦ elim (cases_eq c n)
        [ inl e ↦ (let same : d ≡ c = report.1 in inr (sym e, omega arith)) | inr ne ↦ inl (omega arith) ]
  ];
}

-- a frame's lower edge is one of the rows' edges
pub edge_among : (shapes : List Shape) (edges : List ℤ) (f : ℕ) (here : Shape) → AreRows shapes edges
    → Passes is_frame shapes f → slice_get shapes f ≡ Some here → (r : ℕ) × (slice_get edges r ≡ Some here.rect.y0)
edge_among shapes edges f here rows frame got = rows.each f here got (passes_here is_frame shapes f here got frame)
