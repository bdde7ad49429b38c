-- When two lines, each of a start and one bar, excite the rows, computed.
use Rattle.std.proofs.Common.{◌≡◌, ◌≢◌, ℕ, length, ◌<◌, suc, zero, ◌&&◌, ◌||◌, Bool, true, false, List, [], ◌∷◌, Some}
use Rattle.std.proofs.Common.{refl, sym, ap, subst, ◌∙◌, arith, eq-eqb, inl, inr, slice_get, slice_index, ◌==◌, ◌%◌}
use Rattle.std.proofs.Common.{not, count_by}
use Rattle.std.proofs.lemmas.Bool.{both_ways, and_from, and_parts, or_cases, eqb-true, false_from_ne_true}
use Rattle.std.proofs.lemmas.Bool.{not_from_false}
use Rattle.std.proofs.lemmas.Option.{same_Some}
use Rattle.geom.specs.declared.shapes.Shape.{Shape}
use Rattle.geom.specs.Rectangle.{overlap, within}
use Rattle.layout_rules.specs.declared.layers.TheConstants.{EVEN_LINE, ODD_LINE, BAR, LINK, START}
use Rattle.layout_rules.specs.Layers.{is_line, is_frame}
use Rattle.layout_rules.specs.Reports.{ReportsNone, Passes, Alone, Afterwards, IsFirstReport}
use Rattle.layout_rules.specs.ExcitationLines.{meet, Contact, IsPart, IsReached, enters, phase_of, is_on, IsLine}
use Rattle.layout_rules.proofs.PlaceLaws.{count_by-one}
use Rattle.layout_rules.proofs.LineLaws.{Contact-back}
use Rattle.layout_rules.specs.Rows.{row_of}
use Rattle.layout_rules.specs.ExcitationRule.{is_no_part, HasOneStart, LacksOneStart, HasItsContacts, IsMisjoined}
use Rattle.layout_rules.specs.ExcitationRule.{IsCutOff, ExcitationBroken}
use Rattle.layout_rules.specs.Code.LineChains.{ChainBefore, HasChainPhase}
use Rattle.layout_rules.specs.Code.ChainRule.{IsChainUncrossed, IsChainExcited, IsChainUnexcited, ChainsBroken}
use Rattle.layout_rules.proofs.LinesAgree.{excitation_none, excitation_first}
use Rattle.layout_rules.proofs.ReportLaws.{Afterwards-first, Afterwards-second, alone_first}
use Rattle.layout_rules.proofs.Places.{places, IsOneOf, one_of, place_at, place_of, at_one, second_place}

abbrev pub is_part : ℕ → Shape → Bool
is_part datatype s = is_line s && s.datatype == datatype

pub part_place : (shapes : List Shape) (datatype i : ℕ) → IsPart shapes datatype i
    → IsOneOf i (places (is_part datatype) shapes)
part_place shapes datatype i part = place_at (is_part datatype) shapes i part.shape part.shape_is
    (and_from (is_line part.shape) (part.shape.datatype == datatype) part.line_so
    (eq-eqb part.shape.datatype datatype part.datatype_is))

-- the number has this shape alone, and so one datatype
pub other_part : (shapes : List Shape) (datatype i : ℕ) (s : Shape) → slice_get shapes i ≡ Some s
    → (s.datatype ≡ datatype → ⊥) → IsPart shapes datatype i → ⊥
other_part shapes datatype i s p ne part =
    ne (ap (λ (v : Shape). v.datatype) (same_Some s part.shape (sym p ∙ part.shape_is)) ∙ part.datatype_is)

abbrev pub is_start_on : ℕ → Shape → Bool
is_start_on layer s = is_part START s && s.layer == layer

pub one_start : (shapes : List Shape) (layer i : ℕ) (s : Shape) → slice_get shapes i ≡ Some s → is_line s ≡ true
    → s.datatype ≡ START → s.layer ≡ layer → places (is_start_on layer) shapes ≡ i ∷ [] → HasOneStart shapes layer
one_start shapes layer i s p line start of_layer alone = record {
  number = i;
  start = record {
    start = record {
      shape = s;
      shape_is = p;
      line_so = line;
      datatype_is = start;
    };
    of_layer = of_layer;
  };
  only = λ k other.
      let both : is_part START other.start.shape ≡ true = and_from (is_line other.start.shape)
      (other.start.shape.datatype == START) other.start.line_so
      (eq-eqb other.start.shape.datatype START other.start.datatype_is) in
      one_of (subst (IsOneOf k) alone
      (place_at (is_start_on layer) shapes k other.start.shape other.start.shape_is
      (and_from (is_part START other.start.shape) (other.start.shape.layer == layer) both
      (eq-eqb other.start.shape.layer layer other.of_layer))));
}

pub contact : (shapes : List Shape) (i j : ℕ) (s t : Shape) → i ≢ j → slice_get shapes i ≡ Some s
    → slice_get shapes j ≡ Some t → meet s t ≡ true → Contact shapes i j
contact shapes i j s t apart p q meet_so =
    record { apart = apart; first = s; second = t; first_is = p; second_is = q; meet_so = meet_so }

-- a contact of a known shape is among those that meet it, and is another
pub contact_place : (shapes : List Shape) (i c : ℕ) (s : Shape) → slice_get shapes i ≡ Some s → Contact shapes i c
    → IsOneOf c (places (meet s) shapes)
contact_place shapes i c s p k = second_place meet shapes i c s p
    (record {
      first = k.first;
      second = k.second;
      first_is = k.first_is;
      second_is = k.second_is;
      passes_so = k.meet_so;
    })

pub other_of : {c i j : ℕ} → IsOneOf c (i ∷ j ∷ []) → c ≢ i → c ≡ j
other_of (inl e) ne = absurd (ne e)
other_of (inr h) ne = one_of h

first_of : {c i j : ℕ} → IsOneOf c (i ∷ j ∷ []) → c ≢ j → c ≡ i
first_of (inl e) ne = e
first_of (inr h) ne = absurd (ne (one_of h))

start_no_link : START ≢ LINK
start_no_link e = omega arith

start_no_bar : START ≢ BAR
start_no_bar e = omega arith

bar_no_link : BAR ≢ LINK
bar_no_link e = omega arith

-- a part of a line over the frame
abbrev is_over : Shape → Shape → Bool
is_over frame l = is_line l && overlap l.rect frame.rect

-- a start with one bar behind it, and no other contacts
pub record IsShortLine (shapes : List Shape) (start bar : ℕ) : Type 0 where
  pub s : Shape
  pub t : Shape
  pub s_is : slice_get shapes start ≡ Some s
  pub t_is : slice_get shapes bar ≡ Some t
  pub s_line : is_line s ≡ true
  pub t_line : is_line t ≡ true
  pub s_start : s.datatype ≡ START
  pub t_bar : t.datatype ≡ BAR
  pub there : meet s t ≡ true
  pub back : meet t s ≡ true
  pub of_start : places (meet s) shapes ≡ start ∷ bar ∷ []
  pub of_bar : places (meet t) shapes ≡ start ∷ bar ∷ []

-- such a line, by what is computed of its two shapes
abbrev pub line_of : {shapes : List Shape} {start bar : ℕ} (s t : Shape) → slice_get shapes start ≡ Some s
    → slice_get shapes bar ≡ Some t → is_line s ≡ true → is_line t ≡ true → s.datatype ≡ START → t.datatype ≡ BAR
    → meet s t ≡ true → meet t s ≡ true → places (meet s) shapes ≡ start ∷ bar ∷ []
    → places (meet t) shapes ≡ start ∷ bar ∷ [] → IsShortLine shapes start bar
line_of s t s_is t_is s_line t_line s_start t_bar there back of_start of_bar = record {
  s = s;
  t = t;
  s_is = s_is;
  t_is = t_is;
  s_line = s_line;
  t_line = t_line;
  s_start = s_start;
  t_bar = t_bar;
  there = there;
  back = back;
  of_start = of_start;
  of_bar = of_bar;
}

module _ (shapes : List Shape) (start bar : ℕ) (line : IsShortLine shapes start bar) where
  open line use {s, t, s_is, t_is, s_line, t_line, s_start, t_bar, there, back, of_start, of_bar}

  apart : start ≢ bar
  apart e = start_no_bar (sym s_start
      ∙ (ap (λ (v : Shape). v.datatype)
      (same_Some s t (sym s_is ∙ subst (λ (n : ℕ). slice_get shapes n ≡ Some t) (sym e) t_is)) ∙ t_bar))

  abbrev start_part : IsPart shapes START start
  start_part = record { shape = s; shape_is = s_is; line_so = s_line; datatype_is = s_start }

  abbrev bar_part : IsPart shapes BAR bar
  bar_part = record { shape = t; shape_is = t_is; line_so = t_line; datatype_is = t_bar }

  to_bar : Contact shapes start bar
  to_bar = contact shapes start bar s t apart s_is t_is there

  to_start : Contact shapes bar start
  to_start = contact shapes bar start t s (λ e. apart (sym e)) t_is s_is back

  contact_of_start : (c : ℕ) → Contact shapes start c → c ≡ bar
  contact_of_start c k = other_of
      (subst (IsOneOf c) of_start (contact_place shapes start c s s_is k)) (λ e. k.apart (sym e))

  contact_of_bar : (c : ℕ) → Contact shapes bar c → c ≡ start
  contact_of_bar c k = first_of (subst (IsOneOf c) of_bar (contact_place shapes bar c t t_is k)) (λ e. k.apart (sym e))

  pub start_joined : HasItsContacts shapes start
  start_joined = record {
    start = λ part. record { bar = bar; contact = to_bar; is_bar = bar_part; only = contact_of_start };
    link = λ part. absurd (other_part shapes LINK start s s_is (λ e. start_no_link (sym s_start ∙ e)) part);
    bar = λ part. absurd (other_part shapes BAR start s s_is (λ e. start_no_bar (sym s_start ∙ e)) part);
  }

  pub bar_joined : HasItsContacts shapes bar
  bar_joined = record {
    start = λ part. absurd (other_part shapes START bar t t_is (λ e. start_no_bar (sym e ∙ t_bar)) part);
    link = λ part. absurd (other_part shapes LINK bar t t_is (λ e. bar_no_link (sym t_bar ∙ e)) part);
    bar = λ part. record {
      one = start;
      other = start;
      one_contact = to_start;
      only = λ c k. inl (contact_of_bar c k);
      no_bar = λ c k b. other_part shapes BAR start s s_is (λ e. start_no_bar (sym s_start ∙ e))
          (subst (IsPart shapes BAR) (contact_of_bar c k) b);
    };
  }

  pub start_reached : IsReached shapes start
  start_reached = record { rest = []; chain = start_part }

  pub bar_reached : IsReached shapes bar
  bar_reached = record { rest = start ∷ []; chain = (to_bar, start_part) }

  pub bar_before : ChainBefore shapes start bar
  bar_before = record { rest = []; chain = (to_bar, start_part); onward = tt }

  from_start : (before : ℕ) → ChainBefore shapes before bar → before ≡ start
  from_start before comes = contact_of_bar before (Contact-back comes.chain.0)

  -- so what is told of the two shapes is told of s and t
  of_both : {X : Type 0} (f : Shape → Shape → X) (before : ℕ) (before_shape bar_shape : Shape)
      → ChainBefore shapes before bar → slice_get shapes before ≡ Some before_shape
      → slice_get shapes bar ≡ Some bar_shape → f s t ≡ f before_shape bar_shape
  of_both f before before_shape bar_shape comes p q =
      let at : slice_get shapes start ≡ Some before_shape =
      subst (λ (n : ℕ). slice_get shapes n ≡ Some before_shape) (from_start before comes) p in
      ap (λ (v : Shape). f v t) (same_Some s before_shape (sym s_is ∙ at))
      ∙ ap (λ (v : Shape). f before_shape v) (same_Some t bar_shape (sym t_is ∙ q))

  -- nothing comes before the bar but the start, and nothing after it
  pub bar_crossed : enters s t ≡ true → IsChainUncrossed shapes bar → ⊥
  bar_crossed enters_so h = elim h.wrong [
    | inl e ↦ both_ways (enters s t)
        (of_both enters h.before h.before_shape h.bar.shape h.is_before h.before_shape_is h.bar.shape_is ∙ e) enters_so
    | inr l ↦ l.onward (contact_of_bar l.after l.contact ∙ sym (from_start h.before h.is_before))
  ]

  bar_uncrossed : enters s t ≡ false → IsChainUncrossed shapes bar
  bar_uncrossed wrong = record {
    bar = bar_part;
    before = start;
    before_shape = s;
    before_shape_is = s_is;
    is_before = bar_before;
    wrong = inl wrong;
  }

  abbrev pub bar_phase : (phase : ℕ) → phase_of s t ≡ phase → HasChainPhase shapes bar phase
  bar_phase phase e = record {
    is_bar = bar_part;
    before = start;
    before_shape = s;
    before_shape_is = s_is;
    is_before = bar_before;
    phase_is = e;
  }

  -- the bar alone lies over the frame, contains it, and has the phase of its row
  abbrev pub excites : Shape → Bool
  excites frame = (phase_of s t == row_of shapes frame.rect.y0 % 4 && overlap t.rect frame.rect) && (within frame.rect
      t.rect && count_by (is_over frame) shapes == 1)

  pub excited : (frame : Shape) → excites frame ≡ true → IsChainExcited shapes frame
  excited frame h =
      let both : ((phase_of s t == row_of shapes frame.rect.y0 % 4 && overlap t.rect frame.rect) ≡ true)
      × ((within frame.rect t.rect && count_by (is_over frame) shapes == 1) ≡ true) = and_parts
      (phase_of s t == row_of shapes frame.rect.y0 % 4 && overlap t.rect frame.rect)
      (within frame.rect t.rect && count_by (is_over frame) shapes == 1) h in
      let one : ((phase_of s t == row_of shapes frame.rect.y0 % 4) ≡ true)
      × (overlap t.rect frame.rect ≡ true) = and_parts (phase_of s t == row_of shapes frame.rect.y0 % 4)
      (overlap t.rect frame.rect) both.0 in
      let two : (within frame.rect t.rect ≡ true)
      × ((count_by (is_over frame) shapes == 1) ≡ true) = and_parts (within frame.rect t.rect)
      (count_by (is_over frame) shapes == 1) both.1 in
      let once : count_by (is_over frame) shapes ≡ 1 = eqb-true (count_by (is_over frame) shapes) 1 two.1 in
      record {
        bar = bar;
        phase = bar_phase (row_of shapes frame.rect.y0 % 4)
            (eqb-true (phase_of s t) (row_of shapes frame.rect.y0 % 4) one.0);
        over = one.1;
        contains = two.0;
        only = λ i l p part o. count_by-one (is_over frame) shapes i bar l t once p
            (and_from (is_line l) (overlap l.rect frame.rect) part o) t_is
            (and_from (is_line t) (overlap t.rect frame.rect) t_line one.1);
      }

  -- the bar contains the frame and has the phase of its row, as it does where it excites it
  abbrev pub serves : Shape → Bool
  serves frame = phase_of s t == row_of shapes frame.rect.y0 % 4 && within frame.rect t.rect

  served : (frame : Shape) (e : IsChainExcited shapes frame) → e.bar ≡ bar → serves frame ≡ true
  served frame e same =
      let bar_is : slice_get shapes bar ≡ Some e.phase.is_bar.shape =
      subst (λ (n : ℕ). slice_get shapes n ≡ Some e.phase.is_bar.shape) same e.phase.is_bar.shape_is in
      let comes : ChainBefore shapes e.phase.before bar = subst (ChainBefore shapes e.phase.before) same
      e.phase.is_before in
      let phase : phase_of s t ≡ row_of shapes frame.rect.y0 % 4 = of_both phase_of e.phase.before
      e.phase.before_shape e.phase.is_bar.shape comes e.phase.before_shape_is bar_is ∙ e.phase.phase_is in
      and_from (phase_of s t == row_of shapes frame.rect.y0 % 4) (within frame.rect t.rect)
      (eq-eqb (phase_of s t) (row_of shapes frame.rect.y0 % 4) phase)
      (ap (λ (v : Shape). within frame.rect v.rect) (same_Some t e.phase.is_bar.shape (sym t_is ∙ bar_is)) ∙ e.contains)

-- where a layer has these two shapes alone, they are its path
pub line_of_two : (shapes : List Shape) (layer start bar : ℕ) (line : IsShortLine shapes start bar)
    → line.s.layer ≡ layer → line.t.layer ≡ layer → places (is_on layer) shapes ≡ start ∷ bar ∷ []
    → IsLine shapes layer (start ∷ bar ∷ [])
line_of_two shapes layer start bar line on also alone =
    record { start = λ lt. start_part shapes start bar line; next = next; within = within_so; all = all; once = once }
  where
    next : (k : ℕ) → suc k < length (start ∷ bar ∷ [])
        → Contact shapes (slice_index (start ∷ bar ∷ []) k) (slice_index (start ∷ bar ∷ []) (suc k))
    next zero lt = to_bar shapes start bar line
    next (suc k) lt = absurd (omega arith)

    within_so : (k : ℕ) → k < length (start ∷ bar ∷ []) → Passes (is_on layer) shapes (slice_index (start ∷ bar ∷ []) k)
    within_so zero lt = record { shape = line.s; shape_is = line.s_is; passes_so = eq-eqb line.s.layer layer on }
    within_so (suc zero) lt =
        record { shape = line.t; shape_is = line.t_is; passes_so = eq-eqb line.t.layer layer also }
    within_so (suc (suc k)) lt = absurd (omega arith)

    all : (i : ℕ) → Passes (is_on layer) shapes i → (k : ℕ)
        × ((k < length (start ∷ bar ∷ [])) × (slice_index (start ∷ bar ∷ []) k ≡ i))
    all i h = elim (subst (IsOneOf i) alone (place_of (is_on layer) shapes i h)) [
      | inl e ↦ (0, (omega arith, sym e))
      | inr rest ↦ (1, (omega arith, sym (one_of rest)))
    ]

    once : (j k : ℕ) → j < k → k < length (start ∷ bar ∷ [])
        → slice_index (start ∷ bar ∷ []) j ≢ slice_index (start ∷ bar ∷ []) k
    once j zero lt within = absurd (omega arith)
    once zero (suc zero) lt within = apart shapes start bar line
    once (suc j) (suc zero) lt within = absurd (omega arith)
    once j (suc (suc k)) lt within = absurd (omega arith)

-- all that the rule of excitation reads of a chip with two such lines, a and b on layer 14, c and d on layer 15
pub record AreLines (shapes : List Shape) (a b c d : ℕ) : Type 0 where
  pub even : IsShortLine shapes a b
  pub odd : IsShortLine shapes c d
  pub no_others : places is_no_part shapes ≡ []
  pub even_start : places (is_start_on EVEN_LINE) shapes ≡ a ∷ []
  pub odd_start : places (is_start_on ODD_LINE) shapes ≡ c ∷ []
  pub on_even : even.s.layer ≡ EVEN_LINE
  pub on_odd : odd.s.layer ≡ ODD_LINE
  pub parts : places is_line shapes ≡ a ∷ b ∷ c ∷ d ∷ []
  pub bars : places (is_part BAR) shapes ≡ b ∷ d ∷ []

module _ (shapes : List Shape) (a b c d : ℕ) (are : AreLines shapes a b c d) where
  pub parts_kept : (n : ℕ) → Passes is_no_part shapes n → ⊥
  parts_kept n h = subst (IsOneOf n) are.no_others (place_of is_no_part shapes n h)

  pub even_kept : (n : ℕ) → LacksOneStart shapes EVEN_LINE n → ⊥
  even_kept n h = h.not_one
      (one_start shapes EVEN_LINE a are.even.s are.even.s_is are.even.s_line are.even.s_start
      are.on_even are.even_start)

  pub odd_kept : (n : ℕ) → LacksOneStart shapes ODD_LINE n → ⊥
  odd_kept n h = h.not_one (one_start shapes ODD_LINE c are.odd.s are.odd.s_is are.odd.s_line are.odd.s_start
      are.on_odd are.odd_start)

  part_of : (n : ℕ) → Passes is_line shapes n → IsOneOf n (a ∷ b ∷ c ∷ d ∷ [])
  part_of n h = subst (IsOneOf n) are.parts (place_of is_line shapes n h)

  pub joined_kept : (n : ℕ) → IsMisjoined shapes n → ⊥
  joined_kept n h = h.not_so (at_one (HasItsContacts shapes) n (a ∷ b ∷ c ∷ d ∷ []) (part_of n h.part) (
    start_joined shapes a b are.even,
    (bar_joined shapes a b are.even, (start_joined shapes c d are.odd, (bar_joined shapes c d are.odd, tt))),
  ))

  pub reached_kept : (n : ℕ) → IsCutOff shapes n → ⊥
  reached_kept n h = h.not_reached (at_one (IsReached shapes) n (a ∷ b ∷ c ∷ d ∷ []) (part_of n h.part) (
    start_reached shapes a b are.even,
    (bar_reached shapes a b are.even, (start_reached shapes c d are.odd, (bar_reached shapes c d are.odd, tt))),
  ))

  pub crossed_kept : enters are.even.s are.even.t ≡ true → enters are.odd.s are.odd.t ≡ true → (n : ℕ)
      → IsChainUncrossed shapes n → ⊥
  crossed_kept even odd n h = at_one (λ k. IsChainUncrossed shapes k → ⊥) n (b ∷ d ∷ [])
      (subst (IsOneOf n) are.bars (part_place shapes BAR n h.bar))
      (bar_crossed shapes a b are.even even, (bar_crossed shapes c d are.odd odd, tt)) h

  -- a frame that neither bar excites
  abbrev pub is_unexcited : Shape → Bool
  is_unexcited frame = is_frame frame && not (excites shapes a b are.even frame || excites shapes c d are.odd frame)

  excited_by : (frame : Shape) → (excites shapes a b are.even frame || excites shapes c d are.odd frame) ≡ true
      → IsChainExcited shapes frame
  excited_by frame h = elim (or_cases (excites shapes a b are.even frame) (excites shapes c d are.odd frame) h) [
    | inl even ↦ excited shapes a b are.even frame even
    | inr odd ↦ excited shapes c d are.odd frame odd
  ]

  pub unexcited_place : (n : ℕ) → IsChainUnexcited shapes n → IsOneOf n (places is_unexcited shapes)
  unexcited_place n h =
      let frame : Shape = h.frame.shape in
      let no : (excites shapes a b are.even frame || excites shapes c d are.odd frame) ≡ false = false_from_ne_true
      (excites shapes a b are.even frame || excites shapes c d are.odd frame)
      (λ e. h.not_so (excited_by frame e)) in
      place_at is_unexcited shapes n frame h.frame.shape_is
      (and_from (is_frame frame) (not (excites shapes a b are.even frame || excites shapes c d are.odd frame))
      h.frame.passes_so (not_from_false (excites shapes a b are.even frame || excites shapes c d are.odd frame) no))

  chains_kept : enters are.even.s are.even.t ≡ true → enters are.odd.s are.odd.t ≡ true
      → places is_unexcited shapes ≡ [] → ReportsNone (ChainsBroken shapes)
  chains_kept even odd none x y (inl h) = parts_kept x h.0
  chains_kept even odd none x y (inr (n, inl h)) = even_kept x h.0
  chains_kept even odd none x y (inr (n, inr (m, inl h))) = odd_kept x h.0
  chains_kept even odd none x y (inr (n, inr (m, inr (l, inl h)))) = joined_kept x h.0
  chains_kept even odd none x y (inr (n, inr (m, inr (l, inr (k, inl h))))) = reached_kept x h.0
  chains_kept even odd none x y (inr (n, inr (m, inr (l, inr (k, inr (j, inl h)))))) = crossed_kept even odd x h.0
  chains_kept even odd none x y (inr (n, inr (m, inr (l, inr (k, inr (j, inr (i, h))))))) =
      subst (IsOneOf x) none (unexcited_place x h.0)

  -- so where the lines stand, and each part is reached, what is found first is a bar or a frame
  found_after : (x y : ℕ)
      → IsFirstReport (Afterwards (Alone (IsChainUncrossed shapes)) (Alone (IsChainUnexcited shapes))) x y
      → IsFirstReport (ExcitationBroken shapes) x y
  found_after x y found = excitation_first shapes x y
      (Afterwards-second (Alone (Passes is_no_part shapes)) _ x y (λ m n h. parts_kept m h.0)
      (Afterwards-second (Alone (LacksOneStart shapes EVEN_LINE)) _ x y (λ m n h. even_kept m h.0)
      (Afterwards-second (Alone (LacksOneStart shapes ODD_LINE)) _ x y (λ m n h. odd_kept m h.0)
      (Afterwards-second (Alone (IsMisjoined shapes)) _ x y (λ m n h. joined_kept m h.0)
      (Afterwards-second (Alone (IsCutOff shapes)) _ x y (λ m n h. reached_kept m h.0) found)))))

  -- the start of the even line alone comes to its bar by a wrong side
  pub first_uncrossed : enters are.even.s are.even.t ≡ false → enters are.odd.s are.odd.t ≡ true
      → IsFirstReport (ExcitationBroken shapes) b b
  first_uncrossed even odd = found_after b b (Afterwards-first (Alone (IsChainUncrossed shapes)) _ b b
      (alone_first (IsChainUncrossed shapes) b (bar_uncrossed shapes a b are.even even) (λ n h.
      at_one (λ k. IsChainUncrossed shapes k → k ≡ b) n (b ∷ d ∷ [])
      (subst (IsOneOf n) are.bars (part_place shapes BAR n h.bar))
      (λ m. refl, (λ m. absurd (bar_crossed shapes c d are.odd odd m), tt)) h)))

  -- one frame alone is not excited
  pub first_unexcited : enters are.even.s are.even.t ≡ true → enters are.odd.s are.odd.t ≡ true → (n : ℕ)
      → (frame : Shape) → slice_get shapes n ≡ Some frame → is_frame frame ≡ true
      → serves shapes a b are.even frame ≡ false → serves shapes c d are.odd frame ≡ false
      → places is_unexcited shapes ≡ n ∷ [] → IsFirstReport (ExcitationBroken shapes) n n
  first_unexcited even odd n frame frame_is frame_so not_even not_odd alone = found_after n n
      (Afterwards-second (Alone (IsChainUncrossed shapes)) _ n n (λ x y h. crossed_kept even odd x h.0)
      (alone_first (IsChainUnexcited shapes) n
      (record { frame = record { shape = frame; shape_is = frame_is; passes_so = frame_so }; not_so = not_so })
      (λ k h. one_of (subst (IsOneOf k) alone (unexcited_place k h)))))
    where
      not_so : IsChainExcited shapes frame → ⊥
      not_so e = elim (subst (IsOneOf e.bar) are.bars (part_place shapes BAR e.bar e.phase.is_bar)) [
        | inl same ↦ both_ways (serves shapes a b are.even frame) not_even (served shapes a b are.even frame e same)
        | inr rest ↦ both_ways (serves shapes c d are.odd frame) not_odd
            (served shapes c d are.odd frame e (one_of rest))
      ]

  pub excitation_kept : enters are.even.s are.even.t ≡ true → enters are.odd.s are.odd.t ≡ true
      → places is_unexcited shapes ≡ [] → ReportsNone (ExcitationBroken shapes)
  excitation_kept even odd none = excitation_none shapes (chains_kept even odd none)
