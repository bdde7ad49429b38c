-- The rule of the excitation lines by chains is judged, each of its parts by itself.
use Rattle.std.proofs.Common.{◌≡◌, ◌≢◌, ℕ, ◌<◌, ◌≤◌, ◌⊎◌, true, false, List, length, Some, arith, inl, inr}
use Rattle.std.specs.Prelude.{slice_get, ◌%◌}
use Rattle.std.proofs.lemmas.Bool.{cases_lt}
use Rattle.std.proofs.lemmas.Option.{slice_get_within}
use Rattle.geom.specs.declared.shapes.Shape.{Shape}
use Rattle.geom.specs.Rectangle.{overlap, within}
use Rattle.layout_rules.specs.declared.layers.TheConstants.{EVEN_LINE, ODD_LINE, BAR, LINK, START}
use Rattle.layout_rules.specs.Layers.{is_line, is_frame}
use Rattle.layout_rules.specs.Rows.{row_of}
use Rattle.layout_rules.specs.Reports.{Alone, Afterwards, Passes}
use Rattle.layout_rules.specs.ExcitationLines.{Contact, IsPart, enters, leaves, phase_of}
use Rattle.layout_rules.specs.ExcitationRule.{is_no_part, IsStartOn, HasOneStart, LacksOneStart, HasStartContacts}
use Rattle.layout_rules.specs.ExcitationRule.{HasLinkContacts, HasBarContacts}
use Rattle.layout_rules.specs.ExcitationRule.{HasItsContacts, IsMisjoined, IsCutOff}
use Rattle.layout_rules.specs.Code.LineChains.{ChainBefore}
use Rattle.layout_rules.specs.Code.ChainRule.{ChainLeavesWrongly, IsChainUncrossed, IsChainExcited, IsChainUnexcited}
use Rattle.layout_rules.specs.Code.ChainRule.{ChainsBroken}
use Rattle.layout_rules.proofs.Deciding.{dec_same, dec_both, dec_either, dec_then, dec_not, dec_true, dec_false}
use Rattle.layout_rules.proofs.Deciding.{dec_and, dec_if, dec_equal, dec_below, dec_up_to, dec_about}
use Rattle.layout_rules.proofs.Deciding.{dec_some, dec_all_those, dec_all_items, dec_only, dec_item, dec_some_item}
use Rattle.layout_rules.proofs.Judging.{Judged, judged_alone, judged_afterwards}
use Rattle.layout_rules.proofs.DecidedShapes.{dec_passes, dec_passes_with, passes_within}
use Rattle.layout_rules.proofs.LineWays.{dec_contact, contact_within, dec_part, dec_part_with, part_within}
use Rattle.layout_rules.proofs.LineWays.{dec_reached, dec_before}

module _ (shapes : List Shape) where
  -- ---- starts

  abbrev dec_start_on : (layer i : ℕ) → Dec (IsStartOn shapes layer i)
  dec_start_on layer i = dec_same
      (λ h. record { start = h.0; of_layer = h.1 }) (λ s. (s.start, s.of_layer))
      (dec_part_with shapes START i (λ s. s.layer ≡ layer) (λ s. dec_equal s.layer layer))

  abbrev pub dec_one_start : (layer : ℕ) → Dec (HasOneStart shapes layer)
  dec_one_start layer = dec_same
      (λ h. record { number = h.number; start = h.holds; only = h.only })
      (λ h. record { number = h.number; holds = h.start; only = h.only })
      (dec_only (IsStartOn shapes layer) (length shapes) (dec_start_on layer)
      (λ i s. part_within shapes START i s.start))

  abbrev IsLeastOf : ℕ → ℕ → Type 0
  IsLeastOf layer a = (c : ℕ) (s : Shape) → slice_get shapes c ≡ Some s → s.layer ≡ layer → a ≤ c

  abbrev dec_least_of : (layer a : ℕ) → Dec (IsLeastOf layer a)
  dec_least_of layer a = dec_all_items shapes (λ c s. s.layer ≡ layer → a ≤ c)
      (λ c s is. dec_then (dec_equal s.layer layer) (dec_up_to a c))

  abbrev dec_lacks : (layer a : ℕ) → Dec (LacksOneStart shapes layer a)
  dec_lacks layer a = dec_same
      (λ h. record { shape = h.0; shape_is = h.1; of_layer = h.2.0; least = h.2.1.0; not_one = h.2.1.1 })
      (λ l. (l.shape, l.shape_is, (l.of_layer, (l.least, l.not_one))))
      (dec_item shapes a (λ s. (s.layer ≡ layer) × (IsLeastOf layer a × (HasOneStart shapes layer → ⊥)))
      (λ s is. dec_and (dec_equal s.layer layer)
      (λ on. dec_and (dec_least_of layer a) (λ least. dec_not (dec_one_start layer)))))

  -- ---- contacts

  abbrev dec_only_contacts : (i : ℕ) (P : ℕ → Type 0) → ((c : ℕ) → Dec (P c)) → Dec ((c : ℕ) → Contact shapes i c → P c)
  dec_only_contacts i P decided = dec_all_those (Contact shapes i) P (length shapes) (dec_contact shapes i)
      (contact_within shapes i) decided

  abbrev dec_start_contacts : (i : ℕ) → Dec (HasStartContacts shapes i)
  dec_start_contacts i = dec_same
      (λ h. record { bar = h.0; contact = h.1.0; is_bar = h.1.1.0; only = h.1.1.1 })
      (λ h. (h.bar, (h.contact, (h.is_bar, h.only))))
      (dec_some (λ bar. Contact shapes i bar
      × (IsPart shapes BAR bar × ((c : ℕ) → Contact shapes i c → c ≡ bar))) (length shapes)
      (λ bar. dec_and (dec_contact shapes i bar)
      (λ contact. dec_both (dec_part shapes BAR bar) (dec_only_contacts i (λ c. c ≡ bar) (λ c. dec_equal c bar))))
      (λ bar h. contact_within shapes i bar h.0))

  -- one contact or two, and these alone
  abbrev AreContacts : ℕ → ℕ → ℕ → Type 0
  AreContacts i one other = (c : ℕ) → Contact shapes i c → (c ≡ one) ⊎ (c ≡ other)

  abbrev dec_are_contacts : (i one other : ℕ) → Dec (AreContacts i one other)
  dec_are_contacts i one other = dec_only_contacts i (λ c. (c ≡ one) ⊎ (c ≡ other))
      (λ c. dec_either (dec_equal c one) (dec_equal c other))

  abbrev AreBars : ℕ → ℕ → ℕ → Type 0
  AreBars i one other = (one ≢ other)
      × (Contact shapes i other × (IsPart shapes BAR one × (IsPart shapes BAR other × AreContacts i one other)))

  abbrev dec_bars : (i one other : ℕ) → Dec (AreBars i one other)
  dec_bars i one other = dec_both (dec_not (dec_equal one other)) (dec_and (dec_contact shapes i other) (λ contact.
      dec_both (dec_part shapes BAR one) (dec_both (dec_part shapes BAR other) (dec_are_contacts i one other))))

  abbrev dec_link_contacts : (i : ℕ) → Dec (HasLinkContacts shapes i)
  dec_link_contacts i = dec_same
      (λ h. record {
        one = h.0;
        other = h.1.1.0;
        apart = h.1.1.1.0;
        one_contact = h.1.0;
        other_contact = h.1.1.1.1.0;
        one_bar = h.1.1.1.1.1.0;
        other_bar = h.1.1.1.1.1.1.0;
        only = h.1.1.1.1.1.1.1;
      })
      (λ l. (l.one, (l.one_contact, (l.other, (l.apart, (l.other_contact, (l.one_bar, (l.other_bar, l.only))))))))
      (dec_some (λ one. Contact shapes i one × ((other : ℕ) × AreBars i one other)) (length shapes)
      (λ one. dec_and (dec_contact shapes i one) (λ contact.
      dec_some (AreBars i one) (length shapes) (dec_bars i one) (λ other h. contact_within shapes i other h.1.0)))
      (λ one h. contact_within shapes i one h.0))

  -- one of the contacts, and beside it another one or the same
  abbrev HasTwo : ℕ → Type 0
  HasTwo i = (one : ℕ) × (Contact shapes i one × ((other : ℕ) × ((other < length shapes) × AreContacts i one other)))

  abbrev dec_two : (i : ℕ) → Dec (HasTwo i)
  dec_two i = dec_some (λ one. Contact shapes i one
      × ((other : ℕ) × ((other < length shapes) × AreContacts i one other))) (length shapes)
      (λ one. dec_and (dec_contact shapes i one) (λ contact.
      dec_some (λ other. (other < length shapes) × AreContacts i one other) (length shapes)
      (λ other. dec_both (dec_below other (length shapes)) (dec_are_contacts i one other)) (λ other h. h.0)))
      (λ one h. contact_within shapes i one h.0)

  -- a number past the shapes is no contact, so the first one can stand in its place
  pub two_within : (i : ℕ) → HasBarContacts shapes i → HasTwo i
  two_within i bar = elim (cases_lt bar.other (length shapes)) [
    | inl lt ↦ (bar.one, (bar.one_contact, (bar.other, (lt, bar.only))))
    | inr le ↦ (
      bar.one,
      (
        bar.one_contact,
        (
          bar.one,
          (
            contact_within shapes i bar.one bar.one_contact,
            λ c contact. elim (bar.only c contact) [
              | inl e ↦ inl e
              | inr e ↦ absurd (let lt : c < length shapes = contact_within shapes i c contact in omega arith)
            ],
          ),
        ),
      ),
    )
  ]

  abbrev dec_bar_contacts : (i : ℕ) → Dec (HasBarContacts shapes i)
  dec_bar_contacts i = dec_same
      (λ h. record { one = h.0.0; other = h.0.1.1.0; one_contact = h.0.1.0; only = h.0.1.1.1.1; no_bar = h.1 })
      (λ h. (two_within i h, h.no_bar))
      (dec_both (dec_two i) (dec_only_contacts i (λ c. IsPart shapes BAR c → ⊥) (λ c. dec_not (dec_part shapes BAR c))))

  abbrev dec_its_contacts : (i : ℕ) → Dec (HasItsContacts shapes i)
  dec_its_contacts i = dec_same
      (λ h. record { start = h.0; link = h.1.0; bar = h.1.1 }) (λ h. (h.start, (h.link, h.bar)))
      (dec_both (dec_if (dec_part shapes START i) (λ part. dec_start_contacts i))
      (dec_both (dec_if (dec_part shapes LINK i) (λ part. dec_link_contacts i))
      (dec_if (dec_part shapes BAR i) (λ part. dec_bar_contacts i))))

  abbrev dec_misjoined : (i : ℕ) → Dec (IsMisjoined shapes i)
  dec_misjoined i = dec_same (λ h. record { part = h.0; not_so = h.1 }) (λ m. (m.part, m.not_so))
      (dec_and (dec_passes is_line shapes i) (λ part. dec_not (dec_its_contacts i)))

  dec_cut_off : (i : ℕ) → Dec (IsCutOff shapes i)
  dec_cut_off i = dec_same (λ h. record { part = h.0; not_reached = h.1 }) (λ c. (c.part, c.not_reached))
      (dec_both (dec_passes is_line shapes i) (dec_not (dec_reached shapes i)))

  -- ---- along the line

  -- a contact of the bar other than the one before it
  abbrev IsAfter : ℕ → ℕ → Shape → Shape → ℕ → Type 0
  IsAfter b before bar before_shape after = (after ≢ before)
      × ((contact : Contact shapes b after) × (leaves before_shape bar contact.second ≡ false))

  dec_after : (b before : ℕ) (bar before_shape : Shape) (after : ℕ) → Dec (IsAfter b before bar before_shape after)
  dec_after b before bar before_shape after = dec_both (dec_not (dec_equal after before))
      (dec_about shapes (Contact shapes b after) after (λ c. c.second) (λ c. c.second_is) (dec_contact shapes b after)
      (λ s. leaves before_shape bar s ≡ false) (λ s. dec_false (leaves before_shape bar s)))

  dec_leaves : (b before : ℕ) (bar before_shape : Shape) → Dec (ChainLeavesWrongly shapes b before bar before_shape)
  dec_leaves b before bar before_shape = dec_same
      (λ h. record { after = h.0; contact = h.1.1.0; onward = h.1.0; wrong = h.1.1.1 })
      (λ l. (l.after, (l.onward, (l.contact, l.wrong))))
      (dec_some (IsAfter b before bar before_shape) (length shapes) (dec_after b before bar before_shape)
      (λ after h. contact_within shapes b after h.1.0))

  -- by some shape the line comes to the bar, and so
  abbrev ComesBy : ℕ → (ℕ → Shape → Type 0) → Type 0
  ComesBy b Q = (before : ℕ) × ((before_shape : Shape) × (slice_get shapes before ≡ Some before_shape)
      × (ChainBefore shapes before b × Q before before_shape))

  dec_comes_by : (b : ℕ) (Q : ℕ → Shape → Type 0) → ((before : ℕ) (s : Shape) → Dec (Q before s)) → Dec (ComesBy b Q)
  dec_comes_by b Q decided = dec_some_item shapes (λ before s. ChainBefore shapes before b × Q before s)
      (λ before s is. dec_both (dec_before shapes before b) (decided before s))

  -- wrongly, or to leave it wrongly
  abbrev IsWrong : ℕ → Shape → ℕ → Shape → Type 0
  IsWrong b bar before s = (enters s bar ≡ false) ⊎ ChainLeavesWrongly shapes b before bar s

  dec_not_crossed : (b : ℕ) → Dec (IsChainUncrossed shapes b)
  dec_not_crossed b = dec_same
      (λ h. record {
        bar = h.0;
        before = h.1.0;
        before_shape = h.1.1.0;
        before_shape_is = h.1.1.1;
        is_before = h.1.1.2.0;
        wrong = h.1.1.2.1;
      })
      (λ n. (n.bar, (n.before, (n.before_shape, n.before_shape_is, (n.is_before, n.wrong)))))
      (dec_part_with shapes BAR b (λ bar. ComesBy b (IsWrong b bar)) (λ bar. dec_comes_by b (IsWrong b bar)
      (λ before s. dec_either (dec_false (enters s bar)) (dec_leaves b before bar s))))

  -- ---- bars over frames

  abbrev OverAlone : Shape → ℕ → Type 0
  OverAlone frame b = (i : ℕ) (s : Shape) → slice_get shapes i ≡ Some s → is_line s ≡ true
      → overlap s.rect frame.rect ≡ true → i ≡ b

  dec_over_alone : (frame : Shape) (b : ℕ) → Dec (OverAlone frame b)
  dec_over_alone frame b = dec_all_items shapes (λ i s. is_line s ≡ true → overlap s.rect frame.rect ≡ true → i ≡ b)
      (λ i s is. dec_then (dec_true (is_line s)) (dec_then (dec_true (overlap s.rect frame.rect)) (dec_equal i b)))

  -- by this phase the line comes to the bar
  abbrev HasPhase : ℕ → Shape → ℕ → Shape → Type 0
  HasPhase phase bar before s = phase_of s bar ≡ phase

  abbrev Excites : Shape → ℕ → Shape → Type 0
  Excites frame b bar = ComesBy b (HasPhase (row_of shapes frame.rect.y0 % 4) bar)
      × ((overlap bar.rect frame.rect ≡ true) × ((within frame.rect bar.rect ≡ true) × OverAlone frame b))

  dec_excites : (frame : Shape) (b : ℕ) (bar : Shape) → Dec (Excites frame b bar)
  dec_excites frame b bar = dec_both
      (dec_comes_by b (HasPhase (row_of shapes frame.rect.y0 % 4) bar)
      (λ before s. dec_equal (phase_of s bar) (row_of shapes frame.rect.y0 % 4)))
      (dec_both (dec_true (overlap bar.rect frame.rect))
      (dec_both (dec_true (within frame.rect bar.rect)) (dec_over_alone frame b)))

  dec_excited : (frame : Shape) → Dec (IsChainExcited shapes frame)
  dec_excited frame = dec_same
      (λ h. record {
        bar = h.0;
        phase = record {
          is_bar = h.1.0;
          before = h.1.1.0.0;
          before_shape = h.1.1.0.1.0;
          before_shape_is = h.1.1.0.1.1;
          is_before = h.1.1.0.1.2.0;
          phase_is = h.1.1.0.1.2.1;
        };
        over = h.1.1.1.0;
        contains = h.1.1.1.1.0;
        only = h.1.1.1.1.1;
      })
      (λ e. let phase = e.phase in (
        e.bar,
        (
          phase.is_bar,
          (
            (phase.before, (phase.before_shape, phase.before_shape_is, (phase.is_before, phase.phase_is))),
            (e.over, (e.contains, e.only)),
          ),
        ),
      ))
      (dec_some (λ b. (bar : IsPart shapes BAR b) × Excites frame b bar.shape) (length shapes)
      (λ b. dec_part_with shapes BAR b (Excites frame b) (dec_excites frame b)) (λ b h. part_within shapes BAR b h.0))

  dec_unexcited : (f : ℕ) → Dec (IsChainUnexcited shapes f)
  dec_unexcited f = dec_same (λ h. record { frame = h.0; not_so = h.1 }) (λ u. (u.frame, u.not_so))
      (dec_passes_with is_frame shapes f (λ frame. IsChainExcited shapes frame → ⊥)
      (λ frame. dec_not (dec_excited frame)))

  -- ---- the six parts in turn

  abbrev FramesAfter : ℕ → ℕ → Type 0
  FramesAfter = Alone (IsChainUnexcited shapes)

  abbrev BarsAfter : ℕ → ℕ → Type 0
  BarsAfter = Afterwards (Alone (IsChainUncrossed shapes)) FramesAfter

  abbrev CutOffAfter : ℕ → ℕ → Type 0
  CutOffAfter = Afterwards (Alone (IsCutOff shapes)) BarsAfter

  abbrev alone : (fault : ℕ → Type 0) → ((n : ℕ) → Dec (fault n))
      → ((n : ℕ) → fault n → n < length shapes) → Judged (Alone fault)
  alone fault decided within = judged_alone fault (length shapes) decided within

  abbrev lacks_judged : (layer : ℕ) → Judged (Alone (LacksOneStart shapes layer))
  lacks_judged layer = alone (LacksOneStart shapes layer) (dec_lacks layer)
      (λ a l. slice_get_within shapes a l.shape l.shape_is)

  -- how the lines are laid out, and what is judged after that
  abbrev pub layout_judged : (rest : ℕ → ℕ → Type 0) → Judged rest
      → Judged (Afterwards (Alone (Passes is_no_part shapes)) (Afterwards (Alone (LacksOneStart shapes EVEN_LINE))
      (Afterwards (Alone (LacksOneStart shapes ODD_LINE)) (Afterwards (Alone (IsMisjoined shapes)) rest))))
  layout_judged rest after =
      judged_afterwards (Alone (Passes is_no_part shapes)) _
      (alone (Passes is_no_part shapes) (dec_passes is_no_part shapes) (passes_within is_no_part shapes))
      (judged_afterwards (Alone (LacksOneStart shapes EVEN_LINE)) _ (lacks_judged EVEN_LINE)
      (judged_afterwards (Alone (LacksOneStart shapes ODD_LINE)) _ (lacks_judged ODD_LINE)
      (judged_afterwards (Alone (IsMisjoined shapes)) rest
      (alone (IsMisjoined shapes) dec_misjoined (λ i m. passes_within is_line shapes i m.part)) after)))

  -- which parts are reached by chains takes too long to compute, so what comes then is not unfolded
  pub cut_off_judged : Judged CutOffAfter
  cut_off_judged = judged_afterwards (Alone (IsCutOff shapes)) BarsAfter
      (alone (IsCutOff shapes) dec_cut_off (λ i c. passes_within is_line shapes i c.part))
      (judged_afterwards (Alone (IsChainUncrossed shapes)) FramesAfter
      (alone (IsChainUncrossed shapes) dec_not_crossed (λ b n. part_within shapes BAR b n.bar))
      (alone (IsChainUnexcited shapes) dec_unexcited (λ f u. passes_within is_frame shapes f u.frame)))

  abbrev pub chains_judged : Judged (ChainsBroken shapes)
  chains_judged = layout_judged CutOffAfter cut_off_judged
