-- The rules of nets and rows are judged, since nets tell which shapes are joined.
use Rattle.std.proofs.Common.{◌≡◌, ◌≢◌, ℕ, suc, ◌<◌, ◌≤◌, Bool, true, false, List, [], ◌∷◌, length, Some, arith, inl}
use Rattle.std.proofs.Common.{inr, slice_get, slice_index}
use Rattle.std.proofs.lemmas.Option.{slice_get_within}
use Rattle.geom.specs.declared.shapes.Shape.{Shape}
use Rattle.geom.specs.declared.shapes.Flat.{Flat}
use Rattle.layout_rules.specs.declared.layers.TheConstants.{INPUT_PIN, OUTPUT_PIN}
use Rattle.layout_rules.specs.Layers.{is_pin}
use Rattle.layout_rules.specs.Touch.{IsPath, Joined}
use Rattle.layout_rules.specs.Nets.{AreNets}
use Rattle.layout_rules.proofs.NetLaws.{Touching-within, Joined-within, one_number, one_net}
use Rattle.layout_rules.specs.Pins.{lies_in}
use Rattle.layout_rules.specs.Rows.{row_of}
use Rattle.layout_rules.specs.Labels.{is_labelled}
use Rattle.layout_rules.specs.Reports.{Alone, Otherwise}
use Rattle.layout_rules.specs.CircuitRules.{HasRival, IsInput, IsSource, IsUndriven, IsDriven, NetsBroken, RowsBroken}
use Rattle.layout_rules.proofs.Deciding.{side, dec_same, dec_both, dec_not, dec_true, dec_false, dec_equal, dec_some}
use Rattle.layout_rules.proofs.Deciding.{dec_item, dec_some_item}
use Rattle.layout_rules.proofs.Judging.{Judged, JudgedAt, judged, judged_at, judged_pairs, alone_at, otherwise_at}

module _ (shapes : List Shape) (some : (ns : List ℕ) × AreNets shapes ns) where
  -- a number past the shapes is joined to itself alone
  pub alone_past : (i j : ℕ) → length shapes ≤ i → Joined shapes i j → i ≡ j
  alone_past i j past joined = by_path joined.0 joined.1
    where
      by_path : (path : List ℕ) → IsPath shapes i path j → i ≡ j
      by_path [] e = e
      by_path (m ∷ path) p = absurd (let lt : i < length shapes = (Touching-within p.0).0 in omega arith)

  abbrev pub dec_joined : (i j : ℕ) → Dec (Joined shapes i j)
  dec_joined i j = elim (side i (length shapes)) [
    | inl here ↦ elim (side j (length shapes)) [
      | inl there ↦ dec_same (one_net shapes nets are i j here there) (one_number shapes nets are i j here)
          (dec_equal (slice_index nets i) (slice_index nets j))
      | inr past ↦ no (λ joined. let lt : j < length shapes = Joined-within shapes i j here joined in omega arith)
    ]
    | inr past ↦ dec_same (λ e. ([], e)) (alone_past i j past) (dec_equal i j)
  ]
    where
      nets : List ℕ
      nets = some.0

      are : AreNets shapes nets
      are = some.1

  abbrev pub dec_rival : (a b : ℕ) → Dec (HasRival shapes a b)
  dec_rival a b = dec_same
      (λ h. record {
        pin = record { shape = h.0; shape_is = h.1; passes_so = h.2.0 };
        other = h.2.1.0;
        other_is = h.2.1.1;
        one_layer = h.2.1.2.0;
        apart = h.2.1.2.1.0;
        joined = h.2.1.2.1.1;
      })
      (λ r. (r.pin.shape, r.pin.shape_is, (r.pin.passes_so, (r.other, r.other_is, (r.one_layer, (r.apart, r.joined))))))
      (dec_item shapes a (λ s. (is_pin s ≡ true)
      × ((t : Shape) × (slice_get shapes b ≡ Some t) × ((s.layer ≡ t.layer) × ((a ≢ b) × Joined shapes a b))))
      (λ s is. dec_both (dec_true (is_pin s))
      (dec_item shapes b (λ t. (s.layer ≡ t.layer) × ((a ≢ b) × Joined shapes a b))
      (λ t there. dec_both (dec_equal s.layer t.layer) (dec_both (dec_not (dec_equal a b)) (dec_joined a b))))))

  abbrev pub dec_source : (a b : ℕ) → Dec (IsSource shapes a b)
  dec_source a b = dec_same
      (λ h. record { pin = h.0; pin_is = h.1; of_layer = h.2.0; joined = h.2.1 })
      (λ s. (s.pin, s.pin_is, (s.of_layer, s.joined)))
      (dec_item shapes b (λ pin. (pin.layer ≡ OUTPUT_PIN) × Joined shapes a b)
      (λ pin is. dec_both (dec_equal pin.layer OUTPUT_PIN) (dec_joined a b)))

  pub source_within : (a b : ℕ) → IsSource shapes a b → b < length shapes
  source_within a b s = slice_get_within shapes b s.pin s.pin_is

module _ (flat : Flat) (some : (ns : List ℕ) × AreNets flat.shapes ns) where
  -- the shapes of the flat form
  abbrev shapes_of : List Shape
  shapes_of = flat.shapes

  abbrev pub dec_input : (labelled : Bool) (a : ℕ) → ((pin : Shape) → Dec (is_labelled flat pin ≡ labelled))
      → Dec (IsInput flat labelled a)
  dec_input labelled a decided = dec_same
      (λ h. record { pin = h.0; pin_is = h.1; of_layer = h.2.0; labelled_so = h.2.1 })
      (λ i. (i.pin, i.pin_is, (i.of_layer, i.labelled_so)))
      (dec_item shapes_of a (λ pin. (pin.layer ≡ INPUT_PIN) × (is_labelled flat pin ≡ labelled))
      (λ pin is. dec_both (dec_equal pin.layer INPUT_PIN) (decided pin)))

  abbrev pub dec_unlabelled : (a : ℕ) → Dec (IsInput flat false a)
  dec_unlabelled a = dec_input false a (λ pin. dec_false (is_labelled flat pin))

  pub input_within : (labelled : Bool) (a : ℕ) → IsInput flat labelled a → a < length shapes_of
  input_within labelled a i = slice_get_within shapes_of a i.pin i.pin_is

  abbrev pub dec_undriven : (a : ℕ) → Dec (IsUndriven flat a)
  dec_undriven a = dec_same (λ h. record { input = h.0; none = λ b s. h.1 (b, s) })
      (λ u. (u.input, λ s. u.none s.0 s.1))
      (dec_both (dec_unlabelled a)
      (dec_not (dec_some (IsSource shapes_of a) (length shapes_of) (dec_source shapes_of some a)
      (source_within shapes_of some a))))

  abbrev pub dec_driven : (a b : ℕ) → Dec (IsDriven flat a b)
  dec_driven a b = dec_same (λ h. record { input = h.0; source = h.1 }) (λ d. (d.input, d.source))
      (dec_both (dec_input true a (λ pin. dec_true (is_labelled flat pin))) (dec_source shapes_of some a b))

  abbrev pub nets_judged_at : (a : ℕ) → JudgedAt (NetsBroken flat) a
  nets_judged_at a = otherwise_at (HasRival shapes_of) (Otherwise (Alone (IsUndriven flat)) (IsDriven flat)) a
      (judged_at (HasRival shapes_of) a (length shapes_of) (dec_rival shapes_of some a)
      (λ b r. slice_get_within shapes_of b r.other r.other_is))
      (otherwise_at (Alone (IsUndriven flat)) (IsDriven flat) a
      (alone_at (IsUndriven flat) a (dec_undriven a))
      (judged_at (IsDriven flat) a (length shapes_of) (dec_driven a)
      (λ b d. source_within shapes_of some a b d.source)))

  pub nets_within : (a b : ℕ) → NetsBroken flat a b → a < length shapes_of
  nets_within a b (inl r) = slice_get_within shapes_of a r.pin.shape r.pin.shape_is
  nets_within a b (inr (none, inl u)) = input_within false a u.0.input
  nets_within a b (inr (none, inr (neither, d))) = input_within true a d.input

  abbrev pub nets_judged : Judged (NetsBroken flat)
  nets_judged = judged (NetsBroken flat) (length shapes_of) nets_judged_at nets_within

  -- cells around the two pins stand in rows that don't follow each other
  abbrev AreApart : Shape → Shape → Shape → Shape → Type 0
  AreApart pin above source below = (lies_in pin above ≡ true)
      × ((lies_in source below ≡ true) × (row_of shapes_of above.rect.y0 ≢ suc (row_of shapes_of below.rect.y0)))

  abbrev InOtherRows : Shape → Shape → Type 0
  InOtherRows pin source = (upper : ℕ) × ((above : Shape) × (slice_get shapes_of upper ≡ Some above)
      × ((lower : ℕ) × ((below : Shape) × (slice_get shapes_of lower ≡ Some below) × AreApart pin above source below)))

  abbrev pub dec_other_rows : (pin source : Shape) → Dec (InOtherRows pin source)
  dec_other_rows pin source = dec_some_item shapes_of
      (λ upper above. (lower : ℕ)
      × ((below : Shape) × (slice_get shapes_of lower ≡ Some below) × AreApart pin above source below))
      (λ upper above is. dec_some_item shapes_of (λ lower below. AreApart pin above source below)
      (λ lower below there. dec_both (dec_true (lies_in pin above)) (dec_both (dec_true (lies_in source below))
      (dec_not (dec_equal (row_of shapes_of above.rect.y0) (suc (row_of shapes_of below.rect.y0)))))))

  abbrev WithOtherRows : ℕ → ℕ → Type 0
  WithOtherRows a b = (pin : Shape) × (slice_get shapes_of a ≡ Some pin)
      × ((source : Shape) × (slice_get shapes_of b ≡ Some source) × InOtherRows pin source)

  -- the rows of a report, whose frames name their pins anew
  pub rows_apart : (a b : ℕ) → RowsBroken flat a b → WithOtherRows a b
  rows_apart a b r = (
    r.in_upper.pin,
    r.in_upper.pin_is,
    (
      r.in_lower.pin,
      r.in_lower.pin_is,
      (
        r.upper,
        (
          r.in_upper.frame,
          r.in_upper.frame_is,
          (r.lower, (r.in_lower.frame, r.in_lower.frame_is, (r.in_upper.lies_so, (r.in_lower.lies_so, r.not_above)))),
        ),
      ),
    ),
  )

  pub rows_broken : (a b : ℕ) → IsInput flat false a → IsSource shapes_of a b → WithOtherRows a b → RowsBroken flat a b
  rows_broken a b input source (
    pin,
    pin_is,
    (
      other,
      other_is,
      (upper, (above, above_is, (lower, (below, below_is, (in_upper, (in_lower, apart)))))),
    ),
  ) = record {
    input = input;
    source = source;
    upper = upper;
    lower = lower;
    in_upper = record { pin = pin; frame = above; pin_is = pin_is; frame_is = above_is; lies_so = in_upper };
    in_lower = record { pin = other; frame = below; pin_is = other_is; frame_is = below_is; lies_so = in_lower };
    not_above = apart;
  }

  abbrev pub dec_rows : (a b : ℕ) → Dec (RowsBroken flat a b)
  dec_rows a b = dec_same (λ h. rows_broken a b h.0 h.1.0 h.1.1) (λ r. (r.input, (r.source, rows_apart a b r)))
      (dec_both (dec_unlabelled a) (dec_both (dec_source shapes_of some a b)
      (dec_item shapes_of a (λ pin. (source : Shape) × (slice_get shapes_of b ≡ Some source) × InOtherRows pin source)
      (λ pin is. dec_item shapes_of b (InOtherRows pin) (λ source there. dec_other_rows pin source)))))

  abbrev pub rows_judged : Judged (RowsBroken flat)
  rows_judged = judged_pairs (RowsBroken flat) (length shapes_of) dec_rows
      (λ a b r. (input_within false a r.input, source_within shapes_of some a b r.source))
