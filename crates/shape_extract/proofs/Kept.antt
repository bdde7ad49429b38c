-- What the rules of cells, excitation lines and labels say where nothing breaks them.
use Rattle.std.proofs.Common.{◌≡◌, ℕ, ◌+◌, ◌<◌, ◌⊎◌, inl, inr, Bool, true, false, ◌&&◌, List, length, refl, sym}
use Rattle.std.proofs.Common.{ap, ◌∙◌, arith}
use Rattle.std.specs.Prelude.{slice_get, slice_index, count_by, ◌==◌}
use Rattle.std.proofs.lemmas.Bool.{cases_lt, and_parts, and_from, eqb-true}
use Rattle.std.proofs.lemmas.Bool.Decides.{nat_tests}
use Rattle.std.proofs.lemmas.Option.{same_Some}
use Rattle.geom.specs.declared.shapes.Shape.{Shape}
use Rattle.geom.specs.declared.shapes.Label.{Label}
use Rattle.geom.specs.declared.shapes.Flat.{Flat}
use Rattle.layout_rules.specs.declared.layers.TheConstants.{INPUT_PIN, LABELS}
use Rattle.layout_rules.specs.Layers.{is_frame, is_pin}
use Rattle.layout_rules.specs.Reports.{ReportsNone, Alone, Afterwards, Passes}
use Rattle.layout_rules.proofs.PlaceLaws.{list_any-place, count_by-one}
use Rattle.layout_rules.specs.Pins.{LiesIn, IsPinOf}
use Rattle.layout_rules.specs.Labels.{marks, Marks, number_of_label}
use Rattle.layout_rules.specs.CircuitRules.{IsNoCell, IsStrayPin, CellsBroken, is_port, is_port_label, IsLabelAt}
use Rattle.layout_rules.specs.CircuitRules.{IsNoPortLabel, IsUnlabelledPort, IsMisnumbered, LabelsBroken}
use Rattle.layout_rules.proofs.ReportLaws.{first_kept, second_kept, alone_kept}
use Rattle.layout_rules.proofs.Deciding.{settled}
use Rattle.shape_extract.specs.Extraction.{IsNamed}

pub settled_true : (b : Bool) → ((b ≡ false) → ⊥) → b ≡ true
settled_true true h = refl
settled_true false h = absurd (h refl)

-- ---- cells and their pins

module _ (flat : Flat) (kept : ReportsNone (CellsBroken flat.shapes)) where
  pub no_fault : (n : ℕ) → IsNoCell flat.shapes n ⊎ IsStrayPin flat.shapes n → ⊥
  no_fault n fault = alone_kept (λ m. IsNoCell flat.shapes m ⊎ IsStrayPin flat.shapes m) (second_kept _ _ kept) n fault

  frame_passes : (f layer i p : ℕ) → IsPinOf flat.shapes f layer i p → Passes is_frame flat.shapes f
  frame_passes f layer i p is =
      let both = and_parts (is_pin is.pin) (is_frame is.frame)
      (and_parts (is_pin is.pin && is_frame is.frame) _ is.lies_so).0 in
      record { shape = is.frame; shape_is = is.frame_is; passes_so = both.1 }

  -- a frame has one input pin, and one output pin, of each number
  pub one_input : (f i p q : ℕ) → IsPinOf flat.shapes f INPUT_PIN i p → IsPinOf flat.shapes f INPUT_PIN i q → p ≡ q
  one_input f i p q a b = settled p q
      (λ ne. no_fault f (inl (record {
        frame = frame_passes f INPUT_PIN i p a;
        not_so = λ cell. ne (cell.inputs.one i p q a b);
      })))

  -- a pin lies in one frame
  pub one_frame : (f g layer other i j p : ℕ) → IsPinOf flat.shapes f layer i p
      → IsPinOf flat.shapes g other j p → f ≡ g
  one_frame f g layer other i j p a b =
      let both = and_parts (is_pin a.pin) (is_frame a.frame)
      (and_parts (is_pin a.pin && is_frame a.frame) _ a.lies_so).0 in
      let pin : Passes is_pin flat.shapes p = record { shape = a.pin; shape_is = a.pin_is; passes_so = both.0 } in
      let in_f : LiesIn flat.shapes p f =
      record { pin = a.pin; frame = a.frame; pin_is = a.pin_is; frame_is = a.frame_is; lies_so = a.lies_so } in
      let in_g : LiesIn flat.shapes p g =
      record { pin = b.pin; frame = b.frame; pin_is = b.pin_is; frame_is = b.frame_is; lies_so = b.lies_so } in
      settled f g (λ ne. no_fault p
      (inr (record { pin = pin; not_so = λ one. ne (one.only f in_f ∙ sym (one.only g in_g)) })))

-- ---- labels

module _ (flat : Flat) (kept : ReportsNone (LabelsBroken flat)) where
  pub later_kept : ReportsNone (Afterwards (Alone (IsUnlabelledPort flat)) (Alone (IsMisnumbered flat)))
  later_kept = second_kept _ _ kept

  abbrev pub label_at : (l p : ℕ) → (m : Marks flat l p) → IsLabelAt flat (length flat.shapes + l)
  label_at l p m =
      let layer = (and_parts (m.label.layer == LABELS) _ (and_parts (m.label.layer == LABELS && _) _ m.marks_so).0).0 in
      record {
        place = l;
        label = m.label;
        label_is = m.label_is;
        of_layer = eqb-true m.label.layer LABELS layer;
        number_is = refl;
      }

  pub port_label : (l p : ℕ) (m : Marks flat l p) → is_port_label flat.shapes m.label ≡ true
  port_label l p m = settled_true (is_port_label flat.shapes m.label)
      (λ e. alone_kept (IsNoPortLabel flat) (first_kept _ _ kept) (length flat.shapes + l)
      (record { at = label_at l p m; not_so = e }))

  -- a label marks one pin
  pub one_pin : (l p q : ℕ) (m : Marks flat l p) (n : Marks flat l q) → p ≡ q
  one_pin l p q m n =
      let same : m.label ≡ n.label = same_Some m.label n.label (sym m.label_is ∙ n.label_is) in
      let count : count_by (marks m.label) flat.shapes ≡ 1 = eqb-true _ 1
      (and_parts _ _ (and_parts _ _ (port_label l p m)).0).1 in
      count_by-one (marks m.label) flat.shapes p q m.pin n.pin count m.pin_is m.marks_so n.pin_is
      (ap (λ (x : Label). marks x n.pin) same ∙ n.marks_so)

  -- which is a port
  pub port_marked : (l p : ℕ) (m : Marks flat l p) → is_port flat.shapes m.pin ≡ true
  port_marked l p m =
      let port = list_any-place (λ pin. marks m.label pin && is_port flat.shapes pin) flat.shapes
      (and_parts _ _ (port_label l p m)).1 in
      let both = and_parts (marks m.label port.item) (is_port flat.shapes port.item) port.passes_so in
      let here : port.place ≡ p = one_pin l port.place p
      (record { label = m.label; pin = port.item; label_is = m.label_is; pin_is = port.item_is; marks_so = both.0 })
      m in
      let same : port.item ≡ m.pin = same_Some port.item m.pin (sym port.item_is
      ∙ (ap (slice_get flat.shapes) here ∙ m.pin_is)) in
      ap (is_port flat.shapes) (sym same) ∙ both.1

  -- and a pin has one label
  pub one_label : (k l p : ℕ) → Marks flat k p → Marks flat l p → k ≡ l
  one_label k l p m n =
      let same : m.pin ≡ n.pin = same_Some m.pin n.pin (sym m.pin_is ∙ n.pin_is) in
      let count : count_by (λ label. marks label m.pin) flat.labels ≡ 1 =
      settled _ 1 (λ ne. alone_kept (IsUnlabelledPort flat) (first_kept _ _ later_kept) p
      (record { port = record { shape = m.pin; shape_is = m.pin_is; passes_so = port_marked k p m }; not_one = ne })) in
      count_by-one (λ label. marks label m.pin) flat.labels k l m.label n.label count m.label_is m.marks_so n.label_is
      (ap (λ (x : Shape). marks n.label x) same ∙ n.marks_so)

  not_earlier : (letter i p q : ℕ) → (m : IsNamed flat letter i p) (n : IsNamed flat letter i q) → m.place < n.place → ⊥
  not_earlier letter i p q m n lt =
      let first : slice_index m.mark.label.text 0 ≡ letter = ap (λ (t : List ℕ). slice_index t 0) m.numbered.text_is in
      let second : slice_index n.mark.label.text 0 ≡ letter = ap (λ (t : List ℕ). slice_index t 0) n.numbered.text_is in
      let letters : (slice_index m.mark.label.text 0 == slice_index n.mark.label.text 0) ≡ true =
      (let e = first ∙ sym second in grind (arith, nat_tests)) in
      let numbers : (number_of_label m.mark.label == number_of_label n.mark.label) ≡ true =
      (let e = m.numbered.number_is ∙ sym n.numbered.number_is in grind (arith, nat_tests)) in
      let at = label_at n.place q n.mark in
      let earlier = label_at m.place p m.mark in
      alone_kept (IsMisnumbered flat) (second_kept _ _ later_kept) (length flat.shapes + n.place) (record {
        at = at;
        wrong = inr (record {
          earlier = m.place;
          other = m.mark.label;
          before = lt;
          other_is = m.mark.label_is;
          of_layer = earlier.of_layer;
          one_name = and_from _ _ letters numbers;
        });
      })

  -- one pin has this letter and number
  pub one_named : (letter i p q : ℕ) → IsNamed flat letter i p → IsNamed flat letter i q → p ≡ q
  one_named letter i p q m n =
      let same : m.place ≡ n.place = settled m.place n.place (λ ne. elim (cases_lt m.place n.place) [
        | inl lt ↦ not_earlier letter i p q m n lt
        | inr ge ↦ not_earlier letter i q p n m (omega arith)
      ]) in
      one_pin n.place p q (rw same at m.mark) n.mark

  -- and a pin has one number
  pub one_number_of : (letter i j p : ℕ) → IsNamed flat letter i p → IsNamed flat letter j p → i ≡ j
  one_number_of letter i j p m n =
      let same : m.place ≡ n.place = one_label m.place n.place p m.mark n.mark in
      let label : m.mark.label ≡ n.mark.label = same_Some m.mark.label n.mark.label (sym m.mark.label_is
      ∙ ap (λ (l : ℕ). slice_get flat.labels l) same ∙ n.mark.label_is) in
      sym m.numbered.number_is ∙ ap number_of_label label ∙ n.numbered.number_is
