-- The rule of cells is judged: some frame, each frame a cell's, and each pin in one frame.
use Rattle.std.proofs.Common.{◌≡◌, ℕ, ◌<◌, ◌⊎◌, true, List, length, Some, sym, subst, arith, inl, inr, slice_get}
use Rattle.std.proofs.lemmas.Option.{slice_get_within}
use Rattle.geom.specs.declared.shapes.Shape.{Shape}
use Rattle.circuit.specs.declared.cell_kind.CellKind.{CellKind}
use Rattle.circuit.specs.declared.cell_kind.CellKind.TheVariants.{Buffer, Inverter, Zero, One, Split2, Split3, Majority}
use Rattle.circuit.specs.CellKinds.{number_of, inputs_of, outputs_of}
use Rattle.layout_rules.specs.declared.layers.TheConstants.{INPUT_PIN, OUTPUT_PIN}
use Rattle.layout_rules.specs.Layers.{is_frame, is_pin}
use Rattle.layout_rules.specs.Pins.{lies_in, LiesIn, IsPinOf}
use Rattle.layout_rules.specs.Reports.{Alone, Passes}
use Rattle.layout_rules.specs.CircuitRules.{HasPins, IsCell, LiesInOneFrame, HasNoFrame, IsNoCell, IsStrayPin}
use Rattle.layout_rules.specs.CircuitRules.{CellsBroken}
use Rattle.layout_rules.proofs.Deciding.{dec_same, dec_both, dec_either, dec_then, dec_not, dec_true, dec_equal}
use Rattle.layout_rules.proofs.Deciding.{dec_below, dec_some, dec_all, dec_all_those, dec_only, dec_item, dec_each_item}
use Rattle.layout_rules.proofs.Judging.{Judged, judged_alone, judged_pairs, judged_afterwards}
use Rattle.layout_rules.proofs.DecidedShapes.{dec_passes, dec_passes_with, passes_within}

module _ (P : CellKind → Type 0) where
  -- the fact of one of the seven kinds
  abbrev OfOne : Type 0
  OfOne = P Buffer ⊎ (P Inverter ⊎ (P Zero ⊎ (P One ⊎ (P Split2 ⊎ (P Split3 ⊎ P Majority)))))

  pub of_kind : OfOne → (kind : CellKind) × P kind
  of_kind (inl h) = (Buffer, h)
  of_kind (inr (inl h)) = (Inverter, h)
  of_kind (inr (inr (inl h))) = (Zero, h)
  of_kind (inr (inr (inr (inl h)))) = (One, h)
  of_kind (inr (inr (inr (inr (inl h))))) = (Split2, h)
  of_kind (inr (inr (inr (inr (inr (inl h)))))) = (Split3, h)
  of_kind (inr (inr (inr (inr (inr (inr h)))))) = (Majority, h)

  pub of_one : (kind : CellKind) → P kind → OfOne
  of_one Buffer h = inl h
  of_one Inverter h = inr (inl h)
  of_one Zero h = inr (inr (inl h))
  of_one One h = inr (inr (inr (inl h)))
  of_one Split2 h = inr (inr (inr (inr (inl h))))
  of_one Split3 h = inr (inr (inr (inr (inr (inl h)))))
  of_one Majority h = inr (inr (inr (inr (inr (inr h)))))

  abbrev pub dec_some_kind : ((kind : CellKind) → Dec (P kind)) → Dec ((kind : CellKind) × P kind)
  dec_some_kind decided = dec_same of_kind (λ h. of_one h.0 h.1)
      (dec_either (decided Buffer) (dec_either (decided Inverter) (dec_either (decided Zero) (dec_either (decided One)
      (dec_either (decided Split2) (dec_either (decided Split3) (decided Majority)))))))

module _ (shapes : List Shape) where
  abbrev pub dec_lies_in : (p f : ℕ) → Dec (LiesIn shapes p f)
  dec_lies_in p f = dec_same
      (λ h. record { pin = h.0; frame = h.2.0; pin_is = h.1; frame_is = h.2.1; lies_so = h.2.2 })
      (λ l. (l.pin, l.pin_is, (l.frame, l.frame_is, l.lies_so)))
      (dec_item shapes p (λ pin. (frame : Shape) × (slice_get shapes f ≡ Some frame) × (lies_in pin frame ≡ true))
      (λ pin is. dec_item shapes f (λ frame. lies_in pin frame ≡ true) (λ frame there. dec_true (lies_in pin frame))))

  abbrev pub dec_pin_of : (f layer i p : ℕ) → Dec (IsPinOf shapes f layer i p)
  dec_pin_of f layer i p = dec_same
      (λ h. record {
        pin = h.0;
        frame = h.2.0;
        pin_is = h.1;
        frame_is = h.2.1;
        lies_so = h.2.2.0;
        of_layer = h.2.2.1;
        of_number = h.2.2.2;
      })
      (λ l. (l.pin, l.pin_is, (l.frame, l.frame_is, (l.lies_so, l.of_layer, l.of_number))))
      (dec_item shapes p (λ pin. (frame : Shape) × (slice_get shapes f ≡ Some frame)
      × ((lies_in pin frame ≡ true) × (pin.layer ≡ layer) × (pin.datatype ≡ i)))
      (λ pin is. dec_item shapes f (λ frame. (lies_in pin frame ≡ true) × (pin.layer ≡ layer) × (pin.datatype ≡ i))
      (λ frame there. dec_same (λ h. (h.0, h.1.0, h.1.1)) (λ h. (h.0, (h.1, h.2)))
      (dec_both (dec_true (lies_in pin frame)) (dec_both (dec_equal pin.layer layer) (dec_equal pin.datatype i))))))

  pub pin_within : (f layer i p : ℕ) → IsPinOf shapes f layer i p → p < length shapes
  pin_within f layer i p h = slice_get_within shapes p h.pin h.pin_is

  -- a pin has one number, so what is to hold of its numbers is decided at that one
  abbrev pub dec_numbers : (f layer p : ℕ) (Q : ℕ → Type 0) → ((i : ℕ) → Dec (Q i))
      → Dec ((i : ℕ) → IsPinOf shapes f layer i p → Q i)
  dec_numbers f layer p Q decided = dec_same
      (λ each i pin. subst Q pin.of_number
      (each pin.pin pin.pin_is (subst (λ (n : ℕ). IsPinOf shapes f layer n p) (sym pin.of_number) pin)))
      (λ each s is pin. each s.datatype pin)
      (dec_each_item shapes p (λ s. IsPinOf shapes f layer s.datatype p → Q s.datatype)
      (λ s is. dec_then (dec_pin_of f layer s.datatype p) (decided s.datatype)))

  abbrev AreOne : (f layer p q : ℕ) → Type 0
  AreOne f layer p q = (i : ℕ) → IsPinOf shapes f layer i p → IsPinOf shapes f layer i q → p ≡ q

  abbrev pub dec_has_pins : (f layer n : ℕ) → Dec (HasPins shapes f layer n)
  dec_has_pins f layer n = dec_same
      (λ h. record { each = h.0; one = λ i p q. h.1.0 p q i; no_other = λ i p. h.1.1 p i })
      (λ h. (h.each, (λ p q i. h.one i p q, λ p i. h.no_other i p)))
      (dec_both dec_each (dec_both dec_one dec_no_other))
    where
      dec_each : Dec ((i : ℕ) → i < n → (p : ℕ) × IsPinOf shapes f layer i p)
      dec_each = dec_all_those (λ i. i < n) (λ i. (p : ℕ) × IsPinOf shapes f layer i p) n
          (λ i. dec_below i n) (λ i lt. lt)
          (λ i. dec_some (IsPinOf shapes f layer i) (length shapes) (dec_pin_of f layer i) (pin_within f layer i))

      dec_one : Dec ((p q : ℕ) → AreOne f layer p q)
      dec_one = dec_all (λ p. (q : ℕ) → AreOne f layer p q) (length shapes)
          (λ p. dec_all (AreOne f layer p) (length shapes)
          (λ q. dec_numbers f layer p (λ i. IsPinOf shapes f layer i q → p ≡ q)
          (λ i. dec_then (dec_pin_of f layer i q) (dec_equal p q)))
          (λ q le i one other. let lt = pin_within f layer i q other in absurd (omega arith)))
          (λ p le q i one other. let lt = pin_within f layer i p one in absurd (omega arith))

      dec_no_other : Dec ((p i : ℕ) → IsPinOf shapes f layer i p → i < n)
      dec_no_other = dec_all (λ p. (i : ℕ) → IsPinOf shapes f layer i p → i < n) (length shapes)
          (λ p. dec_numbers f layer p (λ i. i < n) (λ i. dec_below i n))
          (λ p le i pin. let lt = pin_within f layer i p pin in absurd (omega arith))

  abbrev pub dec_cell : (f : ℕ) (frame : Shape) → Dec (IsCell shapes f frame)
  dec_cell f frame = dec_same
      (λ h. record { kind = h.0; kind_is = h.1.0; inputs = h.1.1.0; outputs = h.1.1.1 })
      (λ c. (c.kind, (c.kind_is, (c.inputs, c.outputs))))
      (dec_some_kind (λ kind. (frame.datatype ≡ number_of kind)
      × (HasPins shapes f INPUT_PIN (inputs_of kind) × HasPins shapes f OUTPUT_PIN (outputs_of kind)))
      (λ kind. dec_both (dec_equal frame.datatype (number_of kind))
      (dec_both (dec_has_pins f INPUT_PIN (inputs_of kind)) (dec_has_pins f OUTPUT_PIN (outputs_of kind)))))

  abbrev pub dec_no_cell : (f : ℕ) → Dec (IsNoCell shapes f)
  dec_no_cell f = dec_same
      (λ h. record { frame = h.0; not_so = h.1 }) (λ h. (h.frame, h.not_so))
      (dec_passes_with is_frame shapes f (λ frame. IsCell shapes f frame → ⊥) (λ frame. dec_not (dec_cell f frame)))

  abbrev pub dec_one_frame : (p : ℕ) → Dec (LiesInOneFrame shapes p)
  dec_one_frame p = dec_same
      (λ h. record { frame = h.number; lies = h.holds; only = h.only })
      (λ h. record { number = h.frame; holds = h.lies; only = h.only })
      (dec_only (LiesIn shapes p) (length shapes) (dec_lies_in p) (λ f l. slice_get_within shapes f l.frame l.frame_is))

  abbrev pub dec_stray : (p : ℕ) → Dec (IsStrayPin shapes p)
  dec_stray p = dec_same (λ h. record { pin = h.0; not_so = h.1 }) (λ h. (h.pin, h.not_so))
      (dec_both (dec_passes is_pin shapes p) (dec_not (dec_one_frame p)))

  abbrev pub dec_no_frame : (a b : ℕ) → Dec (HasNoFrame shapes a b)
  dec_no_frame a b = dec_same
      (λ h. record { none = λ f p. h.0 (f, p); first_is = h.1.0; second_is = h.1.1 })
      (λ h. (λ p. h.none p.0 p.1, (h.first_is, h.second_is)))
      (dec_both (dec_not (dec_some (Passes is_frame shapes) (length shapes) (dec_passes is_frame shapes)
      (passes_within is_frame shapes)))
      (dec_both (dec_equal a 0) (dec_equal b 0)))

  abbrev IsFault : ℕ → Type 0
  IsFault n = IsNoCell shapes n ⊎ IsStrayPin shapes n

  pub fault_within : (n : ℕ) → IsFault n → n < length shapes
  fault_within n (inl h) = passes_within is_frame shapes n h.frame
  fault_within n (inr h) = passes_within is_pin shapes n h.pin

  abbrev pub cells_judged : Judged (CellsBroken shapes)
  cells_judged = judged_afterwards (HasNoFrame shapes) (Alone IsFault)
      (judged_pairs (HasNoFrame shapes) 1 dec_no_frame
      (λ a b h. (let e = h.first_is in omega arith, let e = h.second_is in omega arith)))
      (judged_alone IsFault (length shapes) (λ n. dec_either (dec_no_cell n) (dec_stray n)) fault_within)
