-- What the rules of cells and labels say of pins where nothing breaks them: which pins there are, and how they are
-- named.
use Rattle.std.proofs.Common.{◌≡◌, ℕ, ◌+◌, ◌^◌, ◌<◌, ◌≤◌, inl, inr, Bool, true, false, ◌&&◌, ◌||◌, List, [], ◌∷◌}
use Rattle.std.proofs.Common.{length, Some, refl, sym, ap, ◌∙◌, arith, eq-eqb}
use Rattle.std.specs.Prelude.{slice_get, slice_index, count_by, ◌==◌, if◌then◌else◌}
use Rattle.std.specs.List.{list_any}
use Rattle.std.proofs.lemmas.Bool.{cases_lt, and_parts, and_from, or_cases, or_left, or_right, both_ways, ne_eqb}
use Rattle.std.proofs.lemmas.Bool.{eqb-true}
use Rattle.std.proofs.lemmas.List.Sums.{count_by-le-length}
use Rattle.circuit.specs.declared.cell_kind.CellKind.{CellKind}
use Rattle.circuit.specs.CellKinds.{number_of, inputs_of, outputs_of}
use Rattle.geom.specs.declared.shapes.Shape.{Shape}
use Rattle.geom.specs.declared.shapes.Label.{Label}
use Rattle.geom.specs.declared.shapes.Flat.{Flat}
use Rattle.layout_rules.specs.declared.layers.TheConstants.{INPUT_PIN, OUTPUT_PIN, LABELS}
use Rattle.layout_rules.specs.Layers.{is_frame, is_pin}
use Rattle.layout_rules.specs.Reports.{ReportsNone}
use Rattle.layout_rules.proofs.PlaceLaws.{list_any-at, list_any-place, count_by-none}
use Rattle.layout_rules.specs.Rows.{row_of}
use Rattle.layout_rules.specs.Pins.{lies_in, LiesIn, IsPinOf, stands_in, is_entry, is_exit, entry_count, exit_count}
use Rattle.layout_rules.specs.Labels.{letter_i, letter_o, marked_layer, marks, Marks, tail, is_decimal, is_numbered}
use Rattle.layout_rules.specs.Labels.{number_of_label}
use Rattle.layout_rules.specs.CircuitRules.{IsCell, CellsBroken, is_port, port_count, IsUnlabelledPort, IsMisnumbered}
use Rattle.layout_rules.specs.CircuitRules.{LabelsBroken}
use Rattle.layout_rules.proofs.ReportLaws.{first_kept, second_kept, alone_kept}
use Rattle.layout_rules.proofs.Deciding.{settled, affirmed, dec_below, dec_some}
use Rattle.layout_rules.proofs.JudgedCells.{dec_pin_of, pin_within}
use Rattle.shape_extract.specs.Extraction.{IsNamed}
use Rattle.shape_extract.proofs.Kept.{no_fault, later_kept, port_label, label_at, port_marked}
use Rattle.shape_extract.proofs.Marked.{one_kind}

-- ---- the pins of a cell

module _ (flat : Flat) (kept : ReportsNone (CellsBroken flat.shapes)) (f : ℕ) (frame : Shape) (kind : CellKind)
    (frame_is : slice_get flat.shapes f ≡ Some frame) (frame_so : is_frame frame ≡ true)
    (kind_is : frame.datatype ≡ number_of kind) where
  is_not : (IsCell flat.shapes f frame → ⊥) → ⊥
  is_not not_so = no_fault flat kept f
      (inl (record { frame = record { shape = frame; shape_is = frame_is; passes_so = frame_so }; not_so = not_so }))

  same_kind : (cell : IsCell flat.shapes f frame) → cell.kind ≡ kind
  same_kind cell = one_kind cell.kind kind (sym cell.kind_is ∙ kind_is)

  -- a pin's number is one of the kind's
  pub input_number : (i p : ℕ) → IsPinOf flat.shapes f INPUT_PIN i p → i < inputs_of kind
  input_number i p is = affirmed (dec_below i (inputs_of kind)) (λ none. is_not (λ cell. none
      (rw (same_kind cell) at (cell.inputs.no_other i p is))))

  pub output_number : (i p : ℕ) → IsPinOf flat.shapes f OUTPUT_PIN i p → i < outputs_of kind
  output_number i p is = affirmed (dec_below i (outputs_of kind)) (λ none. is_not (λ cell. none
      (rw (same_kind cell) at (cell.outputs.no_other i p is))))

  pub one_output : (i p q : ℕ) → IsPinOf flat.shapes f OUTPUT_PIN i p → IsPinOf flat.shapes f OUTPUT_PIN i q → p ≡ q
  one_output i p q a b = settled p q (λ ne. is_not (λ cell. ne (cell.outputs.one i p q a b)))

  some_pin : (layer i : ℕ) → ((((p : ℕ) × IsPinOf flat.shapes f layer i p) → ⊥) → ⊥) → (p : ℕ)
      × IsPinOf flat.shapes f layer i p
  some_pin layer i = affirmed (dec_some (IsPinOf flat.shapes f layer i) (length flat.shapes)
      (dec_pin_of flat.shapes f layer i) (pin_within flat.shapes f layer i))

  -- and each number of the kind has its pin
  pub some_input : (i : ℕ) → i < inputs_of kind → (p : ℕ) × IsPinOf flat.shapes f INPUT_PIN i p
  some_input i lt = some_pin INPUT_PIN i
      (λ none. is_not (λ cell. none
      (cell.inputs.each i (rw (same_kind cell) lt))))

  pub some_output : (i : ℕ) → i < outputs_of kind → (p : ℕ) × IsPinOf flat.shapes f OUTPUT_PIN i p
  some_output i lt = some_pin OUTPUT_PIN i
      (λ none. is_not (λ cell. none
      (cell.outputs.each i (rw (same_kind cell) lt))))

-- ---- labels and ports

text_of : (text : List ℕ) (letter : ℕ) → slice_index text 0 ≡ letter → 0 < letter → text ≡ letter ∷ tail text
text_of [] letter e lt = absurd (let z : 0 ≡ letter = e in omega arith)
text_of (x ∷ xs) letter e lt = ap (λ (y : ℕ). y ∷ xs) e

module _ (flat : Flat) (kept : ReportsNone (LabelsBroken flat)) where
  numbered_so : (l p : ℕ) (m : Marks flat l p) → is_numbered m.label ≡ true
  numbered_so l p m = (and_parts _ _ (and_parts _ _ (port_label flat kept l p m)).0).0

  layer_marked : (l p : ℕ) (m : Marks flat l p) → m.pin.layer ≡ marked_layer m.label
  layer_marked l p m = eqb-true m.pin.layer (marked_layer m.label)
      (and_parts (m.label.layer == LABELS) _ (and_parts (m.label.layer == LABELS && _) _ m.marks_so).0).1

  is_pin_marked : (l p : ℕ) (m : Marks flat l p) → is_pin m.pin ≡ true
  is_pin_marked l p m = elim (or_cases (is_entry flat.shapes m.pin) (is_exit flat.shapes m.pin)
      (port_marked flat kept l p m)) [
        | inl entry ↦ or_left (m.pin.layer == INPUT_PIN) (m.pin.layer == OUTPUT_PIN)
            (and_parts (m.pin.layer == INPUT_PIN) _ entry).0
        | inr exit ↦ or_right (m.pin.layer == INPUT_PIN) (m.pin.layer == OUTPUT_PIN)
            (and_parts (m.pin.layer == OUTPUT_PIN) _ exit).0
      ]

  layer_by : (label : Label) (b : Bool) → (slice_index label.text 0 == letter_i) ≡ b
      → marked_layer label ≡ (if b then INPUT_PIN else OUTPUT_PIN)
  layer_by label b e = ap (λ (x : Bool). (if x then INPUT_PIN else OUTPUT_PIN)) e

  pub decimal_marked : (l p : ℕ) (m : Marks flat l p) → is_decimal (tail m.label.text) ≡ true
  decimal_marked l p m = (and_parts (slice_index m.label.text 0 == letter_i || slice_index m.label.text 0 == letter_o)
      (is_decimal (tail m.label.text)) (numbered_so l p m)).1

  -- a marked input pin is named by an I, and an output pin by an O
  pub input_named : (l p : ℕ) (m : Marks flat l p) → m.pin.layer ≡ INPUT_PIN
      → IsNamed flat letter_i (number_of_label m.label) p
  input_named l p m on = by_letter (slice_index m.label.text 0 == letter_i) refl
    where
      by_letter : (b : Bool) → (slice_index m.label.text 0 == letter_i) ≡ b
          → IsNamed flat letter_i (number_of_label m.label) p
      by_letter true e = record {
        place = l;
        mark = m;
        numbered =
            record {
              text_is = text_of m.label.text letter_i (eqb-true (slice_index m.label.text 0) letter_i e) (omega arith);
              decimal_so = decimal_marked l p m;
              number_is = refl;
            };
      }
      by_letter false e = absurd (let h : INPUT_PIN ≡ OUTPUT_PIN = sym on
          ∙ (layer_marked l p m ∙ layer_by m.label false e) in omega arith)

  pub output_named : (l p : ℕ) (m : Marks flat l p) → m.pin.layer ≡ OUTPUT_PIN
      → IsNamed flat letter_o (number_of_label m.label) p
  output_named l p m on = by_letter (slice_index m.label.text 0 == letter_i) refl
    where
      by_letter : (b : Bool) → (slice_index m.label.text 0 == letter_i) ≡ b
          → IsNamed flat letter_o (number_of_label m.label) p
      by_letter true e = absurd (let h : OUTPUT_PIN ≡ INPUT_PIN = sym on
          ∙ (layer_marked l p m ∙ layer_by m.label true e) in omega arith)
      by_letter false e = elim (or_cases (slice_index m.label.text 0 == letter_i)
          (slice_index m.label.text 0 == letter_o)
          (and_parts (slice_index m.label.text 0 == letter_i || slice_index m.label.text 0 == letter_o)
          (is_decimal (tail m.label.text)) (numbered_so l p m)).0) [
            | inl same ↦ absurd (both_ways (slice_index m.label.text 0 == letter_i) e same)
            | inr o ↦ record {
              place = l;
              mark = m;
              numbered =
                  record {
                    text_is = text_of m.label.text letter_o (eqb-true (slice_index m.label.text 0) letter_o o)
                        (omega arith);
                    decimal_so = decimal_marked l p m;
                    number_is = refl;
                  };
            }
          ]

  first_letter : (letter n p : ℕ) (named : IsNamed flat letter n p) → slice_index named.mark.label.text 0 ≡ letter
  first_letter letter n p named = ap (λ (t : List ℕ). slice_index t 0) named.numbered.text_is

  -- and the other way round
  pub named_input : (n p : ℕ) (named : IsNamed flat letter_i n p) → named.mark.pin.layer ≡ INPUT_PIN
  named_input n p named = layer_marked named.place p named.mark
      ∙ layer_by named.mark.label true
      (eq-eqb (slice_index named.mark.label.text 0) letter_i (first_letter letter_i n p named))

  pub named_output : (n p : ℕ) (named : IsNamed flat letter_o n p) → named.mark.pin.layer ≡ OUTPUT_PIN
  named_output n p named = layer_marked named.place p named.mark
      ∙ layer_by named.mark.label false
      (ne_eqb (slice_index named.mark.label.text 0) letter_i
      (λ e. (let f : letter_o ≡ letter_i = sym (first_letter letter_o n p named) ∙ e in omega arith)))

  -- the numbers are below how many ports there are
  below_count : (letter n p : ℕ) (named : IsNamed flat letter n p) → n < port_count flat.shapes named.mark.label
  below_count letter n p named = elim (cases_lt n (port_count flat.shapes named.mark.label)) [
    | inl lt ↦ lt
    | inr ge ↦ absurd (alone_kept (IsMisnumbered flat) (second_kept _ _ (later_kept flat kept))
        (length flat.shapes + named.place) (record {
          at = label_at flat kept named.place p named.mark;
          wrong = inl (let e : number_of_label named.mark.label ≡ n = named.numbered.number_is in omega arith);
        }))
  ]

  pub entry_number : (n p : ℕ) → IsNamed flat letter_i n p → n < entry_count flat.shapes
  entry_number n p named =
      let e : port_count flat.shapes named.mark.label ≡ entry_count flat.shapes =
      ap (λ (b : Bool). (if b then entry_count flat.shapes else exit_count flat.shapes))
      (eq-eqb (slice_index named.mark.label.text 0) letter_i (first_letter letter_i n p named)) in
      rw e at (below_count letter_i n p named)

  pub exit_number : (n p : ℕ) → IsNamed flat letter_o n p → n < exit_count flat.shapes
  exit_number n p named =
      let e : port_count flat.shapes named.mark.label ≡ exit_count flat.shapes =
      ap (λ (b : Bool). (if b then entry_count flat.shapes else exit_count flat.shapes))
      (ne_eqb (slice_index named.mark.label.text 0) letter_i
      (λ e. (let f : letter_o ≡ letter_i = sym (first_letter letter_o n p named) ∙ e in omega arith))) in
      rw e at (below_count letter_o n p named)

  -- so a label's number is small where the shapes are few
  pub label_bound : (l p : ℕ) (m : Marks flat l p) → length flat.shapes < 2 ^ 32 → number_of_label m.label < 2 ^ 32
  label_bound l p m few =
      let entries : entry_count flat.shapes ≤ length flat.shapes = count_by-le-length
      (is_entry flat.shapes) flat.shapes in
      let exits : exit_count flat.shapes ≤ length flat.shapes = count_by-le-length (is_exit flat.shapes) flat.shapes in
      elim (or_cases (m.pin.layer == INPUT_PIN) (m.pin.layer == OUTPUT_PIN) (is_pin_marked l p m)) [
        | inl input ↦ (let lt : number_of_label m.label < entry_count flat.shapes = entry_number
            (number_of_label m.label) p (input_named l p m (eqb-true m.pin.layer INPUT_PIN input)) in omega arith)
        | inr output ↦ (let lt : number_of_label m.label < exit_count flat.shapes = exit_number
            (number_of_label m.label) p (output_named l p m (eqb-true m.pin.layer OUTPUT_PIN output)) in omega arith)
      ]

  -- a named input pin stands in the lowest row, and a named output pin in the last
  pub entry_named : (n p : ℕ) (named : IsNamed flat letter_i n p) → is_entry flat.shapes named.mark.pin ≡ true
  entry_named n p named = elim (or_cases (is_entry flat.shapes named.mark.pin) (is_exit flat.shapes named.mark.pin)
      (port_marked flat kept named.place p named.mark)) [
        | inl entry ↦ entry
        | inr exit ↦ absurd (let e : named.mark.pin.layer ≡ OUTPUT_PIN = eqb-true named.mark.pin.layer OUTPUT_PIN
            (and_parts (named.mark.pin.layer == OUTPUT_PIN) _ exit).0 in let f : named.mark.pin.layer ≡ INPUT_PIN =
            named_input n p named in omega arith)
      ]

  pub exit_named : (n p : ℕ) (named : IsNamed flat letter_o n p) → is_exit flat.shapes named.mark.pin ≡ true
  exit_named n p named = elim (or_cases (is_entry flat.shapes named.mark.pin) (is_exit flat.shapes named.mark.pin)
      (port_marked flat kept named.place p named.mark)) [
        | inl entry ↦ absurd (let e : named.mark.pin.layer ≡ INPUT_PIN = eqb-true named.mark.pin.layer INPUT_PIN
            (and_parts (named.mark.pin.layer == INPUT_PIN) _ entry).0 in let f : named.mark.pin.layer ≡ OUTPUT_PIN =
            named_output n p named in omega arith)
        | inr exit ↦ exit
      ]

  -- each port has a label
  pub label_of_port : (p : ℕ) (pin : Shape) → slice_get flat.shapes p ≡ Some pin → is_port flat.shapes pin ≡ true
      → (l : ℕ) × (m : Marks flat l p) × (m.pin ≡ pin)
  label_of_port p pin is port = by_test (list_any (λ label. marks label pin) flat.labels) refl
    where
      count : count_by (λ label. marks label pin) flat.labels ≡ 1
      count = settled _ 1 (λ ne. alone_kept (IsUnlabelledPort flat) (first_kept _ _ (later_kept flat kept)) p
          (record { port = record { shape = pin; shape_is = is; passes_so = port }; not_one = ne }))

      by_test : (b : Bool) → list_any (λ label. marks label pin) flat.labels ≡ b → (l : ℕ)
          × (m : Marks flat l p) × (m.pin ≡ pin)
      by_test true e =
          let at = list_any-place (λ label. marks label pin) flat.labels e in (
            at.place,
            record {
              label = at.item;
              pin = pin;
              label_is = at.item_is;
              pin_is = is;
              marks_so = at.passes_so;
            },
            refl,
          )
      by_test false e = absurd (
          let none : count_by (λ label. marks label pin) flat.labels ≡ 0 = count_by-none
          (λ label. marks label pin) flat.labels
          (λ n x q t. both_ways (list_any (λ label. marks label pin) flat.labels) e
          (list_any-at (λ label. marks label pin) flat.labels n x q t)) in
          let one : count_by (λ label. marks label pin) flat.labels ≡ 1 = count in
          omega arith
          )

-- a pin that stands in a row lies in a frame of the row
pub frame_in_row : (shapes : List Shape) (row p : ℕ) (pin : Shape) → slice_get shapes p ≡ Some pin
    → stands_in shapes row pin ≡ true → (f : ℕ) × (lies : LiesIn shapes p f) × (row_of shapes lies.frame.rect.y0 ≡ row)
frame_in_row shapes row p pin is stands =
    let at = list_any-place (λ frame. lies_in pin frame && row_of shapes frame.rect.y0 == row) shapes stands in
    let both = and_parts (lies_in pin at.item) (row_of shapes at.item.rect.y0 == row) at.passes_so in (
      at.place,
      record { pin = pin; frame = at.item; pin_is = is; frame_is = at.item_is; lies_so = both.0 },
      eqb-true
          (row_of shapes at.item.rect.y0) row both.1,
    )

pub row_stands : (shapes : List Shape) (row p f : ℕ) (lies : LiesIn shapes p f) → row_of shapes lies.frame.rect.y0 ≡ row
    → stands_in shapes row lies.pin ≡ true
row_stands shapes row p f lies e = list_any-at (λ frame. lies_in lies.pin frame && row_of shapes frame.rect.y0 == row)
    shapes f lies.frame lies.frame_is
    (and_from (lies_in lies.pin lies.frame) (row_of shapes lies.frame.rect.y0 == row) lies.lies_so
    (eq-eqb (row_of shapes lies.frame.rect.y0) row e))
