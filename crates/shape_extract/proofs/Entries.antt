-- Each number below how many ports of a side there are names one of these ports.
use Rattle.std.proofs.Common.{◌≡◌, ℕ, suc, ◌<◌, inl, inr, Bool, true, false, List, [], ◌∷◌, Some, refl, sym, ap}
use Rattle.std.proofs.Common.{◌∙◌}
use Rattle.std.specs.Prelude.{slice_get, ◌==◌}
use Rattle.std.specs.List.{list_any}
use Rattle.std.proofs.lemmas.Bool.{and_parts, or_cases, or_left, or_right, both_ways, eqb-true}
use Rattle.geom.specs.declared.shapes.Shape.{Shape}
use Rattle.geom.specs.declared.shapes.Label.{Label}
use Rattle.geom.specs.declared.shapes.Flat.{Flat}
use Rattle.layout_rules.specs.declared.layers.TheConstants.{INPUT_PIN, OUTPUT_PIN}
use Rattle.layout_rules.specs.Reports.{ReportsNone}
use Rattle.layout_rules.proofs.PlaceLaws.{list_any-at}
use Rattle.layout_rules.specs.Pins.{stands_in, is_entry, is_exit, entry_count, exit_count}
use Rattle.layout_rules.specs.Labels.{letter_i, letter_o, marks, Marks, number_of_label}
use Rattle.layout_rules.specs.CircuitRules.{LabelsBroken, is_port}
use Rattle.shape_extract.specs.Extraction.{IsNamed}
use Rattle.shape_extract.proofs.Kept.{one_named}
use Rattle.shape_extract.proofs.KeptPins.{input_named, output_named, entry_number, exit_number, label_of_port}
use Rattle.shape_extract.proofs.Taken.{taken}

-- the number of the first label that marks the pin
abbrev first_number : List Label → Shape → ℕ
first_number [] pin = 0
first_number (label ∷ labels) pin =
    elim (marks label pin) [ true ↦ number_of_label label | false ↦ first_number labels pin ]

record FirstLabel (labels : List Label) (pin : Shape) : Type 0 where
  pub place : ℕ
  pub label : Label
  pub label_is : slice_get labels place ≡ Some label
  pub marks_so : marks label pin ≡ true
  pub number_is : first_number labels pin ≡ number_of_label label

first_label : (labels : List Label) (pin : Shape)
    → list_any (λ label. marks label pin) labels ≡ true → FirstLabel labels pin
first_label [] pin h = absurd (both_ways (list_any (λ label. marks label pin) []) refl h)
first_label (label ∷ labels) pin h = by_test (λ k. first_label labels pin k) (marks label pin) refl
  where
    by_test : (list_any (λ label. marks label pin) labels ≡ true → FirstLabel labels pin) → (b : Bool)
        → marks label pin ≡ b → FirstLabel (label ∷ labels) pin
    by_test less true e = record {
      place = 0;
      label = label;
      label_is = refl;
      marks_so = e;
      number_is = rw (e, first_number) refl;
    }
    by_test less false e = elim (or_cases (marks label pin) (list_any (λ label. marks label pin) labels) h) [
      | inl here ↦ absurd (both_ways (marks label pin) e here)
      | inr later ↦ (let rest =
          less later in record {
            place = suc rest.place;
            label = rest.label;
            label_is = rest.label_is;
            marks_so = rest.marks_so;
            number_is = rw (e, first_number) rest.number_is;
          })
    ]

module _ (flat : Flat) (kept : ReportsNone (LabelsBroken flat)) where
  marked : (p : ℕ) (pin : Shape) → slice_get flat.shapes p ≡ Some pin
      → list_any (λ label. marks label pin) flat.labels ≡ true → (l : ℕ) × (m : Marks flat l p) × (m.pin ≡ pin)
      × (number_of_label m.label ≡ first_number flat.labels pin)
  marked p pin is any =
      let first = first_label flat.labels pin any in (
        first.place,
        record {
          label = first.label;
          pin = pin;
          label_is = first.label_is;
          pin_is = is;
          marks_so = first.marks_so;
        },
        refl,
        sym first.number_is,
      )

  is_marked : (p : ℕ) (pin : Shape) → slice_get flat.shapes p ≡ Some pin → is_port flat.shapes pin ≡ true
      → list_any (λ label. marks label pin) flat.labels ≡ true
  is_marked p pin is port =
      let label = label_of_port flat kept p pin is port in
      list_any-at (λ label. marks label pin) flat.labels label.0 label.1.label label.1.label_is
      (ap (marks label.1.label) (sym label.2) ∙ label.1.marks_so)

  entry_name : (p : ℕ) (pin : Shape) → slice_get flat.shapes p ≡ Some pin → is_entry flat.shapes pin ≡ true
      → IsNamed flat letter_i (first_number flat.labels pin) p
  entry_name p pin is entry =
      let m = marked p pin is (is_marked p pin is (or_left _ _ entry)) in
      rw m.3 at (input_named flat kept m.0 p m.1 (ap (λ (s : Shape). s.layer) m.2
      ∙ eqb-true pin.layer INPUT_PIN (and_parts (pin.layer == INPUT_PIN) (stands_in flat.shapes 0 pin) entry).0))

  exit_name : (p : ℕ) (pin : Shape) → slice_get flat.shapes p ≡ Some pin → is_exit flat.shapes pin ≡ true
      → IsNamed flat letter_o (first_number flat.labels pin) p
  exit_name p pin is exit =
      let m = marked p pin is (is_marked p pin is (or_right _ _ exit)) in
      rw m.3 at (output_named flat kept m.0 p m.1 (ap (λ (s : Shape). s.layer) m.2
      ∙ eqb-true pin.layer OUTPUT_PIN (and_parts (pin.layer == OUTPUT_PIN) _ exit).0))

  pub named_entry : (n : ℕ) → n < entry_count flat.shapes → (p : ℕ) × IsNamed flat letter_i n p
  named_entry n lt =
      let has = taken (is_entry flat.shapes) (first_number flat.labels) flat.shapes n
      (λ i j x y p t q u e. one_named flat kept letter_i (first_number flat.labels y) i j
      (rw e at (entry_name i x p t)) (entry_name j y q u))
      (λ i x p t. entry_number flat kept (first_number flat.labels x) i (entry_name i x p t))
      lt in (
        has.place,
        rw has.number_is at (entry_name has.place has.item has.item_is has.passes_so),
      )

  pub named_exit : (n : ℕ) → n < exit_count flat.shapes → (p : ℕ) × IsNamed flat letter_o n p
  named_exit n lt =
      let has = taken (is_exit flat.shapes) (first_number flat.labels) flat.shapes n
      (λ i j x y p t q u e. one_named flat kept letter_o (first_number flat.labels y) i j
      (rw e at (exit_name i x p t)) (exit_name j y q u))
      (λ i x p t. exit_number flat kept (first_number flat.labels x) i (exit_name i x p t))
      lt in (
        has.place,
        rw has.number_is at (exit_name has.place has.item has.item_is has.passes_so),
      )
