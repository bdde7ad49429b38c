-- A wire leaves the row that the table of sources has for its net.
use Rattle.std.proofs.Common.{◌≡◌, ℕ, ◌<◌, Bool, true, false, ◌&&◌, inl, inr, List, length, Option, Some, None, refl}
use Rattle.std.proofs.Common.{sym, ap, subst, ◌∙◌, arith, eq-eqb}
use Rattle.std.specs.Prelude.{slice_get, slice_index, not, ◌==◌, if◌then◌else◌, map, filter, count_by}
use Rattle.std.proofs.lemmas.Bool.{both_ways, and_parts, and_from, false_from_ne_true, eqb-true}
use Rattle.std.proofs.lemmas.List.Sums.{length-filter}
use Rattle.std.proofs.lemmas.Option.{same_Some, slice_get_within}
use Rattle.shape_extract.proofs.NetDrivers.{net_below}
use Rattle.geom.specs.declared.shapes.Shape.{Shape}
use Rattle.geom.specs.declared.shapes.Flat.{Flat}
use Rattle.layout_rules.specs.declared.layers.TheConstants.{INPUT_PIN, OUTPUT_PIN}
use Rattle.layout_rules.specs.Layers.{is_pin}
use Rattle.layout_rules.specs.Labels.{is_labelled}
use Rattle.layout_rules.specs.Pins.{lies_in, LiesIn, stands_in}
use Rattle.layout_rules.specs.Rows.{row_of}
use Rattle.layout_rules.specs.Reports.{Passes}
use Rattle.layout_rules.specs.CircuitRules.{IsInput, IsSource}
use Rattle.layout_rules.proofs.NetLaws.{one_net, one_number}
use Rattle.layout_rules.proofs.PlaceLaws.{PassesAt, list_any-at, list_any-place}
use Rattle.layout_rules.proofs.Places.{zip_at as zip_put}
use Rattle.circuit_extracted.specs.Circuits.{CircuitView}
use Rattle.shape_extract.specs.Extraction.{is_wired}
use Rattle.shape_extract.specs.Code.PinRows.{IsRowOf}
use Rattle.text_report.specs.Wires.{wires, wires_from, feeds, leaves, longest_of, greatest, wire_length}
use Rattle.text_report.specs.Wires.{shapes_in_nets}
use Rattle.text_report.specs.Code.Sources.{AreInOrder, AreSourceRows, HasSource, flat_row, is_row, is_some_row}
use Rattle.text_report.specs.Code.Sources.{row_left}
use Rattle.text_report.specs.Code.Tables.{AreCounts, AreGreatest, AreNetLengths, HasEntries}
use Rattle.text_report.proofs.Chosen.{AgreeOn, filter_same, map_same, filter_twice}
use Rattle.text_report.proofs.Keyed.{of_row}
use Rattle.text_report.proofs.PinRows.{pin_so, frame_of, row_is}
use Rattle.text_report.proofs.SourceRows.{one_output}
use Rattle.text_report.proofs.Zipped.{zip_at}

-- a row that is left stands in the table
pub left_from : (rows : List (Option ℕ)) (wire : Shape × ℕ) (q : ℕ) → row_left rows wire ≡ Some q
    → slice_get rows wire.1 ≡ Some (Some q)
left_from rows wire q e = by_test (wire.0.layer == INPUT_PIN) (slice_get rows wire.1) e
  where
    by_test : (b : Bool) (o : Option (Option ℕ)) → (if b then flat_row o else None) ≡ Some q → o ≡ Some (Some q)
    by_test true None h = absurd cc
    by_test true (Some r) h = ap (λ (x : Option ℕ). Some x) h
    by_test false o h = absurd cc

no_such_row : (q : ℕ) → ◌≡◌ {A = Option (Option ℕ)} None (Some (Some q)) → ⊥
no_such_row q e = absurd cc

some_no_row : (q : ℕ) → ◌≡◌ {A = Option (Option ℕ)} (Some None) (Some (Some q)) → ⊥
some_no_row q e = absurd cc

module _ (flat : Flat) (circuit : CircuitView) (order : AreInOrder flat circuit.nets) (n : ℕ) (wire : Shape × ℕ)
    (is : slice_get (shapes_in_nets flat circuit) n ≡ Some wire) where
  pin_is : slice_get flat.shapes n ≡ Some wire.0
  pin_is = (zip_at flat.shapes circuit.nets n wire is).0

  net_is : slice_index circuit.nets n ≡ wire.1
  net_is = (zip_at flat.shapes circuit.nets n wire is).1

  within : n < length flat.shapes
  within = slice_get_within flat.shapes n wire.0 pin_is

  input : (labelled : Bool) → wire.0.layer ≡ INPUT_PIN → is_labelled flat wire.0 ≡ labelled → IsInput flat labelled n
  input labelled on e = record { pin = wire.0; pin_is = pin_is; of_layer = on; labelled_so = e }

  module _ (q : ℕ) (source : HasSource flat.shapes circuit.nets wire.1 q) where
    source_within : source.number < length flat.shapes
    source_within = slice_get_within flat.shapes source.number source.pin source.pin_is

    is_source : IsSource flat.shapes n source.number
    is_source = record {
      pin = source.pin;
      pin_is = source.pin_is;
      of_layer = source.of_layer;
      joined = one_net flat.shapes circuit.nets order.are_nets n source.number within source_within
          (net_is ∙ sym source.net_is);
    }

    unlabelled : wire.0.layer ≡ INPUT_PIN → (b : Bool) → is_labelled flat wire.0 ≡ b → b ≡ false
    unlabelled on false e = refl
    unlabelled on true e = absurd (order.driven n source.number (inr (
      λ b rival. order.driven n b (inl rival),
      inr (
        λ b alone. alone.0.none source.number is_source,
        record { input = input true on e; source = is_source },
      ),
    )))

    stands_q : stands_in flat.shapes q source.pin ≡ true
    stands_q =
        let lies : LiesIn flat.shapes source.number source.stands.frame = source.stands.lies in
        let same : lies.pin ≡ source.pin = same_Some lies.pin source.pin (sym lies.pin_is ∙ source.pin_is) in
        list_any-at (λ frame. lies_in source.pin frame && row_of flat.shapes frame.rect.y0 == q) flat.shapes
        source.stands.frame lies.frame lies.frame_is
        (and_from (lies_in source.pin lies.frame) (row_of flat.shapes lies.frame.rect.y0 == q)
        (subst (λ (s : Shape). lies_in s lies.frame ≡ true) same lies.lies_so)
        (eq-eqb (row_of flat.shapes lies.frame.rect.y0) q source.stands.row_is))

    pub leaves_q : leaves flat circuit q wire ≡ true
    leaves_q =
        list_any-at (feeds flat q wire.1) (shapes_in_nets flat circuit) source.number
        (source.pin, slice_index circuit.nets source.number)
        (zip_put flat.shapes circuit.nets source.number source.pin order.are_nets.long source.pin_is)
        (and_from (source.pin.layer == OUTPUT_PIN && slice_index circuit.nets source.number == wire.1)
        (stands_in flat.shapes q source.pin)
        (and_from (source.pin.layer == OUTPUT_PIN) (slice_index circuit.nets source.number == wire.1)
        (eq-eqb source.pin.layer OUTPUT_PIN source.of_layer)
        (eq-eqb (slice_index circuit.nets source.number) wire.1 source.net_is))
        stands_q)

    -- and it leaves no other row
    pub leaves_one : (row : ℕ) → leaves flat circuit row wire ≡ true → row ≡ q
    leaves_one row e =
        let at : PassesAt (feeds flat row wire.1) (shapes_in_nets flat circuit) =
        list_any-place (feeds flat row wire.1) (shapes_in_nets flat circuit) e in
        let there : (slice_get flat.shapes at.place ≡ Some at.item.0)
        × (slice_index circuit.nets at.place ≡ at.item.1) =
        zip_at flat.shapes circuit.nets at.place at.item at.item_is in
        let parts : (at.item.0.layer == OUTPUT_PIN && at.item.1 == wire.1 ≡ true)
        × (stands_in flat.shapes row at.item.0 ≡ true) =
        and_parts (at.item.0.layer == OUTPUT_PIN && at.item.1 == wire.1) (stands_in flat.shapes row at.item.0)
        at.passes_so in
        let first : ((at.item.0.layer == OUTPUT_PIN) ≡ true) × ((at.item.1 == wire.1) ≡ true) =
        and_parts (at.item.0.layer == OUTPUT_PIN) (at.item.1 == wire.1) parts.0 in
        let layer : at.item.0.layer ≡ OUTPUT_PIN = eqb-true at.item.0.layer OUTPUT_PIN first.0 in
        let net : at.item.1 ≡ wire.1 = eqb-true at.item.1 wire.1 first.1 in
        let one : at.place ≡ source.number =
        one_output flat circuit.nets order at.place source.number at.item.0 source.pin there.0 source.pin_is layer
        source.of_layer (there.1 ∙ (net ∙ sym source.net_is)) in
        let frame : PassesAt (λ frame. lies_in at.item.0 frame && row_of flat.shapes frame.rect.y0 == row) flat.shapes =
        list_any-place (λ frame. lies_in at.item.0 frame && row_of flat.shapes frame.rect.y0 == row) flat.shapes
        parts.1 in
        let both : (lies_in at.item.0 frame.item ≡ true) × ((row_of flat.shapes frame.item.rect.y0 == row) ≡ true) =
        and_parts (lies_in at.item.0 frame.item) (row_of flat.shapes frame.item.rect.y0 == row) frame.passes_so in
        let lies : LiesIn flat.shapes at.place frame.place = record {
          pin = at.item.0;
          frame = frame.item;
          pin_is = there.0;
          frame_is = frame.item_is;
          lies_so = both.0;
        } in
        let pin : Passes is_pin flat.shapes at.place =
        record { shape = at.item.0; shape_is = there.0; passes_so = pin_so at.item.0 layer } in
        let q_is : row_of flat.shapes frame.item.rect.y0 ≡ q =
        row_is flat.shapes order.cells at.place pin q frame.place
        (subst (λ (k : ℕ). IsRowOf flat.shapes k q) (sym one) source.stands) lies in
        sym (eqb-true (row_of flat.shapes frame.item.rect.y0) row both.1) ∙ q_is

    leaves_is : (row : ℕ) (b : Bool) → (q == row) ≡ b → leaves flat circuit row wire ≡ b
    leaves_is row true e = subst (λ (r : ℕ). leaves flat circuit r wire ≡ true) (eqb-true q row e) leaves_q
    leaves_is row false e =
        false_from_ne_true (leaves flat circuit row wire)
        (λ h. both_ways (q == row) e (eq-eqb q row (sym (leaves_one row h))))

module _ (flat : Flat) (circuit : CircuitView) (order : AreInOrder flat circuit.nets) (rows : List (Option ℕ))
    (sources : AreSourceRows flat.shapes circuit.nets rows) (n : ℕ) (wire : Shape × ℕ)
    (is : slice_get (shapes_in_nets flat circuit) n ≡ Some wire) where
  -- a source in the net has a row in the table
  no_source : ((q : ℕ) → slice_get rows wire.1 ≡ Some (Some q) → ⊥) → (b : ℕ) → IsSource flat.shapes n b → ⊥
  no_source none b source =
      let pin : Passes is_pin flat.shapes b =
      record { shape = source.pin; shape_is = source.pin_is; passes_so = pin_so source.pin source.of_layer } in
      let lies : (f : ℕ) × LiesIn flat.shapes b f = frame_of flat.shapes order.cells b pin in
      let row : ℕ = row_of flat.shapes lies.1.frame.rect.y0 in
      let stands : IsRowOf flat.shapes b row = record { frame = lies.0; lies = lies.1; row_is = refl } in
      let same : slice_index circuit.nets n ≡ slice_index circuit.nets b =
      one_number flat.shapes circuit.nets order.are_nets n b (within flat circuit order n wire is) source.joined in
      none row (subst (λ (net : ℕ). slice_get rows net ≡ Some (Some row))
      (sym same ∙ net_is flat circuit order n wire is)
      (sources.each b source.pin row source.pin_is source.of_layer stands))

  -- so without one the pin is labelled
  labelled_alone : wire.0.layer ≡ INPUT_PIN → ((q : ℕ) → slice_get rows wire.1 ≡ Some (Some q) → ⊥)
      → (b : Bool) → is_labelled flat wire.0 ≡ b → b ≡ true
  labelled_alone on none true e = refl
  labelled_alone on none false e = absurd (order.driven n n (inr (
    λ b rival. order.driven n b (inl rival),
    inl (record { input = input flat circuit order n wire is false on e; none = no_source none }, refl),
  )))

  -- whether the shape is the input pin of a wire, and of one that leaves the row, as the table says it
  wired_as : (b : Bool) → (wire.0.layer == INPUT_PIN) ≡ b → (o : Option (Option ℕ)) → slice_get rows wire.1 ≡ o
      → is_wired flat wire.0 ≡ is_some_row (if b then flat_row o else None)
  wired_as false e o at = ap (λ (v : Bool). v && not (is_labelled flat wire.0)) e
  wired_as true e None at =
      ap (λ (v : Bool). v && not (is_labelled flat wire.0)) e
      ∙ ap not (labelled_alone (eqb-true wire.0.layer INPUT_PIN e) (λ q h. no_such_row q (sym at ∙ h))
      (is_labelled flat wire.0) refl)
  wired_as true e (Some None) at =
      ap (λ (v : Bool). v && not (is_labelled flat wire.0)) e
      ∙ ap not (labelled_alone (eqb-true wire.0.layer INPUT_PIN e) (λ q h. some_no_row q (sym at ∙ h))
      (is_labelled flat wire.0) refl)
  wired_as true e (Some (Some q)) at =
      ap (λ (v : Bool). v && not (is_labelled flat wire.0)) e
      ∙ ap not (unlabelled flat circuit order n wire is q (sources.only wire.1 q at)
      (eqb-true wire.0.layer INPUT_PIN e) (is_labelled flat
      wire.0) refl)

  leaves_as : (row : ℕ) (b : Bool) → (wire.0.layer == INPUT_PIN) ≡ b → (o : Option (Option ℕ))
      → slice_get rows wire.1 ≡ o → (is_wired flat wire.0 && leaves flat circuit row wire)
      ≡ is_row row (if b then flat_row o else None)
  leaves_as row false e o at =
      ap (λ (v : Bool). v && leaves flat circuit row wire) (wired_as false e o at)
  leaves_as row true e None at = ap (λ (v : Bool). v && leaves flat circuit row wire) (wired_as true e None at)
  leaves_as row true e (Some None) at =
      ap (λ (v : Bool). v && leaves flat circuit row wire) (wired_as true e (Some None) at)
  leaves_as row true e (Some (Some q)) at =
      ap (λ (v : Bool). v && leaves flat circuit row wire) (wired_as true e (Some (Some q)) at)
      ∙ leaves_is flat circuit order n wire is q (sources.only wire.1 q at) row (q == row) refl

  pub wired_is : is_wired flat wire.0 ≡ is_some_row (row_left rows wire)
  wired_is = wired_as (wire.0.layer == INPUT_PIN) refl (slice_get rows wire.1) refl

  pub leaving_is : (row : ℕ) → (is_wired flat wire.0 && leaves flat circuit row wire) ≡ of_row (row_left rows) row wire
  leaving_is row = leaves_as row (wire.0.layer == INPUT_PIN) refl (slice_get rows wire.1) refl

-- ---- over all shapes

module _ (flat : Flat) (circuit : CircuitView) (order : AreInOrder flat circuit.nets) (rows : List (Option ℕ))
    (sources : AreSourceRows flat.shapes circuit.nets rows) where
  pub wires_are : wires flat circuit
      ≡ filter (λ wire. is_some_row (row_left rows wire)) (shapes_in_nets flat circuit)
  wires_are =
      filter_same (λ wire. is_wired flat wire.0) (λ wire. is_some_row (row_left rows wire))
      (shapes_in_nets flat circuit)
      (λ n wire is. wired_is flat circuit order rows sources n wire is)

  pub wires_from_are : (row : ℕ) → wires_from flat circuit row
      ≡ filter (of_row (row_left rows) row) (shapes_in_nets flat circuit)
  wires_from_are row =
      filter_twice (λ wire. is_wired flat wire.0) (leaves flat circuit row) (shapes_in_nets flat circuit)
      ∙ filter_same (λ wire. is_wired flat wire.0 && leaves flat circuit row wire) (of_row (row_left rows) row)
      (shapes_in_nets flat circuit)
      (λ n wire is. leaving_is flat circuit order rows sources n wire is row)

  pub count_is : (row : ℕ) → length (wires_from flat circuit row)
      ≡ count_by (of_row (row_left rows) row) (shapes_in_nets flat circuit)
  count_is row =
      ap (λ (l : List (Shape × ℕ)). length l) (wires_from_are row)
      ∙ length-filter (of_row (row_left rows) row) (shapes_in_nets flat circuit)

  module _ (lengths : List ℕ) (are : AreNetLengths flat.shapes circuit.nets lengths) where
    lengths_agree : AgreeOn (wire_length flat circuit) (λ wire. slice_index lengths wire.1)
        (shapes_in_nets flat circuit)
    lengths_agree n wire is =
        let at : (slice_get flat.shapes n ≡ Some wire.0) × (slice_index circuit.nets n ≡ wire.1) =
        zip_at flat.shapes circuit.nets n wire is in
        let lt : slice_index circuit.nets n < length flat.shapes =
        net_below flat.shapes circuit.nets order.are_nets n (slice_get_within flat.shapes n wire.0 at.0) in
        sym (are.at wire.1 (omega (arith, at.1, are.long)))

    pub longest_is : longest_of flat circuit (wires flat circuit)
        ≡ greatest (map (λ wire. slice_index lengths wire.1)
        (filter (λ wire. is_some_row (row_left rows wire)) (shapes_in_nets flat circuit)))
    longest_is =
        ap (longest_of flat circuit) wires_are
        ∙ ap greatest (map_same (wire_length flat circuit) (λ wire. slice_index lengths wire.1)
        (λ wire. is_some_row (row_left rows wire)) (shapes_in_nets flat circuit) lengths_agree)

    pub longest_from_is : (row : ℕ) → longest_of flat circuit (wires_from flat circuit row)
        ≡ greatest (map (λ wire. slice_index lengths wire.1)
        (filter (of_row (row_left rows) row) (shapes_in_nets flat circuit)))
    longest_from_is row =
        ap (longest_of flat circuit) (wires_from_are row)
        ∙ ap greatest (map_same (wire_length flat circuit) (λ wire. slice_index lengths wire.1)
        (of_row (row_left rows) row) (shapes_in_nets flat circuit) lengths_agree)

-- ---- the tables

module _ (flat : Flat) (circuit : CircuitView) (order : AreInOrder flat circuit.nets) (rows : List (Option ℕ))
    (sources : AreSourceRows flat.shapes circuit.nets rows) where
  pub wires_entries : (n : ℕ) (counts : List ℕ) → length counts ≡ n
      → AreCounts (row_left rows) (shapes_in_nets flat circuit) counts
      → HasEntries n (λ row. length (wires_from flat circuit row)) counts
  wires_entries n counts long are = record {
    many = long;
    each = λ row lt. are row (omega (arith, long)) ∙ sym (count_is flat circuit order rows sources row);
  }

  pub longest_entries : (lengths : List ℕ) → AreNetLengths flat.shapes circuit.nets lengths → (n : ℕ) (most : List ℕ)
      → length most ≡ n
      → AreGreatest (row_left rows) (λ wire. slice_index lengths wire.1) (shapes_in_nets flat circuit) most
      → HasEntries n (λ row. longest_of flat circuit (wires_from flat circuit row)) most
  longest_entries lengths measured n most long are = record {
    many = long;
    each = λ row lt.
        are row (omega (arith, long)) ∙ sym (longest_from_is flat circuit order rows sources lengths measured row);
  }
