-- A flat form that keeps the rules of circuits has a circuit.
use Rattle.std.proofs.Common.{◌≡◌, ℕ, zero, suc, ◌+◌, ◌%◌, ◌<◌, Bool, true, false, ◌==◌, refl, sym, ap, subst}
use Rattle.std.proofs.Common.{◌∙◌, arith, inl, inr}
use Rattle.std.proofs.Common.{List, [], ◌∷◌, length, Some}
use Rattle.std.specs.Prelude.{slice_get, count_by}
use Rattle.std.specs.List.{AllZip}
use Rattle.std.proofs.lemmas.Bool.{cases_lt, eq-eqb, or_right}
use Rattle.std.proofs.lemmas.Option.{same_Some}
use Rattle.circuit.specs.CellKinds.{number_of, inputs_of}
use Rattle.circuit.specs.declared.cell_kind.CellKind.{CellKind}
use Rattle.rowed.specs.declared.source.Source.{Source}
use Rattle.geom.specs.declared.shapes.Flat.{Flat}
use Rattle.geom.specs.declared.shapes.Shape.{Shape}
use Rattle.layout_rules.specs.declared.layers.TheConstants.{INPUT_PIN, OUTPUT_PIN}
use Rattle.layout_rules.specs.CircuitRules.{IsInput, IsSource}
use Rattle.layout_rules.specs.Labels.{Marks, marks, is_labelled, number_of_label}
use Rattle.layout_rules.specs.Layers.{is_frame, is_pin}
use Rattle.layout_rules.proofs.NetLaws.{Joined-back, Joined-trans}
use Rattle.layout_rules.specs.Nets.{AreNets}
use Rattle.layout_rules.specs.Pins.{LiesIn, entry_count, exit_count}
use Rattle.layout_rules.proofs.PlaceLaws.{list_any-place}
use Rattle.layout_rules.specs.Reports.{Passes}
use Rattle.layout_rules.specs.Rows.{row_of, row_count}
use Rattle.layout_rules.proofs.NetsExist.{some_nets}
use Rattle.layout_rules.proofs.Deciding.{settled, affirmed, dec_some, dec_equal}
use Rattle.layout_rules.proofs.JudgedCells.{dec_some_kind, dec_one_frame}
use Rattle.layout_rules.proofs.JudgedNets.{dec_source, source_within}
use Rattle.circuit_extracted.specs.Circuits.{CircuitView}
use Rattle.shape_extract.specs.Extraction.{IsOutputPin, FeedsPin, IsCellFrom, IsOutputFrom}
use Rattle.shape_extract.specs.Extraction.{is_wired, IsCircuitOf}
use Rattle.shape_extract.specs.Extracts.{KeepsFive}
use Rattle.shape_extract.specs.Frames.{AreFrames}
use Rattle.shape_extract.specs.Code.Tables.{IsFeedOfInput}
use Rattle.circuit_extracted.specs.declared.cells.ExCell.{ExCell}
use Rattle.circuit_extracted.specs.declared.cells.Feed.{Feed}
use Rattle.circuit_extracted.specs.declared.cells.Feed.TheVariants.{Nothing, Pin, Label as Word}
use Rattle.shape_extract.proofs.CellFeeds.{frame_lies, fed_within, fed_past}
use Rattle.shape_extract.proofs.CellLists.{no_kind, kind_there, cell_made}
use Rattle.shape_extract.proofs.Entries.{named_exit}
use Rattle.shape_extract.proofs.FramesExist.{some_frames}
use Rattle.shape_extract.proofs.Kept.{no_fault}
use Rattle.shape_extract.proofs.KeptPins.{some_input, input_named, named_output}

-- ---- lists

-- a list beside another one
beside_some : {A B : Type 0} (R : A → B → Type 0) (ys : List B)
    → ((i : ℕ) (y : B) → slice_get ys i ≡ Some y → (x : A) × R x y) → (xs : List A) × AllZip R xs ys
beside_some R [] each = ([], tt)
beside_some R (y ∷ ys) each =
    let one = each 0 y refl in
    let rest = beside_some R ys (λ i z e. each (suc i) z e) in
    (one.0 ∷ rest.0, (one.1, rest.1))

-- a list with an item for each number below n
record Numbered {A : Type 0} (R : ℕ → A → Type 0) (k n : ℕ) : Type 0 where
  items : List A
  long : length items ≡ n
  each : (i : ℕ) (x : A) → slice_get items i ≡ Some x → R (k + i) x

numbered_some : {A : Type 0} (R : ℕ → A → Type 0) (k n : ℕ) → ((i : ℕ) → i < k + n → (x : A) × R i x) → Numbered R k n
numbered_some R k zero each = record { items = []; long = refl; each = λ i x e. absurd cc }
numbered_some {A} R k (suc n) each =
    let one = each k (omega arith) in
    let rest = numbered_some R (suc k) n (λ i lt. each i (omega arith)) in
    record { items = one.0 ∷ rest.items; long = ap suc rest.long; each = at one.0 one.1 rest }
  where
    at : (x : A) → R k x → (rest : Numbered R (suc k) n) → (i : ℕ) (y : A) → slice_get (x ∷ rest.items) i ≡ Some y
        → R (k + i) y
    at x h rest zero y e = subst (λ (z : A). R (k + 0) z) (same_Some x y e) (subst (λ (m : ℕ). R m x) (omega arith) h)
    at x h rest (suc i) y e = subst (λ (m : ℕ). R m y) (omega arith) (rest.each i y e)

-- ---- the circuit

module _ (flat : Flat) (five : KeepsFive flat) where
  nets : (nets : List ℕ) × AreNets flat.shapes nets
  nets = some_nets flat.shapes

  frames : (frames : List ℕ) × AreFrames flat.shapes frames
  frames = some_frames flat.shapes

  -- a pin lies in a frame
  frame_of : (p : ℕ) (pin : Shape) → slice_get flat.shapes p ≡ Some pin → is_pin pin ≡ true
      → (f : ℕ) × LiesIn flat.shapes p f
  frame_of p pin at so =
      let one = affirmed (dec_one_frame flat.shapes p) (λ none. no_fault flat five.cells p (inr (record {
        pin = record { shape = pin; shape_is = at; passes_so = so };
        not_so = none;
      }))) in
      (one.frame, one.lies)

  -- an output pin is an output of a cell
  source_of : (q : ℕ) (pin : Shape) → slice_get flat.shapes q ≡ Some pin → pin.layer ≡ OUTPUT_PIN → (source : Source)
      × IsOutputPin flat frames.0 source q
  source_of q pin at layer =
      let f = frame_of q pin at
      (or_right (pin.layer == INPUT_PIN) (pin.layer == OUTPUT_PIN) (eq-eqb pin.layer OUTPUT_PIN layer)) in
      let place = frames.1.each f.0 (frame_lies flat.shapes q f.0 f.1) in
      let same : pin ≡ f.1.pin = same_Some pin f.1.pin (sym at ∙ f.1.pin_is) in (
        record { cell = place.place; output = f.1.pin.datatype },
        record {
          frame = f.0;
          frame_is = place.there;
          pin =
              record {
                pin = f.1.pin;
                frame = f.1.frame;
                pin_is = f.1.pin_is;
                frame_is = f.1.frame_is;
                lies_so = f.1.lies_so;
                of_layer = ap (λ (s : Shape). s.layer) (sym same) ∙ layer;
                of_number = refl;
              };
        },
      )

  -- an input pin without label has one in its net
  driver_of : (p : ℕ) → IsInput flat false p → (q : ℕ) × IsSource flat.shapes p q
  driver_of p input = affirmed (dec_some (IsSource flat.shapes p) (length flat.shapes) (dec_source flat.shapes nets p)
      (source_within flat.shapes nets p))
      (λ none. five.nets p p (inr (
        (λ b h. five.nets p b (inl h)),
        (inl (record { input = input; none = λ q h. none (q, h) }, refl)),
      )))

  one_driver : (p q r : ℕ) → IsSource flat.shapes p q → IsSource flat.shapes p r → r ≡ q
  one_driver p q r first second = settled r q (λ ne. five.nets r q (inl (record {
    pin =
        record {
          shape = second.pin;
          shape_is = second.pin_is;
          passes_so = or_right (second.pin.layer == INPUT_PIN)
              (second.pin.layer == OUTPUT_PIN) (eq-eqb second.pin.layer OUTPUT_PIN second.of_layer);
        };
    other = first.pin;
    other_is = first.pin_is;
    one_layer = second.of_layer ∙ sym first.of_layer;
    apart = ne;
    joined = Joined-trans flat.shapes r p q (Joined-back flat.shapes p r second.joined) first.joined;
  })))

  -- what feeds an input pin
  feed_of : (p : ℕ) (pin : Shape) → slice_get flat.shapes p ≡ Some pin → pin.layer ≡ INPUT_PIN
      → (feed : Feed) × FeedsPin flat frames.0 p feed
  feed_of p pin at layer = go (is_labelled flat pin) refl
    where
      go : (b : Bool) → is_labelled flat pin ≡ b → (feed : Feed) × FeedsPin flat frames.0 p feed
      go true e =
          let k = list_any-place (λ label. marks label pin) flat.labels e in
          let mark : Marks flat k.place p = record {
            label = k.item;
            pin = pin;
            label_is = k.item_is;
            pin_is = at;
            marks_so = k.passes_so;
          } in
          (Word (number_of_label k.item), input_named flat five.labels k.place p mark layer)
      go false e =
          let input : IsInput flat false p = record { pin = pin; pin_is = at; of_layer = layer; labelled_so = e } in
          let driver = driver_of p input in
          let source = source_of driver.0 driver.1.pin driver.1.pin_is driver.1.of_layer in (
            Pin source.0.cell source.0.output,
            record {
              input = input;
              driver = driver.0;
              driver_is = driver.1;
              only = λ r h. one_driver p driver.0 r driver.1 h;
              output = source.1;
            },
          )

  -- what feeds an input of a cell
  module _ (f : ℕ) (frame : Shape) (kind : CellKind) (at : slice_get flat.shapes f ≡ Some frame)
      (so : is_frame frame ≡ true) (kind_is : frame.datatype ≡ number_of kind) where
    fed : (i : ℕ) → (feed : Feed) × IsFeedOfInput flat frames.0 kind f i feed
    fed i = elim (cases_lt i (inputs_of kind)) [
      | inl lt ↦
          let p = some_input flat five.cells f frame kind at so kind_is i lt in
          let feed = feed_of p.0 p.1.pin p.1.pin_is p.1.of_layer in
          (feed.0, fed_within flat frames.0 kind f i p.0 feed.0 lt p.1 feed.1)
      | inr ge ↦ (Nothing, fed_past flat frames.0 kind f i ge)
    ]

  cell_of : (c f : ℕ) → slice_get frames.0 c ≡ Some f → (cell : ExCell) × IsCellFrom flat frames.0 cell f
  cell_of c f e =
      let kind = affirmed (dec_some_kind (λ kind. passes.shape.datatype ≡ number_of kind)
      (λ kind. dec_equal passes.shape.datatype (number_of kind)))
      (λ none. no_kind flat five.cells f passes passes.shape passes.shape_is (λ kind is. none (kind, is))) in
      made kind.0 kind.1
    where
      passes : Passes is_frame flat.shapes f
      passes = frames.1.only c f e

      made : (kind : CellKind) → passes.shape.datatype ≡ number_of kind → (cell : ExCell) × IsCellFrom flat frames.0
          cell f
      made kind kind_is =
          let row = row_of flat.shapes passes.shape.rect.y0 in
          let a = fed f passes.shape kind passes.shape_is passes.passes_so kind_is 0 in
          let b = fed f passes.shape kind passes.shape_is passes.passes_so kind_is 1 in
          let d = fed f passes.shape kind passes.shape_is passes.passes_so kind_is 2 in (
            record { kind = kind; row = row; phase = row % 4; feed0 = a.0; feed1 = b.0; feed2 = d.0 },
            cell_made flat frames.0 kind f (kind_there flat f passes passes.shape kind passes.shape_is kind_is) row
                (row % 4) a.0 b.0 d.0
                (λ t q. ap (λ (s : Shape). row_of flat.shapes s.rect.y0)
                (same_Some passes.shape t (sym passes.shape_is ∙ q))) refl (five.excited f) a.1 b.1 d.1,
          )

  output_of : (n : ℕ) → n < exit_count flat.shapes → (source : Source) × IsOutputFrom flat frames.0 n source
  output_of n lt =
      let p = named_exit flat five.labels n lt in
      let source = source_of p.0 p.1.mark.pin p.1.mark.pin_is (named_output flat five.labels n p.0 p.1) in
      (source.0, record { number = p.0; named = p.1; output = source.1 })

  pub some_circuit : (circuit : CircuitView) × IsCircuitOf flat circuit
  some_circuit =
      let cells = beside_some (IsCellFrom flat frames.0) frames.0 cell_of in
      let outputs = numbered_some (IsOutputFrom flat frames.0) 0 (exit_count flat.shapes)
      (λ n lt. output_of n (omega arith)) in
      let circuit : CircuitView = record {
        cells = cells.0;
        inputs = entry_count flat.shapes;
        outputs = outputs.items;
        rows = row_count flat.shapes;
        wires = count_by (is_wired flat) flat.shapes;
        nets = nets.0;
      } in (
        circuit,
        record {
          frames = frames.0;
          are_frames = frames.1;
          cells = cells.1;
          rows = refl;
          inputs = refl;
          output_count = outputs.long;
          outputs = λ n source e. subst (λ (m : ℕ). IsOutputFrom flat frames.0 m source)
              (let h : 0 + n ≡ n = omega arith in h) (outputs.each n source e);
          wires = refl;
          nets = nets.1;
        },
      )
