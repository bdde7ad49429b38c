-- The circuit of a layout that keeps the rules of circuits keeps the facts of extracted circuits.
use Rattle.std.proofs.Common.{◌≡◌, ◌≢◌, ℕ, zero, suc, ◌+◌, ◌-◌, ◌%◌, ◌^◌, ◌<◌, ◌≤◌, inl, inr, true, ◌&&◌, List, [], ◌∷◌}
use Rattle.std.proofs.Common.{length, get_or, Some, ℤ, refl, sym, ap, subst, ◌∙◌, arith, eq-eqb}
use Rattle.std.specs.Prelude.{slice_get, count_by, ◌==◌, ◌||◌, int_lt, nat_lt}
use Rattle.std.specs.Ordering.{int_eq}
use Rattle.std.specs.List.{AllZip}
use Rattle.std.specs.List.Sorted.{IsNonDecreasingBy}
use Rattle.std.proofs.lemmas.Bool.{cases_eq, cases_lt, and_parts, and_from, or_left, or_right}
use Rattle.std.proofs.lemmas.Bool.Decides.{nat_tests}
use Rattle.std.proofs.lemmas.Int.{ints}
use Rattle.std.proofs.lemmas.List.Sums.{count_by-le-length}
use Rattle.std.proofs.lemmas.Option.{same_Some, slice_get_within, slice_get-get_or}
use Rattle.circuit.specs.CellKinds.{inputs_of}
use Rattle.rowed.specs.declared.source.Source.{Source}
use Rattle.geom.specs.declared.shapes.Shape.{Shape}
use Rattle.geom.specs.declared.shapes.Flat.{Flat}
use Rattle.layout_rules.specs.declared.layers.TheConstants.{INPUT_PIN, OUTPUT_PIN}
use Rattle.layout_rules.specs.Layers.{is_frame, is_pin}
use Rattle.layout_rules.proofs.NetLaws.{Joined-trans, Joined-back}
use Rattle.layout_rules.specs.Touch.{Joined}
use Rattle.layout_rules.specs.Rows.{row_of, row_count, AreRows}
use Rattle.layout_rules.proofs.RowLaws.{row_of-certified, row_count-certified}
use Rattle.layout_rules.specs.Pins.{lies_in, LiesIn, IsPinOf, stands_in, is_entry, is_exit, exit_count}
use Rattle.layout_rules.specs.Labels.{letter_i, letter_o, number_of_label}
use Rattle.layout_rules.specs.CircuitRules.{HasNoFrame}
use Rattle.layout_rules.proofs.ReportLaws.{first_kept}
use Rattle.layout_rules.proofs.Deciding.{settled}
use Rattle.layout_rules.proofs.LinesAgree.{each_excited}
use Rattle.circuit_extracted.specs.declared.cells.Feed.{Feed}
use Rattle.circuit_extracted.specs.declared.cells.Feed.TheVariants.{Nothing, Pin, Label as Word}
use Rattle.circuit_extracted.specs.declared.cells.ExCell.{ExCell}
use Rattle.circuit_extracted.specs.Circuits.{CircuitView, IsCellAt, feed_at, IsFed, IsOutputBelow, IsFeedOf, IsCellOf}
use Rattle.circuit_extracted.specs.Circuits.{HasCell, IsTaken, IsShown, KeepsFacts}
use Rattle.shape_extract.specs.Extraction.{IsNamed, IsOutputPin, IsDrivenBy, FeedsPin, IsFeedAt, IsCellFrom}
use Rattle.shape_extract.specs.Extraction.{IsCircuitOf}
use Rattle.shape_extract.specs.Extracts.{KeepsFive}
use Rattle.shape_extract.proofs.Each.{item_at}
use Rattle.shape_extract.proofs.Kept.{one_input, one_frame, one_named, one_number_of}
use Rattle.shape_extract.proofs.KeptPins.{input_number, output_number, one_output, some_output, output_named}
use Rattle.shape_extract.proofs.KeptPins.{named_input, entry_number, exit_number, entry_named, exit_named}
use Rattle.shape_extract.proofs.KeptPins.{label_of_port, frame_in_row, row_stands}
use Rattle.shape_extract.proofs.OneLine.{one_phase}
use Rattle.shape_extract.proofs.OneOrder.{one_place}
use Rattle.shape_extract.proofs.OneCircuit.{one_source, no_label}
use Rattle.shape_extract.proofs.Entries.{named_entry}

-- ---- two lists side by side

pub record Beside {A B : Type 0} (R : A → B → Type 0) (xs : List A) (ys : List B) (k : ℕ) : Type 0 where
  pub left : A
  pub right : B
  pub left_is : slice_get xs k ≡ Some left
  pub right_is : slice_get ys k ≡ Some right
  pub holds : R left right

pub beside : {A B : Type 0} (R : A → B → Type 0) (xs : List A) (ys : List B) → AllZip R xs ys → (k : ℕ)
    → k < length xs → Beside R xs ys k
beside R [] [] all k lt = absurd (omega arith)
beside R [] (y ∷ ys) all k lt = absurd all
beside R (x ∷ xs) [] all k lt = absurd all
beside R (x ∷ xs) (y ∷ ys) all zero lt = record { left = x; right = y; left_is = refl; right_is = refl; holds = all.0 }
beside R (x ∷ xs) (y ∷ ys) all (suc k) lt =
    (let b = beside R xs ys all.1 k
    (omega arith) in record {
      left = b.left;
      right = b.right;
      left_is = b.left_is;
      right_is = b.right_is;
      holds = b.holds;
    })

pub zip_long : {A B : Type 0} (R : A → B → Type 0) (xs : List A) (ys : List B) → AllZip R xs ys → length xs ≡ length ys
zip_long R [] [] all = refl
zip_long R [] (y ∷ ys) all = absurd all
zip_long R (x ∷ xs) [] all = absurd all
zip_long R (x ∷ xs) (y ∷ ys) all = ap suc (zip_long R xs ys all.1)

-- ---- the circuit

module _ (flat : Flat) (five : KeepsFive flat) (edges : List ℤ) (rows : AreRows flat.shapes edges)
    (circuit : CircuitView) (is : IsCircuitOf flat circuit) where
  -- a cell with its frame
  record CellAt (c : ℕ) : Type 0 where
    pub cell : ExCell
    pub f : ℕ
    pub cell_is : IsCellAt circuit c cell
    pub f_is : slice_get is.frames c ≡ Some f
    pub from : IsCellFrom flat is.frames cell f
    pub frame_so : is_frame from.frame ≡ true

  cell_at : (c : ℕ) → c < length circuit.cells → CellAt c
  cell_at c lt =
      let b = beside (IsCellFrom flat is.frames) circuit.cells is.frames is.cells c lt in
      let passes = is.are_frames.only c b.right b.right_is in
      record {
        cell = b.left;
        f = b.right;
        cell_is = b.left_is;
        f_is = b.right_is;
        from = b.holds;
        frame_so = ap is_frame (same_Some b.holds.frame passes.shape (sym b.holds.frame_is ∙ passes.shape_is))
            ∙ passes.passes_so;
      }

  with_cell : (c : ℕ) (cell : ExCell) → IsCellAt circuit c cell → (at : CellAt c) × (at.cell ≡ cell)
  with_cell c cell at =
      let here = cell_at c (slice_get_within circuit.cells c cell at) in
      (here, same_Some here.cell cell (sym here.cell_is ∙ at))

  with_frame : (c f : ℕ) → slice_get is.frames c ≡ Some f → (at : CellAt c) × (at.f ≡ f)
  with_frame c f at =
      let lt : c < length is.frames = slice_get_within is.frames c f at in
      let e : length circuit.cells ≡ length is.frames = zip_long
      (IsCellFrom flat is.frames) circuit.cells is.frames is.cells in
      let here = cell_at c (omega arith) in
      (here, same_Some here.f f (sym here.f_is ∙ at))

  -- ---- rows

  record EdgeAt (y : ℤ) (r : ℕ) : Type 0 where
    pub there : slice_get edges r ≡ Some y
    pub row_is : row_of flat.shapes y ≡ r

  edge_of : (f : ℕ) (frame : Shape) → slice_get flat.shapes f ≡ Some frame → is_frame frame ≡ true
      → (r : ℕ) × EdgeAt frame.rect.y0 r
  edge_of f frame at so =
      let e = rows.each f frame at so in
      (e.0, record { there = e.1; row_is = row_of-certified flat.shapes edges rows e.0 frame.rect.y0 e.1 })

  count_is : circuit.rows ≡ length edges
  count_is = is.rows ∙ row_count-certified flat.shapes edges rows

  row_below : (c : ℕ) (at : CellAt c) → at.cell.row < circuit.rows
  row_below c at =
      let e = edge_of at.f at.from.frame at.from.frame_is at.frame_so in
      let lt : e.0 < length edges = slice_get_within edges e.0 at.from.frame.rect.y0 e.1.there in
      let row : at.cell.row ≡ e.0 = at.from.row_is ∙ e.1.row_is in
      let count : circuit.rows ≡ length edges = count_is in
      omega arith

  has_row : (r : ℕ) → r < circuit.rows → HasCell circuit r
  has_row r lt =
      let count : circuit.rows ≡ length edges = count_is in
      let edge = item_at edges r (omega arith) in
      let f = rows.only r edge.0 edge.1 in
      let place = is.are_frames.each f.0 (record { shape = f.1; shape_is = f.2; passes_so = f.3 }) in
      let here = with_frame place.place f.0 place.there in
      let same : here.0.from.frame ≡ f.1 = same_Some here.0.from.frame f.1 (sym here.0.from.frame_is
      ∙ (ap (slice_get flat.shapes) here.1 ∙ f.2)) in
      record {
        number = place.place;
        cell = here.0.cell;
        cell_is = here.0.cell_is;
        row_is = here.0.from.row_is ∙ ap (λ (s : Shape). row_of flat.shapes s.rect.y0) same
            ∙ ap (row_of flat.shapes) f.4 ∙ row_of-certified flat.shapes edges rows r edge.0 edge.1;
      }

  some_row : 1 ≤ circuit.rows
  some_row = elim (cases_lt 0 circuit.rows) [
    | inl lt ↦ lt
    | inr none ↦ absurd (first_kept (HasNoFrame flat.shapes) _ five.cells 0 0 (record {
      none = λ f passes. (
          let e = edge_of f passes.shape passes.shape_is passes.passes_so in
          let lt : e.0 < length edges = slice_get_within edges e.0 passes.shape.rect.y0 e.1.there in
          let count : circuit.rows ≡ length edges = count_is in
          omega arith);
      first_is = refl;
      second_is = refl;
    }))
  ]

  -- a frame that comes before another is not above it
  not_above : (a b x y : ℤ) (f g : ℕ)
      → (int_lt a b || (int_eq a b && (int_lt x y || (int_eq x y && nat_lt f g)))) ≡ true → int_lt b a ≡ true → ⊥
  not_above a b x y f g before above = grind (arith, ints, nat_tests)

  rising_at : (c d : ℕ) (a : CellAt c) (b : CellAt d) → c < d → a.cell.row ≤ b.cell.row
  rising_at c d a b lt =
      let x = edge_of a.f a.from.frame a.from.frame_is a.frame_so in
      let y = edge_of b.f b.from.frame b.from.frame_is b.frame_so in
      let row : a.cell.row ≡ x.0 = a.from.row_is ∙ x.1.row_is in
      let other : b.cell.row ≡ y.0 = b.from.row_is ∙ y.1.row_is in
      let before = is.are_frames.in_order c d a.f b.f a.from.frame b.from.frame lt a.f_is b.f_is
      a.from.frame_is b.from.frame_is in
      elim (cases_lt y.0 x.0) [
        | inl above ↦ absurd (not_above a.from.frame.rect.y0 b.from.frame.rect.y0 a.from.frame.rect.x0
            b.from.frame.rect.x0 a.f b.f before
            (rows.rising y.0 x.0 b.from.frame.rect.y0 a.from.frame.rect.y0 y.1.there x.1.there above))
        | inr fine ↦ omega arith
      ]

  rising : IsNonDecreasingBy (λ cell. cell.row) circuit.cells
  rising i j d le lt =
      let a = cell_at i (omega arith) in
      let b = cell_at j lt in
      let first : get_or circuit.cells i d ≡ a.cell = same_Some (get_or circuit.cells i d) a.cell
      (sym (slice_get-get_or circuit.cells i d (omega arith)) ∙ a.cell_is) in
      let second : get_or circuit.cells j d ≡ b.cell = same_Some (get_or circuit.cells j d) b.cell
      (sym (slice_get-get_or circuit.cells j d lt) ∙ b.cell_is) in
      let row : (get_or circuit.cells i d).row ≡ a.cell.row = ap (λ (x : ExCell). x.row) first in
      let other : (get_or circuit.cells j d).row ≡ b.cell.row = ap (λ (x : ExCell). x.row) second in
      elim (cases_eq i j) [
        | inl e ↦ (let same : (get_or circuit.cells i d).row ≡ (get_or circuit.cells j d).row =
            ap (λ (k : ℕ). (get_or circuit.cells k d).row) e in omega arith)
        | inr ne ↦ (let up : a.cell.row ≤ b.cell.row = rising_at i j a b (omega arith) in omega arith)
      ]

  -- ---- cells

  phase_of_row : (c : ℕ) (at : CellAt c) → at.cell.phase ≡ at.cell.row % 4
  phase_of_row c at =
      let e : row_of flat.shapes at.from.frame.rect.y0 % 4 ≡ at.cell.row % 4 =
      ap (λ (r : ℕ). r % 4) (sym at.from.row_is) in
      settled at.cell.phase (at.cell.row % 4) (λ ne. each_excited flat.shapes five.lines at.f (record {
        frame = record { shape = at.from.frame; shape_is = at.from.frame_is; passes_so = at.frame_so };
        not_so = λ excited. ne (one_phase flat.shapes five.lines at.f at.from.frame at.cell.phase
            (row_of flat.shapes at.from.frame.rect.y0 % 4) at.from.frame_is at.frame_so at.from.excited
            (record { number = excited.bar; bar = excited.phase; over = excited.over }) ∙ e);
      }))

  abbrev lies : (f layer i p : ℕ) → IsPinOf flat.shapes f layer i p → LiesIn flat.shapes p f
  lies f layer i p pin = record {
    pin = pin.pin;
    frame = pin.frame;
    pin_is = pin.pin_is;
    frame_is = pin.frame_is;
    lies_so = pin.lies_so;
  }

  -- the frame of a pin of a cell is the cell's
  frame_same : (c : ℕ) (at : CellAt c) (layer i p : ℕ) (pin : IsPinOf flat.shapes at.f layer i p)
      → pin.frame ≡ at.from.frame
  frame_same c at layer i p pin = same_Some pin.frame at.from.frame (sym pin.frame_is ∙ at.from.frame_is)

  -- a pin in a frame of a row, and in the frame of a cell
  row_in : (c : ℕ) (at : CellAt c) (layer i p row : ℕ) (pin : IsPinOf flat.shapes at.f layer i p)
      → stands_in flat.shapes row pin.pin ≡ true → at.cell.row ≡ row
  row_in c at layer i p row pin stands =
      let found = frame_in_row flat.shapes row p pin.pin pin.pin_is stands in
      let other : IsPinOf flat.shapes found.0 layer i p = record {
        pin = pin.pin;
        frame = found.1.frame;
        pin_is = pin.pin_is;
        frame_is = found.1.frame_is;
        lies_so = ap (λ (s : Shape). lies_in s found.1.frame)
            (same_Some pin.pin found.1.pin (sym pin.pin_is ∙ found.1.pin_is)) ∙ found.1.lies_so;
        of_layer = pin.of_layer;
        of_number = pin.of_number;
      } in
      let same : found.0 ≡ at.f = one_frame flat five.cells found.0 at.f layer layer i i p other pin in
      let frame : found.1.frame ≡ at.from.frame = same_Some found.1.frame at.from.frame (sym found.1.frame_is
      ∙ (ap (slice_get flat.shapes) same ∙ at.from.frame_is)) in
      at.from.row_is ∙ ap (λ (s : Shape). row_of flat.shapes s.rect.y0) (sym frame) ∙ found.2

  -- an output pin of a cell in the row below
  output_in : (source : Source) (p row : ℕ) (output : IsOutputPin flat is.frames source p)
      → ((at : CellAt source.cell) → at.f ≡ output.frame → at.cell.row + 1 ≡ row) → IsOutputBelow circuit row source
  output_in source p row output below =
      let here = with_frame source.cell output.frame output.frame_is in
      let pin : IsPinOf flat.shapes here.0.f OUTPUT_PIN source.output p =
      rw here.1 output.pin in
      record {
        cell = here.0.cell;
        cell_is = here.0.cell_is;
        just_below = below here.0 here.1;
        has_output = output_number flat five.cells here.0.f here.0.from.frame here.0.cell.kind here.0.from.frame_is
            here.0.frame_so here.0.from.kind_is source.output p pin;
      }

  driven_below : (c i : ℕ) (at : CellAt c) (source : Source) (p : ℕ) (pin : IsPinOf flat.shapes at.f INPUT_PIN i p)
      → IsDrivenBy flat is.frames source p → IsOutputBelow circuit at.cell.row source
  driven_below c i at source p pin driven = output_in source driven.driver at.cell.row driven.output (λ lower e.
      let out : IsPinOf flat.shapes lower.f OUTPUT_PIN source.output driven.driver =
      rw e driven.output.pin in
      let upper_row : row_of flat.shapes pin.frame.rect.y0 ≡ at.cell.row =
      ap (λ (s : Shape). row_of flat.shapes s.rect.y0) (frame_same c at INPUT_PIN i p pin) ∙ sym at.from.row_is in
      let lower_row : row_of flat.shapes out.frame.rect.y0 ≡ lower.cell.row =
      ap (λ (s : Shape). row_of flat.shapes s.rect.y0)
      (frame_same source.cell lower OUTPUT_PIN source.output driven.driver out) ∙ sym lower.from.row_is in
      settled (lower.cell.row + 1) at.cell.row (λ ne. five.rows p driven.driver (record {
        input = driven.input;
        source = driven.driver_is;
        upper = at.f;
        lower = lower.f;
        in_upper = lies at.f INPUT_PIN i p pin;
        in_lower = lies lower.f OUTPUT_PIN source.output driven.driver out;
        not_above = λ same. ne (omega arith);
      })))

  feed_of : (c i : ℕ) (at : CellAt c) (feed : Feed) → IsFeedAt flat is.frames at.f i feed
      → IsFeedOf circuit at.cell.row feed
  feed_of c i at Nothing fed = tt
  feed_of c i at (Pin cell output) fed = driven_below c i at
      (record { cell = cell; output = output }) fed.number fed.pin fed.feeds
  feed_of c i at (Word n) fed =
      let entry = entry_named flat five.labels n fed.number fed.feeds in
      let same : fed.feeds.mark.pin ≡ fed.pin.pin = same_Some fed.feeds.mark.pin fed.pin.pin
      (sym fed.feeds.mark.pin_is ∙ fed.pin.pin_is) in
      let stands : stands_in flat.shapes 0 fed.pin.pin ≡ true =
      rw same at
      (and_parts (fed.feeds.mark.pin.layer == INPUT_PIN) (stands_in flat.shapes 0 fed.feeds.mark.pin) entry).1 in (
        row_in c at INPUT_PIN i fed.number 0 fed.pin stands,
        rw is.inputs (entry_number flat five.labels n fed.number fed.feeds),
      )

  no_feed : (c i : ℕ) (at : CellAt c) (feed : Feed) → feed ≡ Nothing → IsFeedAt flat is.frames at.f i feed → ⊥
  no_feed c i at feed e fed =
      (let gone : IsFeedAt flat is.frames at.f i Nothing = subst (IsFeedAt flat is.frames at.f i) e fed in gone.feeds)

  cell_of : (c : ℕ) (at : CellAt c) → IsCellOf circuit at.cell
  cell_of c at = record {
    row_is = row_below c at;
    phase_is = phase_of_row c at;
    feeds = λ i. (
      λ none. elim (cases_lt i (inputs_of at.cell.kind)) [
        | inl lt ↦ absurd (no_feed c i at (feed_at at.cell i) none (at.from.feeds i lt))
        | inr ge ↦ ge
      ],
      λ ge. at.from.no_more i ge,
    );
    each_feed = λ i. elim (cases_lt i (inputs_of at.cell.kind)) [
      | inl lt ↦ feed_of c i at (feed_at at.cell i) (at.from.feeds i lt)
      | inr ge ↦ subst (IsFeedOf circuit at.cell.row) (sym (at.from.no_more i ge)) tt
    ];
  }

  -- ---- feeds

  -- a fed input with its pin
  record FedAt (c i : ℕ) (feed : Feed) : Type 0 where
    pub at : CellAt c
    pub fed : IsFeedAt flat is.frames at.f i feed
    pub feed_is : feed_at at.cell i ≡ feed

  fed_at : (c i : ℕ) (feed : Feed) → feed ≢ Nothing → IsFed circuit c i feed → FedAt c i feed
  fed_at c i feed some fed =
      let here = with_cell c fed.cell fed.cell_is in
      let e : feed_at here.0.cell i ≡ feed = ap (λ (x : ExCell). feed_at x i) here.1 ∙ fed.feed_is in
      elim (cases_lt i (inputs_of here.0.cell.kind)) [
        | inl lt ↦ record {
          at = here.0;
          fed = subst (IsFeedAt flat is.frames here.0.f i) e (here.0.from.feeds i lt);
          feed_is = e;
        }
        | inr ge ↦ absurd (some (sym e ∙ here.0.from.no_more i ge))
      ]

  -- the output pin of a source is one
  one_driver : (source : Source) (p q : ℕ) → IsOutputPin flat is.frames source p
      → IsOutputPin flat is.frames source q → p ≡ q
  one_driver source p q first second =
      let here = with_frame source.cell first.frame first.frame_is in
      let same : second.frame ≡ first.frame = same_Some second.frame first.frame
      (sym second.frame_is ∙ first.frame_is) in
      one_output flat five.cells here.0.f here.0.from.frame here.0.cell.kind here.0.from.frame_is here.0.frame_so
      here.0.from.kind_is source.output p q
      (rw here.1 first.pin)
      (rw (same ∙ sym here.1) at second.pin)

  one_sink : (source : Source) (p q : ℕ) → IsDrivenBy flat is.frames source p
      → IsDrivenBy flat is.frames source q → p ≡ q
  one_sink source p q first second =
      let driver : second.driver ≡ first.driver =
      one_driver source second.driver first.driver second.output first.output in
      let back : Joined flat.shapes first.driver q = rw driver at
      (Joined-back flat.shapes q second.driver second.driver_is.joined) in
      settled p q (λ ne. five.nets p q (inl (record {
        pin = record {
          shape = first.input.pin;
          shape_is = first.input.pin_is;
          passes_so = or_left
              (first.input.pin.layer == INPUT_PIN) (first.input.pin.layer == OUTPUT_PIN)
              (eq-eqb first.input.pin.layer INPUT_PIN first.input.of_layer);
        };
        other = second.input.pin;
        other_is = second.input.pin_is;
        one_layer = first.input.of_layer ∙ sym second.input.of_layer;
        apart = ne;
        joined = Joined-trans flat.shapes p first.driver q first.driver_is.joined back;
      })))

  one_pin_fed : (feed : Feed) (p q : ℕ) → FeedsPin flat is.frames p feed → FeedsPin flat is.frames q feed → p ≡ q
  one_pin_fed Nothing p q first second = absurd first
  one_pin_fed (Pin cell output) p q first second = one_sink (record { cell = cell; output = output }) p q first second
  one_pin_fed (Word n) p q first second = one_named flat five.labels letter_i n p q first second

  once : (feed : Feed) (c i d j : ℕ) → feed ≢ Nothing → IsFed circuit c i feed
      → IsFed circuit d j feed → (c ≡ d) × (i ≡ j)
  once feed c i d j some first second =
      let a = fed_at c i feed some first in
      let b = fed_at d j feed some second in
      let pins : b.fed.number ≡ a.fed.number = one_pin_fed feed b.fed.number a.fed.number b.fed.feeds a.fed.feeds in
      let pin : IsPinOf flat.shapes b.at.f INPUT_PIN j a.fed.number =
      rw pins at b.fed.pin in
      let frames : a.at.f ≡ b.at.f =
      one_frame flat five.cells a.at.f b.at.f INPUT_PIN INPUT_PIN i j a.fed.number a.fed.pin pin in
      let shape : a.fed.pin.pin ≡ pin.pin = same_Some a.fed.pin.pin pin.pin (sym a.fed.pin.pin_is ∙ pin.pin_is) in (
        one_place flat.shapes is.frames is.are_frames c d b.at.f
            (a.at.f_is ∙ ap Some frames) b.at.f_is,
        sym a.fed.pin.of_number
            ∙ ap (λ (s : Shape). s.datatype) shape ∙ pin.of_number,
      )

  -- ---- inputs

  word_is : (p n : ℕ) (feed : Feed) → IsNamed flat letter_i n p → FeedsPin flat is.frames p feed → feed ≡ Word n
  word_is p n Nothing named feeds = absurd feeds
  word_is p n (Pin cell output) named feeds =
      absurd (no_label flat five.cells five.lines five.labels is.frames is.are_frames p letter_i n
      (record { cell = cell; output = output }) feeds named)
  word_is p n (Word m) named feeds = ap Word (one_number_of flat five.labels letter_i m n p feeds named)

  each_input : (n : ℕ) → n < circuit.inputs → IsTaken circuit n
  each_input n lt =
      let entry = named_entry flat five.labels n (rw is.inputs at lt) in
      let named = entry.1 in
      let stands = (and_parts (named.mark.pin.layer == INPUT_PIN) (stands_in flat.shapes 0 named.mark.pin)
      (entry_named flat five.labels n entry.0 named)).1 in
      let found = frame_in_row flat.shapes 0 entry.0 named.mark.pin named.mark.pin_is stands in
      let frame_so : is_frame found.1.frame ≡ true =
      (and_parts (is_pin found.1.pin) (is_frame found.1.frame)
      (and_parts (is_pin found.1.pin && is_frame found.1.frame) _ found.1.lies_so).0).1 in
      let place = is.are_frames.each found.0
      (record { shape = found.1.frame; shape_is = found.1.frame_is; passes_so = frame_so }) in
      let here = with_frame place.place found.0 place.there in
      let same : named.mark.pin ≡ found.1.pin = same_Some named.mark.pin found.1.pin
      (sym named.mark.pin_is ∙ found.1.pin_is) in
      let pin : IsPinOf flat.shapes here.0.f INPUT_PIN found.1.pin.datatype entry.0 = record {
        pin = found.1.pin;
        frame = found.1.frame;
        pin_is = found.1.pin_is;
        frame_is = ap (slice_get flat.shapes) here.1 ∙ found.1.frame_is;
        lies_so = found.1.lies_so;
        of_layer = ap (λ (s : Shape). s.layer) (sym same) ∙ named_input flat five.labels n entry.0 named;
        of_number = refl;
      } in
      let below : found.1.pin.datatype < inputs_of here.0.cell.kind =
      input_number flat five.cells here.0.f here.0.from.frame here.0.cell.kind here.0.from.frame_is here.0.frame_so
      here.0.from.kind_is found.1.pin.datatype entry.0 pin in
      let fed = here.0.from.feeds found.1.pin.datatype below in
      let one : fed.number ≡ entry.0 =
      one_input flat five.cells here.0.f found.1.pin.datatype fed.number entry.0 fed.pin pin in
      record {
        number = place.place;
        input = found.1.pin.datatype;
        fed = record {
          cell = here.0.cell;
          cell_is = here.0.cell_is;
          feed_is = word_is entry.0 n
              (feed_at here.0.cell found.1.pin.datatype) named
              (rw one at fed.feeds);
        };
      }

  -- ---- outputs

  rows_are : circuit.rows ≡ row_count flat.shapes
  rows_are = is.rows

  shown_below : (k : ℕ) (source : Source) → slice_get circuit.outputs k ≡ Some source
      → IsOutputBelow circuit circuit.rows source
  shown_below k source at =
      let out = is.outputs k source at in
      output_in source out.number circuit.rows out.output (λ cell e.
      let pin : IsPinOf flat.shapes cell.f OUTPUT_PIN source.output out.number =
      rw e out.output.pin in
      let same : out.named.mark.pin ≡ pin.pin = same_Some out.named.mark.pin pin.pin
      (sym out.named.mark.pin_is ∙ pin.pin_is) in
      let exit = exit_named flat five.labels k out.number out.named in
      let stands : stands_in flat.shapes (row_count flat.shapes - 1) pin.pin ≡ true =
      rw same at (and_parts (out.named.mark.pin.layer == OUTPUT_PIN)
      (stands_in flat.shapes (row_count flat.shapes - 1) out.named.mark.pin) exit).1 in
      let row : cell.cell.row ≡ row_count flat.shapes - 1 = row_in source.cell cell OUTPUT_PIN source.output out.number
      (row_count flat.shapes - 1) pin stands in
      let some : 1 ≤ circuit.rows = some_row in
      let count : circuit.rows ≡ row_count flat.shapes = rows_are in
      omega arith)

  each_output : (source : Source) → IsOutputBelow circuit circuit.rows source → IsShown circuit source
  each_output source below =
      let here = with_cell source.cell below.cell below.cell_is in
      let kind : below.cell.kind ≡ here.0.cell.kind = ap (λ (x : ExCell). x.kind) (sym here.1) in
      let row : below.cell.row ≡ here.0.cell.row = ap (λ (x : ExCell). x.row) (sym here.1) in
      let p = some_output flat five.cells here.0.f here.0.from.frame here.0.cell.kind here.0.from.frame_is
      here.0.frame_so here.0.from.kind_is source.output
      (rw kind at below.has_output) in
      let just : below.cell.row + 1 ≡ circuit.rows = below.just_below in
      let count : circuit.rows ≡ row_count flat.shapes = rows_are in
      let last : row_of flat.shapes p.1.frame.rect.y0 ≡ row_count flat.shapes - 1 =
      ap (λ (s : Shape). row_of flat.shapes s.rect.y0)
      (frame_same source.cell here.0 OUTPUT_PIN source.output p.0 p.1) ∙ (sym here.0.from.row_is ∙ omega arith) in
      let stands : stands_in flat.shapes (row_count flat.shapes - 1) p.1.pin ≡ true = row_stands flat.shapes
      (row_count flat.shapes - 1) p.0 here.0.f (lies here.0.f OUTPUT_PIN source.output p.0 p.1) last in
      let exit : is_exit flat.shapes p.1.pin ≡ true = and_from (p.1.pin.layer == OUTPUT_PIN)
      (stands_in flat.shapes (row_count flat.shapes - 1) p.1.pin)
      (eq-eqb p.1.pin.layer OUTPUT_PIN p.1.of_layer) stands in
      let label = label_of_port flat five.labels p.0 p.1.pin p.1.pin_is
      (or_right (is_entry flat.shapes p.1.pin) (is_exit flat.shapes p.1.pin) exit) in
      let named : IsNamed flat letter_o (number_of_label label.1.label) p.0 =
      output_named flat five.labels label.0 p.0 label.1 (ap (λ (s : Shape). s.layer) label.2 ∙ p.1.of_layer) in
      let within : number_of_label label.1.label < length circuit.outputs =
      rw is.output_count (exit_number flat five.labels (number_of_label label.1.label) p.0 named) in
      let shown = item_at circuit.outputs (number_of_label label.1.label) within in
      let out = is.outputs (number_of_label label.1.label) shown.0 shown.1 in
      let pins : out.number ≡ p.0 = one_named flat five.labels letter_o
      (number_of_label label.1.label) out.number p.0 out.named named in
      let mine : IsOutputPin flat is.frames source p.0 =
      record { frame = here.0.f; frame_is = here.0.f_is; pin = p.1 } in
      let same : shown.0 ≡ source = one_source flat five.cells five.lines five.labels is.frames is.are_frames shown.0
      source out.number p.0 pins out.output mine in
      record { number = number_of_label label.1.label; shown = shown.1 ∙ ap Some same }

  shown_once : (k l : ℕ) (source : Source) → slice_get circuit.outputs k ≡ Some source
      → slice_get circuit.outputs l ≡ Some source → k ≡ l
  shown_once k l source p q =
      let a = is.outputs k source p in
      let b = is.outputs l source q in
      let pins : b.number ≡ a.number = one_driver source b.number a.number b.output a.output in
      one_number_of flat five.labels letter_o k l a.number a.named
      (rw pins at b.named)

  -- ---- all facts

  pub keeps_facts : length flat.shapes < 2 ^ 32 → length circuit.cells < 2 ^ 32 → KeepsFacts circuit
  keeps_facts few few_cells = record {
    some_row = some_row;
    each_row = has_row;
    rising = rising;
    cells = λ c cell at. (let here = with_cell c cell at in subst (IsCellOf circuit) here.1 (cell_of c here.0));
    once = once;
    each_input = each_input;
    outputs = shown_below;
    each_output = each_output;
    shown_once = shown_once;
    few_cells = few_cells;
    few_outputs = (let h : count_by (is_exit flat.shapes) flat.shapes ≤ length flat.shapes = count_by-le-length
        (is_exit flat.shapes) flat.shapes in let e : length circuit.outputs ≡ exit_count flat.shapes =
        is.output_count in omega arith);
    few_shapes = (let e : length circuit.nets ≡ length flat.shapes = is.nets.long in omega arith);
  }
