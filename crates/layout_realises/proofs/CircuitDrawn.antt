-- The circuit of a drawing's flat form.
use Rattle.std.proofs.Common.{◌≡◌, ℕ, zero, suc, pred, ◌+◌, ◌%◌, ◌<◌, ◌≤◌, ◌^◌, Bool, true, false, ◌&&◌, ◌||◌, ◌==◌}
use Rattle.std.proofs.Common.{cond, refl, sym, ap, subst, ◌∙◌, arith, ◌⊎◌, inl, inr, List, [], ◌∷◌, length, map, Option}
use Rattle.std.proofs.Common.{Some, None, is_some, ltb, slice_get, count_by, int_lt, nat_lt}
use Rattle.std.specs.Ordering.{int_eq}
use Rattle.std.specs.List.{flat_map, AllZip}
use Rattle.std.proofs.lemmas.Option.{same_Some, slice_get_within}
use Rattle.std.proofs.lemmas.List.{length-map}
use Rattle.std.proofs.lemmas.Bool.{and_parts, and_from, or_left, or_right, eqb-true, eq-eqb, false_from_ne_true}
use Rattle.std.proofs.lemmas.Bool.Decides.{nat_tests, Decides-int_eq}
use Rattle.shape_extract.proofs.CellLists.{all_zip}
use Rattle.circuit.specs.CellKinds.{number_of, inputs_of}
use Rattle.circuit.specs.declared.cell_kind.CellKind.{CellKind}
use Rattle.circuit.specs.declared.cell_kind.CellKind.TheVariants.{Buffer}
use Rattle.geom.specs.declared.shapes.Shape.{Shape}
use Rattle.geom.specs.Rectangle.{overlap}
use Rattle.layout_rules.specs.ExcitationLines.{BarHasPhase}
use Rattle.layout_rules.specs.Layers.{is_frame}
use Rattle.layout_rules.specs.Nets.{AreNets}
use Rattle.layout_rules.proofs.NetLaws.{Joined-back}
use Rattle.layout_rules.specs.Rows.{row_of}
use Rattle.layout_rules.specs.Pins.{IsPinOf}
use Rattle.layout_rules.specs.Labels.{letter_i, is_labelled}
use Rattle.layout_rules.specs.Reports.{Passes}
use Rattle.rowed.specs.declared.source.Source.{Source}
use Rattle.rowed.specs.RowCells.{source_at}
use Rattle.rowed.specs.RowNets.{last_of, is_input, pins_at}
use Rattle.rowed.specs.PlacedNets.{PlacedView, IsPlaced}
use Rattle.sorting.specs.Numbers.{numbers}
use Rattle.cell_library.specs.Library.{LibraryView}
use Rattle.circuit_extracted.specs.declared.cells.Feed.{Feed}
use Rattle.circuit_extracted.specs.declared.cells.Feed.TheVariants.{Nothing, Pin}
use Rattle.circuit_extracted.specs.declared.cells.ExCell.{ExCell}
use Rattle.circuit_extracted.specs.Circuits.{feed_at}
use Rattle.shape_extract.specs.Frames.{comes_before, HasPlace, AreFrames}
use Rattle.shape_extract.specs.Extraction.{IsNamed, IsOutputPin, IsDrivenBy, FeedsPin, IsFeedAt, IsInPhase, IsCellFrom}
use Rattle.shape_extract.specs.Extraction.{IsOutputFrom, is_wired, IsCircuitOf}
use Rattle.layout_make.proofs.Lawful.{IsLawful}
use Rattle.layout_make.specs.Sheet.{Tag, Frame, InPin, OutPin, Lead, Bar, Rise, Fall, Across, FromVia, ToVia, shape_of}
use Rattle.layout_make.specs.Tags.{At, sheet, tags}
use Rattle.layout_make.specs.Spots.{spots, input_port, PortAt}
use Rattle.layout_make.proofs.ReadyNets.{IsReady}
use Rattle.layout_make.specs.declared.spots.Spot.{Spot}
use Rattle.layout_make.specs.Channel.{in_column, out_column}
use Rattle.layout_make.specs.Draw.{input_label, output_label}
use Rattle.layout_make.specs.MayDraw.{MayDraw}
use Rattle.layout_make.specs.Laws.{Is, flat_shapes, FrameAt, InAt, OutAt}
use Rattle.layout_realises.specs.DrawnCircuit.{cells_below, source_feed, port_feed, drawn_cell, drawn_row, output_source}
use Rattle.layout_realises.specs.DrawnCircuit.{drawn_circuit}
use Rattle.layout_realises.proofs.FrameNumbers.{is_frame_of, first_place, frame_number, frame_row, frame_numbers}
use Rattle.layout_make.proofs.Member.{In, in_head, not_in_nil}
use Rattle.layout_make.proofs.FlatLaw.{kinds_same}
use Rattle.layout_make.proofs.Joins.{from_map, to_map}
use Rattle.layout_realises.proofs.RowByRow.{item_at, item_from, in_order, same_place, length_all}
use Rattle.layout_make.proofs.Ready.{TracksLaw, may_ready, lawful, stands_at, port_is, some_true, pins_most}
use Rattle.layout_make.proofs.Origins.{frame_stands, input_stands}
use Rattle.layout_make.proofs.Whole.{drawn, spot_row}
use Rattle.layout_make.proofs.Labelled.{input_marked, output_marked}
use Rattle.layout_make.proofs.WiresJoined.{wires_joined}
use Rattle.layout_make.proofs.CellsDrawn.{cells_drawn}
use Rattle.layout_make.proofs.KeptLines.{frame_excited}
use Rattle.layout_make.proofs.Wiring.{flat, Ports, labelled_row}
use Rattle.layout_make.proofs.Wiring as wiring
use Rattle.layout_make.proofs.LabelRule.{shape_is, rows_count, entries_are, exits_are}
use Rattle.layout_make.proofs.LabelRule.{input_label_at, output_label_at, input_numbered, output_numbered}
use Rattle.layout_make.proofs.LabelRule.{input_one_pin}
use Rattle.layout_make.proofs.PinsDrawn.{input_in_frame, output_in_frame}
use Rattle.layout_make.proofs.AllRules.{ports_of}
use Rattle.layout_realises.proofs.CircuitAnswers.{number_cell, shown_at}

-- the frame of a cell is found

place_found : (test : Tag → Bool) (t : Tag) (ts : List Tag) → In t ts → test t ≡ true
    → (u : Tag) × (slice_get ts (first_place test ts) ≡ Some u) × (test u ≡ true)
place_found test t [] h e = absurd (not_in_nil t h)
place_found test t (u ∷ ts) h e = go (test u) refl (in_head t u ts h) (λ k. place_found test t ts k e)
  where
    go : (b : Bool) → test u ≡ b → (t ≡ u) ⊎ In t ts
        → (In t ts → (v : Tag) × (slice_get ts (first_place test ts) ≡ Some v) × (test v ≡ true))
        → (v : Tag) × (slice_get (u ∷ ts) (cond b 0 (suc (first_place test ts))) ≡ Some v) × (test v ≡ true)
    go true q k more = (u, refl, q)
    go false q (inl same) more = absurd (let k : test t ≡ false = ap test same ∙ q in cc)
    go false q (inr k) more = more k

frame_told : (r : ℕ) (x : Spot) (t : Tag) → is_frame_of r x t ≡ true → t ≡ Frame r x.slot x.cell.kind
frame_told r x (Frame q slot k) e =
    let a = and_parts (q == r && slot == x.slot) (number_of k == number_of x.cell.kind) e in
    let b = and_parts (q == r) (slot == x.slot) a.0 in
    ap (λ (n : ℕ). Frame n slot k) (eqb-true q r b.0) ∙ ap (λ (n : ℕ). Frame r n k) (eqb-true slot x.slot b.1)
    ∙ ap (λ (m : CellKind). Frame r x.slot m)
    (kinds_same k x.cell.kind (eqb-true (number_of k) (number_of x.cell.kind) a.1))
frame_told r x (InPin q c i) e = absurd cc
frame_told r x (OutPin q c i) e = absurd cc
frame_told r x (Lead q) e = absurd cc
frame_told r x (Bar q) e = absurd cc
frame_told r x (Rise q c) e = absurd cc
frame_told r x (Fall q c) e = absurd cc
frame_told r x (Across q c) e = absurd cc
frame_told r x (FromVia q c) e = absurd cc
frame_told r x (ToVia q c) e = absurd cc

frame_tells : (r : ℕ) (x : Spot) → is_frame_of r x (Frame r x.slot x.cell.kind) ≡ true
frame_tells r x = and_from (r == r && x.slot == x.slot) (number_of x.cell.kind == number_of x.cell.kind)
    (and_from (r == r) (x.slot == x.slot) (eq-eqb r r refl) (eq-eqb x.slot x.slot refl))
    (eq-eqb (number_of x.cell.kind) (number_of x.cell.kind) refl)

module _ (p : PlacedView) (l : LibraryView) (law : TracksLaw) (may : MayDraw p l) where
  is : IsReady p l
  is = may_ready p l law may

  laws : IsLawful l
  laws = lawful l may.library

  ports : Ports p
  ports = ports_of p l may

  known : IsPlaced p
  known = may.placed

  pub frame_place : (r n : ℕ) (x : Spot) → slice_get (spots p r) n ≡ Some x
      → At (tags p l) (frame_number p l r x) (Frame r x.slot x.cell.kind)
  frame_place r n x e =
      let f = place_found (is_frame_of r x) (Frame r x.slot x.cell.kind) (tags p l)
      (frame_stands p l r x (spot_row p r x (n, e)) (n, e)) (frame_tells r x) in
      f.1 ∙ ap (λ (t : Tag). Some t) (frame_told r x f.0 f.2)

  frames_long : (r : ℕ) → cells_below p (suc r) ≡ cells_below p r + length (frame_row p l r)
  frames_long r = ap (λ (n : ℕ). cells_below p r + n) (sym (length-map (spots p r) (frame_number p l r)))

  pub frame_there : (r n : ℕ) (x : Spot) → slice_get (spots p r) n ≡ Some x
      → slice_get (frame_numbers p l) (cells_below p r + n) ≡ Some (frame_number p l r x)
  frame_there r n x e = item_at (frame_row p l) (cells_below p) refl frames_long (length p.net.rows) r n
      (frame_number p l r x) (spot_row p r x (n, e)) (to_map (frame_number p l r) (spots p r) n x e)

  record FrameNumbered (c f : ℕ) : Type 0 where
    pub row : ℕ
    pub place : ℕ
    pub spot : Spot
    pub number_is : c ≡ cells_below p row + place
    pub there : slice_get (spots p row) place ≡ Some spot
    pub frame_is : frame_number p l row spot ≡ f

  frame_from : (c f : ℕ) → slice_get (frame_numbers p l) c ≡ Some f → FrameNumbered c f
  frame_from c f e =
      let h = item_from (frame_row p l) (cells_below p) refl frames_long (length p.net.rows) c f e in
      let x = from_map (frame_number p l h.0) (spots p h.0) h.1 f h.4 in
      record { row = h.0; place = h.1; spot = x.0; number_is = h.3; there = x.1; frame_is = x.2 }

  -- the frame of a cell as a shape
  frame_shape : (r n : ℕ) (x : Spot) → slice_get (spots p r) n ≡ Some x → Is (flat_shapes p l) (frame_number p l r x)
      (shape_of (sheet p l) (Frame r x.slot x.cell.kind))
  frame_shape r n x e = shape_is p l is laws ports (frame_number p l r x) (Frame r x.slot x.cell.kind)
      (frame_place r n x e)

  are_frames : AreFrames (flat_shapes p l) (frame_numbers p l)
  are_frames = record {
    each = λ f passes. each f passes;
    only = λ c f e.
        let h = frame_from c f e in
        record {
          shape = shape_of (sheet p l) (Frame h.row h.spot.slot h.spot.cell.kind);
          shape_is = ap (λ (n : ℕ). slice_get (flat_shapes p l) n) (sym h.frame_is)
              ∙ frame_shape h.row h.place h.spot h.there;
          passes_so = refl;
        };
    in_order = λ c d f g s t lt ec ed es et. ordered c d f g s t lt (frame_from c f ec) (frame_from d g ed) es et;
  }
    where
      each : (f : ℕ) → Passes is_frame (flat_shapes p l) f → HasPlace (frame_numbers p l) f
      each f passes =
          let cells = cells_drawn p l is laws ports in
          let h = cells.each_frame f passes.shape passes.shape_is (eqb-true passes.shape.layer 20 passes.passes_so) in
          let at = h.2 in
          let same : f ≡ frame_number p l h.0 at.spot = (drawn p l is laws).once f (frame_number p l h.0 at.spot)
          (Frame h.0 at.spot.slot at.spot.cell.kind) at.at (frame_place h.0 h.1 at.spot at.place) in
          record {
            place = cells_below p h.0 + h.1;
            there = frame_there h.0 h.1 at.spot at.place ∙ ap (λ (n : ℕ). Some n) (sym same);
          }

      before_so : (s t : Shape) (f g : ℕ) → (int_lt s.rect.y0 t.rect.y0 ≡ true)
          ⊎ ((s.rect.y0 ≡ t.rect.y0) × (int_lt s.rect.x0 t.rect.x0 ≡ true)) → comes_before s f t g ≡ true
      before_so s t f g (inl h) =
          or_left (int_lt s.rect.y0 t.rect.y0)
          (int_eq s.rect.y0 t.rect.y0 && (int_lt s.rect.x0 t.rect.x0 || (int_eq s.rect.x0 t.rect.x0 && nat_lt f g))) h
      before_so s t f g (inr h) =
          or_right (int_lt s.rect.y0 t.rect.y0)
          (int_eq s.rect.y0 t.rect.y0 && (int_lt s.rect.x0 t.rect.x0 || (int_eq s.rect.x0 t.rect.x0 && nat_lt f g)))
          (and_from (int_eq s.rect.y0 t.rect.y0)
          (int_lt s.rect.x0 t.rect.x0 || (int_eq s.rect.x0 t.rect.x0 && nat_lt f g))
          ((Decides-int_eq s.rect.y0 t.rect.y0).1 h.0)
          (or_left (int_lt s.rect.x0 t.rect.x0) (int_eq s.rect.x0 t.rect.x0 && nat_lt f g) h.1))

      ordered : (c d f g : ℕ) (s t : Shape) → c < d → FrameNumbered c f → FrameNumbered d g
          → slice_get (flat_shapes p l) f ≡ Some s → slice_get (flat_shapes p l) g ≡ Some t
          → comes_before s f t g ≡ true
      ordered c d f g s t lt a b es et =
          let cells = cells_drawn p l is laws ports in
          let fa : FrameAt p l a.row a.place
          f = record {
            spot = a.spot;
            place = a.there;
            at = subst (λ (n : ℕ). At (tags p l) n (Frame a.row a.spot.slot a.spot.cell.kind)) a.frame_is
                (frame_place a.row a.place a.spot a.there);
          } in
          let fb : FrameAt p l b.row b.place
          g = record {
            spot = b.spot;
            place = b.there;
            at = subst (λ (n : ℕ). At (tags p l) n (Frame b.row b.spot.slot b.spot.cell.kind)) b.frame_is
                (frame_place b.row b.place b.spot b.there);
          } in
          let na = a.number_is in let nb = b.number_is in
          let order = in_order (spots p) (cells_below p) refl (λ r. refl) (length p.net.rows) a.row a.place b.row
          b.place (slice_get_within (spots p a.row) a.place a.spot a.there)
          (slice_get_within (spots p b.row) b.place b.spot b.there) (omega arith) in
          before_so s t f g (cells.ordered a.row a.place b.row b.place f g s t fa fb es et order)

  -- pins in the frames of their cells

  pin_input : (r n i m : ℕ) (at : InAt p l r n i m) → IsPinOf (flat_shapes p l) (frame_number p l r at.spot) 21 i m
  pin_input r n i m at = input_in_frame p l is laws ports r n i (frame_number p l r at.spot) m
      (record { spot = at.spot; place = at.input.at; at = frame_place r n at.spot at.input.at }) at

  pin_output : (r n o m : ℕ) (at : OutAt p l r n o m) → IsPinOf (flat_shapes p l) (frame_number p l r at.spot) 22 o m
  pin_output r n o m at = output_in_frame p l is laws ports r n o (frame_number p l r at.spot) m
      (record { spot = at.spot; place = at.output.at; at = frame_place r n at.spot at.output.at }) at

  output_pin : (r n o m : ℕ) (at : OutAt p l r n o m) → IsOutputPin (flat p l) (frame_numbers p l)
      (record { cell = cells_below p r + n; output = o }) m
  output_pin r n o m at = record {
    frame = frame_number p l r at.spot;
    frame_is = frame_there r n at.spot at.output.at;
    pin = pin_output r n o m at;
  }

  -- feeds

  few_inputs : p.net.inputs < 2 ^ 64
  few_inputs = let k = may.few_inputs in omega arith

  few_outputs : p.net.outputs < 2 ^ 64
  few_outputs = let k = may.few_outputs in omega arith

  in_shape : (r n i m : ℕ) (at : InAt p l r n i m)
      → Is (flat_shapes p l) m (shape_of (sheet p l) (InPin r (in_column l at.spot i) i))
  in_shape r n i m at = shape_is p l is laws ports m (InPin r (in_column l at.spot i) i) at.at

  named_input : (n m k : ℕ) → k < p.net.inputs → PortAt p input_port 0 k n → InAt p l 0 n 0 m
      → IsNamed (flat p l) letter_i k m
  named_input n m k lt port at =
      let mark = input_marked p l is laws ports.inputs k lt in
      let pin : m ≡ mark.1 = input_one_pin p l is laws ports m mark.1 k (n, port, at) (mark.0, mark.2, mark.3) in
      record {
        place = k;
        mark = record {
          label = input_label p l k;
          pin = mark.4.pin;
          label_is = input_label_at p l is laws ports k lt;
          pin_is = ap (λ (j : ℕ). slice_get (flat_shapes p l) j) pin ∙ mark.4.pin_is;
          marks_so = mark.4.marked;
        };
        numbered = input_numbered p l is laws ports few_inputs few_outputs k lt;
      }

  none_of : (o : Option ℕ) → is_some o ≡ false → o ≡ None
  none_of None e = refl
  none_of (Some n) e = absurd cc

  no_source : (o : Option Source) → is_some o ≡ false → o ≡ None
  no_source None e = refl
  no_source (Some s) e = absurd cc

  feed_is : (q : ℕ) (x : Spot) (i : ℕ) (s : Source) → x.cell.input ≡ None → source_at x.cell i ≡ Some s
      → feed_at (drawn_cell p (suc q) x) i ≡ Pin (cells_below p q + s.cell) s.output
  feed_is q x zero s none e = ap (λ (o : Option ℕ). port_feed o (source_feed (cells_below p q) x.cell.source0)) none
      ∙ ap (source_feed (cells_below p q)) e
  feed_is q x (suc zero) s none e = ap (source_feed (cells_below p q)) e
  feed_is q x (suc (suc zero)) s none e = ap (source_feed (cells_below p q)) e
  feed_is q x (suc (suc (suc i))) s none e = absurd cc

  feed_none : (r : ℕ) (x : Spot) (i : ℕ) → x.cell.input ≡ None → source_at x.cell i ≡ None
      → feed_at (drawn_cell p r x) i ≡ Nothing
  feed_none r x zero none e = ap (λ (o : Option ℕ). port_feed o (source_feed (cells_below p (pred r)) x.cell.source0))
      none ∙ ap (source_feed (cells_below p (pred r))) e
  feed_none r x (suc zero) none e = ap (source_feed (cells_below p (pred r))) e
  feed_none r x (suc (suc zero)) none e = ap (source_feed (cells_below p (pred r))) e
  feed_none r x (suc (suc (suc i))) none e = refl

  driven_by : (q n i m : ℕ) → (at : InAt p l (suc q) n i m) → (s : Source) × (source_at at.spot.cell i ≡ Some s)
      × IsDrivenBy (flat p l) (frame_numbers p l) (record { cell = cells_below p q + s.cell; output = s.output }) m
  driven_by q n i m at =
      let d = (wires_joined p l is laws).drives q n i m at in
      let same : d.spot ≡ at.spot = same_Some _ _ (sym d.place ∙ at.input.at) in
      let a = shape_of (sheet p l) (InPin (suc q) (in_column l at.spot i) i) in
      let out = shape_of (sheet p l) (OutPin q (out_column l d.out_at.spot d.source.output) d.source.output) in (
        d.source,
        ap (λ (x : Spot). source_at x.cell i) (sym same) ∙ d.source_is,
        record {
          input =
              record {
                pin = a;
                pin_is = in_shape (suc q) n i m at;
                of_layer = refl;
                labelled_so = false_from_ne_true (is_labelled (flat p l) a)
                    (λ e. (
                    let z = labelled_row p l is laws ports (suc q) n i m a at (in_shape (suc q) n i m at) refl e in
                    omega arith));
              };
          driver = d.pin;
          driver_is =
              record {
                pin = out;
                pin_is = shape_is p l is laws ports d.pin
                    (OutPin q (out_column l d.out_at.spot d.source.output) d.source.output) d.out_at.at;
                of_layer = refl;
                joined = Joined-back (flat_shapes p l) d.pin m d.joined;
              };
          only = λ k source. d.only k source.pin source.pin_is source.of_layer
              (Joined-back (flat_shapes p l) m k source.joined);
          output = output_pin q d.source.cell d.source.output d.pin d.out_at;
        },
      )

  upper_input : (q n : ℕ) (x : Spot) → slice_get (spots p (suc q)) n ≡ Some x → x.cell.input ≡ None
  upper_input q n x e = none_of x.cell.input (stands_at p known (suc q) n x e).input

  pin_number : (r n i : ℕ) (x : Spot) → slice_get (spots p r) n ≡ Some x → i < inputs_of x.cell.kind
      → (m : ℕ) × InAt p l r n i m
  pin_number r n i x e lt = let m = input_stands p l r x i (spot_row p r x (n, e)) (n, e) lt in
      (m.0, record { spot = x; input = record { at = e; below = lt }; at = m.1 })

  cell_feed : (r n i : ℕ) (x : Spot) (e : slice_get (spots p r) n ≡ Some x) → i < inputs_of x.cell.kind
      → IsFeedAt (flat p l) (frame_numbers p l) (frame_number p l r x) i (feed_at (drawn_cell p r x) i)
  cell_feed zero n i x e lt =
      let port = ports.all_inputs n x e (omega arith) in
      let zero_pin : i ≡ 0 = (let b : i < 1 = subst (λ (k : CellKind). i < inputs_of k) port.3 lt in omega arith) in
      let m = pin_number 0 n 0 x e (omega arith) in
      let input : x.cell.input ≡ Some port.0 = port_is x.cell.input port.0 port.2 in
      let pin = pin_input 0 n 0 m.0 m.1 in
      let same : m.1.spot ≡ x = same_Some _ _ (sym m.1.input.at ∙ e) in
      let named = named_input n m.0 port.0 port.1 (record { spot = x; at = e; has = port.2; buffer = port.3 }) m.1 in
      subst (λ (j : ℕ). IsFeedAt (flat p l) (frame_numbers p l) (frame_number p l 0 x) j
      (feed_at (drawn_cell p 0 x) j)) (sym zero_pin) (record {
        number = m.0;
        pin = subst (λ (y : Spot). IsPinOf (flat_shapes p l) (frame_number p l 0 y) 21 0 m.0) same pin;
        feeds =
            subst (λ (o : Option ℕ). FeedsPin (flat p l) (frame_numbers p l) m.0
            (port_feed o (source_feed 0 x.cell.source0))) (sym input) named;
      })
  cell_feed (suc q) n i x e lt =
      let m = pin_number (suc q) n i x e lt in
      let same : m.1.spot ≡ x = same_Some _ _ (sym m.1.input.at ∙ e) in
      let d = driven_by q n i m.0 m.1 in
      let feed = feed_is q x i d.0 (upper_input q n x e) (ap (λ (y : Spot). source_at y.cell i) (sym same) ∙ d.1) in
      record {
        number = m.0;
        pin = subst (λ (y : Spot). IsPinOf (flat_shapes p l) (frame_number p l (suc q) y) 21 i m.0) same
            (pin_input (suc q) n i m.0 m.1);
        feeds = subst (λ (f : Feed). FeedsPin (flat p l) (frame_numbers p l) m.0 f) (sym feed) d.2;
      }

  less_false : (a b : ℕ) → b ≤ a → ltb a b ≡ false
  less_false a b h = grind (arith, nat_tests)

  past_pins : (r n i : ℕ) (x : Spot) (e : slice_get (spots p r) n ≡ Some x) → inputs_of x.cell.kind ≤ i
      → feed_at (drawn_cell p r x) i ≡ Nothing
  past_pins r n i x e le =
      let stand = stands_at p known r n x e in
      let most = pins_most r x.cell.kind in
      let none = no_source (source_at x.cell i) (stand.fed i ∙ less_false i (pins_at r x.cell.kind) (omega arith)) in
      go x.cell.input refl (source_at x.cell i) refl none
    where
      buffer_input : (r : ℕ) (k : CellKind) → is_input r k ≡ true → 0 < inputs_of k
      buffer_input zero Buffer e = omega arith
      buffer_input zero k e = absurd cc
      buffer_input (suc r) k e = absurd cc

      later : (i : ℕ) → 0 < i → source_at x.cell i ≡ None → feed_at (drawn_cell p r x) i ≡ Nothing
      later zero h e = absurd (omega arith)
      later (suc zero) h e = ap (source_feed (cells_below p (pred r))) e
      later (suc (suc zero)) h e = ap (source_feed (cells_below p (pred r))) e
      later (suc (suc (suc i))) h e = refl

      go : (o : Option ℕ) → x.cell.input ≡ o → (t : Option Source) → source_at x.cell i ≡ t → source_at x.cell i ≡ None
          → feed_at (drawn_cell p r x) i ≡ Nothing
      go None q t u none = feed_none r x i q none
      go (Some k) q t u none =
          let some = buffer_input r x.cell.kind (sym (stands_at p known r n x e).input ∙ some_true x.cell.input k q) in
          later i (omega arith) none

  -- phases

  in_phase : (r n : ℕ) (x : Spot) → slice_get (spots p r) n ≡ Some x
      → IsInPhase (flat_shapes p l) (shape_of (sheet p l) (Frame r x.slot x.cell.kind)) (r % 4)
  in_phase r n x e =
      let frame = shape_of (sheet p l) (Frame r x.slot x.cell.kind) in
      let f = frame_number p l r x in
      let h = frame_excited p l is laws f frame (frame_shape r n x e) refl in
      let row = wiring.frame_row p l is laws f r x.slot x.cell.kind frame (frame_place r n x e) (frame_shape r n x e) in
      let in_row : (row_of (flat_shapes p l) frame.rect.y0) % 4 ≡ r % 4 = ap (λ (k : ℕ). k % 4) row in
      go h.bar (row_of (flat_shapes p l) frame.rect.y0 % 4) in_row h.phase h.over
    where
      go : (b phase : ℕ) → phase ≡ r % 4 → (bar : BarHasPhase (flat_shapes p l) b phase)
          → overlap bar.is_bar.shape.rect (shape_of (sheet p l) (Frame r x.slot x.cell.kind)).rect ≡ true
          → IsInPhase (flat_shapes p l) (shape_of (sheet p l) (Frame r x.slot x.cell.kind)) (r % 4)
      go b phase same bar over =
          record {
            number = b;
            bar =
                record {
                  is_bar = bar.is_bar;
                  before = bar.before;
                  before_shape = bar.before_shape;
                  before_shape_is = bar.before_shape_is;
                  is_before = bar.is_before;
                  phase_is = bar.phase_is ∙ same;
                };
            over = over;
          }

  cell_from : (r n : ℕ) (x : Spot) → slice_get (spots p r) n ≡ Some x → IsCellFrom (flat p l) (frame_numbers p l)
      (drawn_cell p r x) (frame_number p l r x)
  cell_from r n x e = record {
    frame = shape_of (sheet p l) (Frame r x.slot x.cell.kind);
    frame_is = frame_shape r n x e;
    kind_is = refl;
    row_is =
        sym (wiring.frame_row p l is laws (frame_number p l r x) r x.slot x.cell.kind
        (shape_of (sheet p l) (Frame r x.slot x.cell.kind)) (frame_place r n x e) (frame_shape r n x e));
    excited = in_phase r n x e;
    feeds = λ i lt. cell_feed r n i x e lt;
    no_more = λ i le. past_pins r n i x e le;
  }

  cells_from : AllZip (IsCellFrom (flat p l) (frame_numbers p l))
      (flat_map (drawn_row p) (numbers 0 (length p.net.rows))) (frame_numbers p l)
  cells_from = all_zip (IsCellFrom (flat p l) (frame_numbers p l))
      (flat_map (drawn_row p) (numbers 0 (length p.net.rows))) (frame_numbers p l)
      (length_all (drawn_row p) (cells_below p) refl
      (λ r. ap (λ (n : ℕ). cells_below p r + n) (sym (length-map (spots p r) (drawn_cell p r))))
      (length p.net.rows) ∙ sym (length_all (frame_row p l) (cells_below p) refl frames_long (length p.net.rows)))
      (λ c cell f ec ef.
      let a = number_cell p known c cell ec in
      let b = frame_from c f ef in
      let place = same_place (spots p) (cells_below p) refl (λ r. refl) (length p.net.rows) a.row a.place b.row b.place
      (slice_get_within (spots p a.row) a.place a.spot a.there)
      (slice_get_within (spots p b.row) b.place b.spot b.there) (sym a.number_is ∙ b.number_is) in
      let spot : a.spot ≡ b.spot = same_Some _ _ (sym a.there ∙ ap (λ (k : ℕ). slice_get (spots p a.row) k) place.1
      ∙ ap (λ (k : ℕ). slice_get (spots p k) b.place) place.0 ∙ b.there) in
      let frame : frame_number p l a.row a.spot ≡ f = ap (λ (k : ℕ). frame_number p l k a.spot) place.0
      ∙ ap (frame_number p l b.row) spot ∙ b.frame_is in
      subst (IsCellFrom (flat p l) (frame_numbers p l) cell) frame
      (subst (λ (c : ExCell). IsCellFrom (flat p l) (frame_numbers p l) c (frame_number p l a.row a.spot))
      a.cell_is (cell_from a.row a.place a.spot a.there)))

  -- outputs

  number_at : (k n i : ℕ) (j : ℕ) → slice_get (numbers k n) i ≡ Some j → (i < n) × (j ≡ k + i)
  number_at k zero i j e = absurd cc
  number_at k (suc n) zero j e = (omega arith, sym (same_Some _ _ e) ∙ omega arith)
  number_at k (suc n) (suc i) j e = let h = number_at (suc k) n i j e in (let a = h.0 in omega arith, h.1 ∙ omega arith)

  output_from : (n : ℕ) (source : Source) → slice_get (map (output_source p) (numbers 0 p.net.outputs)) n ≡ Some source
      → IsOutputFrom (flat p l) (frame_numbers p l) n source
  output_from n source e =
      let h = from_map (output_source p) (numbers 0 p.net.outputs) n source e in
      let k = number_at 0 p.net.outputs n h.0 h.1 in
      let same : output_source p n ≡ source = ap (output_source p) (let q = k.1 in let z : n ≡ h.0 = omega arith in z)
      ∙ h.2 in
      subst (IsOutputFrom (flat p l) (frame_numbers p l) n) same (go n k.0)
    where
      go : (n : ℕ) → n < p.net.outputs → IsOutputFrom (flat p l) (frame_numbers p l) n (output_source p n)
      go n lt =
          let mark = output_marked p l is laws ports.outputs n lt in
          let s = shown_at p known n lt in
          let port = mark.2 in
          let place : s.place ≡ mark.0 = ports.outputs.once n s.place mark.0 s.spot port.spot s.there port.at s.has
          port.has in
          let cell : (output_source p n).cell ≡ cells_below p (last_of p.net.rows) + mark.0 = s.source_is
          ∙ ap (λ (m : ℕ). cells_below p (last_of p.net.rows) + m) place in
          record {
            number = mark.1;
            named = record {
              place = p.net.inputs + n;
              mark =
                  record {
                    label = output_label p l n;
                    pin = mark.4.pin;
                    label_is = output_label_at p l is laws ports n lt;
                    pin_is = mark.4.pin_is;
                    marks_so = mark.4.marked;
                  };
              numbered = output_numbered p l is laws ports few_inputs few_outputs n lt;
            };
            output =
                subst (λ (c : ℕ). IsOutputPin (flat p l) (frame_numbers p l) (record { cell = c; output = 0 }) mark.1)
                (sym cell) (output_pin (last_of p.net.rows) mark.0 0 mark.1 mark.3);
          }

  -- the circuit of the drawing
  pub is_circuit : (nets : List ℕ) → AreNets (flat_shapes p l) nets
      → IsCircuitOf (flat p l) (drawn_circuit p (count_by (is_wired (flat p l)) (flat_shapes p l)) nets)
  is_circuit nets are = record {
    frames = frame_numbers p l;
    are_frames = are_frames;
    cells = cells_from;
    rows = sym (rows_count p l is laws ports);
    inputs = sym (entries_are p l is laws ports);
    output_count = length-map (numbers 0 p.net.outputs) (output_source p) ∙ length_numbers 0 p.net.outputs
        ∙ sym (exits_are p l is laws ports);
    outputs = output_from;
    wires = refl;
    nets = are;
  }
    where
      length_numbers : (b n : ℕ) → length (numbers b n) ≡ n
      length_numbers b zero = refl
      length_numbers b (suc n) = let k = length_numbers (suc b) n in omega arith
