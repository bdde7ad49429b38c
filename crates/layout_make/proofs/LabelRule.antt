-- What is kept of the rule of labels, as the rule reports it.
use Rattle.std.proofs.Common.{◌≡◌, ℕ, zero, suc, pred, ◌+◌, ◌-◌, ◌<◌, ◌≤◌, ◌^◌, Bool, true, ◌&&◌, ◌==◌, refl, sym, ap}
use Rattle.std.proofs.Common.{subst}
use Rattle.std.proofs.Common.{◌∙◌, arith, ◌⊎◌, inl, inr, List, [], ◌∷◌, ◌++◌, map, length, Option, Some, None}
use Rattle.std.specs.Prelude.{slice_get, slice_index, count_by, pos}
use Rattle.std.specs.List.{list_any}
use Rattle.std.proofs.lemmas.Option.{same_Some}
use Rattle.std.proofs.lemmas.Bool.{both_ways, and_parts, and_from, or_cases, or_left, or_right, eqb-true, eq-eqb}
use Rattle.circuit.specs.declared.cell_kind.CellKind.{CellKind}
use Rattle.circuit.specs.declared.cell_kind.CellKind.TheVariants.{Buffer}
use Rattle.geom.specs.declared.shapes.Shape.{Shape}
use Rattle.geom.specs.declared.shapes.Label.{Label}
use Rattle.layout_rules.specs.Rows.{row_of, row_count}
use Rattle.layout_rules.proofs.RowLaws.{row_count-certified}
use Rattle.layout_rules.specs.Pins.{lies_in, LiesIn, stands_in, is_entry, is_exit, entry_count, exit_count}
use Rattle.layout_rules.specs.Labels.{letter_i, letter_o, marks, is_numbered, number_of_label, IsNumbered}
use Rattle.layout_rules.proofs.LabelLaws.{IsNumbered-decimal}
use Rattle.layout_rules.proofs.PlaceLaws.{list_any-at, list_any-place, count_by-once}
use Rattle.layout_rules.specs.Reports.{ReportsNone}
use Rattle.layout_rules.proofs.ReportLaws.{Afterwards-none}
use Rattle.layout_rules.specs.CircuitRules.{is_port, is_port_label, IsNoPortLabel, IsUnlabelledPort, port_count}
use Rattle.layout_rules.specs.CircuitRules.{have_one_name, IsRepeated, IsMisnumbered, LabelsBroken}
use Rattle.rowed.specs.PlacedNets.{PlacedView}
use Rattle.sorting.specs.Numbers.{numbers}
use Rattle.rowed.specs.RowNets.{last_of}
use Rattle.cell_library.specs.Library.{LibraryView}
use Rattle.layout_make.proofs.Lawful.{IsLawful}
use Rattle.layout_make.specs.Sheet.{Tag, shape_of, lower_edge}
use Rattle.layout_make.specs.Tags.{At, sheet, tags}
use Rattle.layout_make.specs.Spots.{Spot, spots, has_port, PortAt}
use Rattle.layout_make.proofs.ReadyNets.{IsReady, PortsAll}
use Rattle.layout_make.specs.declared.marks.Ports.{Ports as Side}
use Rattle.layout_make.specs.declared.marks.Ports.TheVariants.{Inputs, Outputs}
use Rattle.layout_make.proofs.Sides.{pins_on, pin_column, pin_told, pin_layer, layer_on, layer_pin, PinAt, PinPlace}
use Rattle.layout_make.proofs.Sides.{placed_pin}
use Rattle.layout_make.specs.Draw.{labels, input_label, output_label}
use Rattle.layout_make.specs.Marks.{MarksOne}
use Rattle.layout_make.specs.Laws.{Is, flat_shapes}
use Rattle.layout_make.proofs.FlatLaw.{flat_is_tags, labels_flat}
use Rattle.layout_make.proofs.Joins.{to_map}
use Rattle.layout_make.proofs.Counting.{count_numbered}
use Rattle.layout_make.proofs.ChannelWires.{pin_tells}
use Rattle.layout_make.proofs.Origins.{frame_stands}
use Rattle.layout_make.proofs.Whole.{drawn, spot_row}
use Rattle.layout_make.proofs.Labelled.{port_row, ports_on, port_on, label_on, buffer_pin, port_marked}
use Rattle.layout_make.proofs.LineAll.{edges_of}
use Rattle.layout_make.proofs.Cells.{Columns, pin_columns}
use Rattle.layout_make.proofs.Pins.{pin_lies}
use Rattle.layout_make.proofs.KeptCells.{of_lies}
use Rattle.layout_make.proofs.Wiring.{flat, Ports, has_ports, cell_of_pin, same_pin, tag_layer, rows_are, pin_row}

-- where a pin's frame is

module _ (p : PlacedView) (l : LibraryView) (is : IsReady p l) (laws : IsLawful l) (ports : Ports p) where
  pub shape_is : (m : ℕ) (t : Tag) → At (tags p l) m t → Is (flat_shapes p l) m (shape_of (sheet p l) t)
  shape_is m t at = ap (λ (ss : List Shape). slice_get ss m) (flat_is_tags p l laws)
      ∙ to_map (shape_of (sheet p l)) (tags p l) m t at

  pub own_columns : (side : Side) (r k i m : ℕ) (at : PinPlace p l side r k i m)
      → Columns (sheet p l) at.spot.slot at.spot.cell.kind (pin_column l side at.spot i)
  unfolding sheet
  own_columns side r k i m at = pin_columns (sheet p l) laws side at.spot.slot i at.spot.cell.kind
      (is.given r k at.spot at.at) at.below

  -- the frame of a pin's cell
  pub pin_frame : (side : Side) (r k i m : ℕ) → PinAt p l side r k i m → (f : ℕ) × LiesIn (flat_shapes p l) m f
  pin_frame side r k i m pin =
      let at = placed_pin p l side r k i m pin in
      let f = frame_stands p l r at.spot (spot_row p r at.spot (k, at.at)) (k, at.at) in
      let lies = pin_lies (sheet p l) (tags p l) (drawn p l is laws) side f.0 m r at.spot.slot
      (pin_column l side at.spot i) i at.spot.cell.kind f.1 at.tag_at (own_columns side r k i m at) in (
        f.0,
        subst (λ (ss : List Shape). LiesIn ss m f.0) (sym (flat_is_tags p l laws))
            (of_lies _ f.0 m (layer_on side) i (layer_pin side) lies),
      )

  -- the pin stands in its row
  stands : (m f r : ℕ) (a : Shape) → Is (flat_shapes p l) m a → (lies : LiesIn (flat_shapes p l) m f)
      → row_of (flat_shapes p l) lies.frame.rect.y0 ≡ r → stands_in (flat_shapes p l) r a ≡ true
  stands m f r a is_a lies row =
      let same : lies.pin ≡ a = same_Some _ _ (sym lies.pin_is ∙ is_a) in
      list_any-at (λ (frame : Shape). lies_in a frame && row_of (flat_shapes p l) frame.rect.y0 == r) (flat_shapes p l)
      f lies.frame lies.frame_is
      (and_from (lies_in a lies.frame) (row_of (flat_shapes p l) lies.frame.rect.y0 == r)
      (ap (λ (q : Shape). lies_in q lies.frame) (sym same) ∙ lies.lies_so)
      (eq-eqb (row_of (flat_shapes p l) lies.frame.rect.y0) r row))

  stands_frame : (m r : ℕ) (a : Shape) → Is (flat_shapes p l) m a → stands_in (flat_shapes p l) r a ≡ true
      → (f : ℕ) × (lies : LiesIn (flat_shapes p l) m f) × (row_of (flat_shapes p l) lies.frame.rect.y0 ≡ r)
  stands_frame m r a is_a e =
      let h = list_any-place (λ (frame : Shape). lies_in a frame && row_of (flat_shapes p l) frame.rect.y0 == r)
      (flat_shapes p l) e in
      let parts = and_parts (lies_in a h.item) (row_of (flat_shapes p l) h.item.rect.y0 == r) h.passes_so in (
        h.place,
        record { pin = a; frame = h.item; pin_is = is_a; frame_is = h.item_is; lies_so = parts.0 },
        eqb-true
            (row_of (flat_shapes p l) h.item.rect.y0) r parts.1,
      )

  pub rows_count : row_count (flat_shapes p l) ≡ length p.net.rows
  unfolding sheet
  rows_count = row_count-certified (flat_shapes p l) (edges_of (sheet p l)) (rows_are p l is laws)
      ∙ length_map (λ r. pos (lower_edge (sheet p l) r)) (numbers 0 (length p.net.rows))
      ∙ length_numbers 0 (length p.net.rows)
    where
      length_map : {A B : Type 0} (f : A → B) (xs : List A) → length (map f xs) ≡ length xs
      length_map f [] = refl
      length_map f (x ∷ xs) = let k = length_map f xs in omega arith

      length_numbers : (b n : ℕ) → length (numbers b n) ≡ n
      length_numbers b zero = refl
      length_numbers b (suc n) = let k = length_numbers (suc b) n in omega arith

  last_is : row_count (flat_shapes p l) - 1 ≡ last_of p.net.rows
  last_is = ap (λ (n : ℕ). n - 1) rows_count ∙ go (length p.net.rows)
    where
      go : (n : ℕ) → n - 1 ≡ pred n
      go zero = refl
      go (suc n) = omega arith

  -- entries and exits are the pins of the ports

  abbrev row_on : Side → ℕ
  row_on Inputs = 0
  row_on Outputs = row_count (flat_shapes p l) - 1

  -- an entry, or an exit
  abbrev pub is_on : Side → Shape → Bool
  is_on side a = a.layer == layer_on side && stands_in (flat_shapes p l) (row_on side) a

  row_is : (side : Side) → row_on side ≡ port_row p side
  row_is Inputs = refl
  row_is Outputs = last_is

  on_port : (side : Side) (k i m : ℕ) (a : Shape) → PinAt p l side (port_row p side) k i m → Is (flat_shapes p l) m a
      → is_on side a ≡ true
  on_port side k i m a at is_a =
      let row = port_row p side in
      let f = pin_frame side row k i m at in
      let tag = (placed_pin p l side row k i m at).tag_at in
      and_from (a.layer == layer_on side) (stands_in (flat_shapes p l) (row_on side) a)
      (eq-eqb a.layer (layer_on side) (sym (tag_layer p l m _ a laws tag is_a) ∙ pin_layer side row _ i))
      (stands m f.0 (row_on side) a is_a f.1 (pin_row p l is laws side row k i m f.0 at f.1 ∙ sym (row_is side)))

  of_port : (side : Side) (m : ℕ) (a : Shape) → Is (flat_shapes p l) m a → is_on side a ≡ true
      → (k i : ℕ) × PinAt p l side (port_row p side) k i m
  of_port side m a is_a e =
      let parts = and_parts (a.layer == layer_on side) (stands_in (flat_shapes p l) (row_on side) a) e in
      let n = cell_of_pin p l laws side m a is_a (eqb-true a.layer (layer_on side) parts.0) in
      let f = stands_frame m (row_on side) a is_a parts.1 in
      let row : n.row ≡ port_row p side = sym (pin_row p l is laws side n.row n.cell n.pin m f.0 n.pin_at f.1) ∙ f.2
      ∙ row_is side in
      (n.cell, n.pin, subst (λ (r : ℕ). PinAt p l side r n.cell n.pin m) row n.pin_at)

  -- the pins of the ports have the ports' numbers

  abbrev pub IsPortPin : Side → ℕ → ℕ → Type 0
  IsPortPin side m n =
      (k : ℕ) × PortAt p (port_on side) (port_row p side) n k × PinAt p l side (port_row p side) k 0 m

  all_ports : (side : Side) → PortsAll p (port_on side) (λ c. pins_on side c.kind) (port_row p side) (ports_on p side)
  all_ports Inputs = ports.all_inputs
  all_ports Outputs = ports.all_outputs

  one_port : (o : Option ℕ) (m n : ℕ) → has_port o m ≡ true → has_port o n ≡ true → m ≡ n
  one_port None m n a b = absurd cc
  one_port (Some k) m n a b = sym (eqb-true k m a) ∙ eqb-true k n b

  pin_cell : (side : Side) (r k j i q m : ℕ) → PinAt p l side r k i m → PinAt p l side r j q m → k ≡ j
  pin_cell side r k j i q m x y =
      let a = placed_pin p l side r k i m x in
      let b = placed_pin p l side r j q m y in
      (pin_tells l laws side (spots p r) (is.given r) k j i q a.spot b.spot (is.packed r) a.at b.at a.below b.below
      (pin_told side side r _ _ r _ _ (same_Some _ _ (sym a.tag_at ∙ b.tag_at))).2).0

  one_number : (side : Side) (m a b : ℕ) → IsPortPin side m a → IsPortPin side m b → a ≡ b
  one_number side m a b x y =
      let row = port_row p side in
      let cell = pin_cell side row x.0 y.0 0 0 m x.2 y.2 in
      let same : x.1.spot ≡ y.1.spot = same_Some _ _
      (sym x.1.at ∙ ap (λ (n : ℕ). slice_get (spots p row) n) cell ∙ y.1.at) in
      one_port (port_on side y.1.spot.cell) a b (ap (λ (z : Spot). has_port (port_on side z.cell) a) (sym same)
      ∙ x.1.has) y.1.has

  one_place : (side : Side) (m j n : ℕ) → IsPortPin side m n → IsPortPin side j n → m ≡ j
  one_place side m j n x y =
      let cell : x.0 ≡ y.0 = (has_ports p ports side).once n x.0 y.0 x.1.spot y.1.spot x.1.at y.1.at x.1.has y.1.has in
      same_pin p l (drawn p l is laws) side (port_row p side) y.0 0 m j
      (subst (λ (k : ℕ). PinAt p l side (port_row p side) k 0 m) cell x.2) y.2

  pub input_one_pin : (m j n : ℕ) → IsPortPin Inputs m n → IsPortPin Inputs j n → m ≡ j
  input_one_pin = one_place Inputs

  -- the number of an entry, and of an exit
  port_number : (side : Side) (m : ℕ) (a : Shape) → Is (flat_shapes p l) m a → is_on side a ≡ true
      → (n : ℕ) × (n < ports_on p side) × IsPortPin side m n
  port_number side m a is_a e =
      let row = port_row p side in
      let h = of_port side m a is_a e in
      let at = placed_pin p l side row h.0 h.1 m h.2 in
      let below = at.below in
      let port = all_ports side h.0 at.spot at.at (omega arith) in
      let zero_pin : h.1 ≡ 0 = (let b : h.1 < pins_on side Buffer = subst (λ (k : CellKind). h.1 < pins_on side k)
      port.3 below in let one = buffer_pin side in omega arith) in (
        port.0,
        port.1,
        (
          h.0,
          record { spot = at.spot; at = at.at; has = port.2; buffer = port.3 },
          subst (λ (i : ℕ). PinAt p l side row h.0 i m) zero_pin h.2,
        ),
      )

  ports_are : (side : Side) → count_by (is_on side) (flat_shapes p l) ≡ ports_on p side
  ports_are side = count_numbered (IsPortPin side) (one_place side) (one_number side) (is_on side) (flat_shapes p l)
      (ports_on p side) (port_number side)
      (λ n lt. let mark = port_marked p l is laws side (has_ports p ports side) n lt in (
        mark.1,
        mark.4.pin,
        mark.4.pin_is,
        on_port side mark.0 0 mark.1 mark.4.pin mark.3 mark.4.pin_is,
        (mark.0, mark.2, mark.3),
      ))

  pub entries_are : entry_count (flat_shapes p l) ≡ p.net.inputs
  entries_are = ports_are Inputs

  pub exits_are : exit_count (flat_shapes p l) ≡ p.net.outputs
  exits_are = ports_are Outputs

  -- the labels by their places

  -- outputs stand after the inputs
  abbrev label_place : Side → ℕ → ℕ
  label_place Inputs n = n
  label_place Outputs n = p.net.inputs + n

  data LabelAt (q : ℕ) (b : Label) : Type 0 where
    OfPort : (side : Side) (n : ℕ) → n < ports_on p side → q ≡ label_place side n → b ≡ label_on p l side n
        → LabelAt q b

  at_append : (xs ys : List Label) (q : ℕ) (b : Label) → slice_get (xs ++ ys) q ≡ Some b → (slice_get xs q ≡ Some b)
      ⊎ ((n : ℕ) × (q ≡ length xs + n) × (slice_get ys n ≡ Some b))
  at_append [] ys q b e = inr (q, omega arith, e)
  at_append (x ∷ xs) ys zero b e = inl e
  at_append (x ∷ xs) ys (suc q) b e =
      elim (at_append xs ys q b e) [ inl h ↦ inl h | inr h ↦ inr (h.0, (let k = h.1 in omega arith), h.2) ]

  at_number : (f : ℕ → Label) (k n q : ℕ) (b : Label) → slice_get (map f (numbers k n)) q ≡ Some b
      → (q < n) × (b ≡ f (k + q))
  at_number f k zero q b e = absurd cc
  at_number f k (suc n) zero b e = (omega arith, sym (same_Some _ _ e) ∙ ap f (omega arith))
  at_number f k (suc n) (suc q) b e = let h = at_number f (suc k) n q b e in
      ((let lt = h.0 in omega arith), h.1 ∙ ap f (omega arith))

  long : (f : ℕ → Label) (k n : ℕ) → length (map f (numbers k n)) ≡ n
  long f k zero = refl
  long f k (suc n) = let h = long f (suc k) n in omega arith

  label_at : (q : ℕ) (b : Label) → slice_get (flat p l).labels q ≡ Some b → LabelAt q b
  label_at q b e =
      elim (at_append (map (input_label p l) (numbers 0 p.net.inputs))
      (map (output_label p l) (numbers 0 p.net.outputs)) q b
      (ap (λ (bs : List Label). slice_get bs q) (sym (labels_flat p l)) ∙ e)) [
        | inl h ↦ let k = at_number (input_label p l) 0 p.net.inputs q b h in
            OfPort Inputs q k.0 refl (k.1 ∙ ap (input_label p l) (omega arith))
        | inr h ↦ let k = at_number (output_label p l) 0 p.net.outputs h.0 b h.2 in
            OfPort Outputs h.0 k.0 (h.1 ∙ ap (λ (n : ℕ). n + h.0) (long (input_label p l) 0 p.net.inputs))
            (k.1 ∙ ap (output_label p l) (omega arith))
      ]

  number_at : (f : ℕ → Label) (k n q : ℕ) → q < n → slice_get (map f (numbers k n)) q ≡ Some (f (k + q))
  number_at f k zero q lt = absurd (omega arith)
  number_at f k (suc n) zero lt = ap (λ (m : ℕ). Some (f m)) (omega arith)
  number_at f k (suc n) (suc q) lt = number_at f (suc k) n q (omega arith) ∙ ap (λ (m : ℕ). Some (f m)) (omega arith)

  append_left : (xs ys : List Label) (q : ℕ) (b : Label) → slice_get xs q ≡ Some b → slice_get (xs ++ ys) q ≡ Some b
  append_left [] ys q b e = absurd cc
  append_left (x ∷ xs) ys zero b e = e
  append_left (x ∷ xs) ys (suc q) b e = append_left xs ys q b e

  append_right : (xs ys : List Label) (q : ℕ) (b : Label) → slice_get ys q ≡ Some b
      → slice_get (xs ++ ys) (length xs + q) ≡ Some b
  append_right [] ys q b e = ap (λ (n : ℕ). slice_get ys n) (omega arith) ∙ e
  append_right (x ∷ xs) ys q b e =
      ap (λ (n : ℕ). slice_get (x ∷ (xs ++ ys)) n) (let k : suc (length xs) + q ≡ suc (length xs + q) = omega arith in
      k) ∙ append_right xs ys q b e

  pub input_label_at : (n : ℕ) → n < p.net.inputs → slice_get (flat p l).labels n ≡ Some (input_label p l n)
  input_label_at n lt =
      ap (λ (bs : List Label). slice_get bs n) (labels_flat p l)
      ∙ append_left (map (input_label p l) (numbers 0 p.net.inputs)) (map (output_label p l) (numbers 0 p.net.outputs))
      n (input_label p l n) (number_at (input_label p l) 0 p.net.inputs n lt
      ∙ ap (λ (m : ℕ). Some (input_label p l m)) (omega arith))

  pub output_label_at : (n : ℕ) → n < p.net.outputs → slice_get (flat p l).labels (p.net.inputs + n) ≡ Some
      (output_label p l n)
  output_label_at n lt =
      ap (λ (bs : List Label). slice_get bs (p.net.inputs + n)) (labels_flat p l)
      ∙ ap (λ (m : ℕ). slice_get (labels p l) (m + n)) (sym (long (input_label p l) 0 p.net.inputs))
      ∙ append_right (map (input_label p l) (numbers 0 p.net.inputs))
      (map (output_label p l) (numbers 0 p.net.outputs)) n (output_label p l n)
      (number_at (output_label p l) 0 p.net.outputs n lt ∙ ap (λ (m : ℕ). Some (output_label p l m)) (omega arith))

  module _ (few_inputs : p.net.inputs < 2 ^ 64) (few_outputs : p.net.outputs < 2 ^ 64) where
    pub input_numbered : (n : ℕ) → n < p.net.inputs → IsNumbered (input_label p l n) letter_i n
    input_numbered n lt = IsNumbered-decimal (input_label p l n) letter_i n (omega arith) refl

    pub output_numbered : (n : ℕ) → n < p.net.outputs → IsNumbered (output_label p l n) letter_o n
    output_numbered n lt = IsNumbered-decimal (output_label p l n) letter_o n (omega arith) refl

    label_numbered : (side : Side) (n : ℕ) → n < ports_on p side
        → (is_numbered (label_on p l side n) ≡ true) × (number_of_label (label_on p l side n) ≡ n)
    label_numbered Inputs n lt = let k = input_numbered n lt in (k.decimal_so, k.number_is)
    label_numbered Outputs n lt = let k = output_numbered n lt in (k.decimal_so, k.number_is)

    label_there : (side : Side) (n : ℕ) → n < ports_on p side
        → slice_get (flat p l).labels (label_place side n) ≡ Some (label_on p l side n)
    label_there Inputs = input_label_at
    label_there Outputs = output_label_at

    side_port : (side : Side) (a : Shape) → is_on side a ≡ true → is_port (flat_shapes p l) a ≡ true
    side_port Inputs a e = or_left (is_entry (flat_shapes p l) a) (is_exit (flat_shapes p l) a) e
    side_port Outputs a e = or_right (is_entry (flat_shapes p l) a) (is_exit (flat_shapes p l) a) e

    port_side : (a : Shape) → is_port (flat_shapes p l) a ≡ true → (side : Side) × (is_on side a ≡ true)
    port_side a e = elim (or_cases (is_entry (flat_shapes p l) a) (is_exit (flat_shapes p l) a) e)
        [ inl entry ↦ (Inputs, entry) | inr exit ↦ (Outputs, exit) ]

    -- a label on one pin, which is a port
    marked_port : (b : Label) (m : ℕ) → is_numbered b ≡ true → (mark : MarksOne (flat_shapes p l) b m)
        → is_port (flat_shapes p l) mark.pin ≡ true → is_port_label (flat_shapes p l) b ≡ true
    marked_port b m num mark port =
        and_from (is_numbered b && count_by (marks b) (flat_shapes p l) == 1)
        (list_any (λ (pin : Shape). marks b pin && is_port (flat_shapes p l) pin) (flat_shapes p l))
        (and_from (is_numbered b) (count_by (marks b) (flat_shapes p l) == 1) num
        (eq-eqb (count_by (marks b) (flat_shapes p l)) 1
        (count_by-once (marks b) (flat_shapes p l) m mark.pin mark.pin_is mark.marked mark.only)))
        (list_any-at (λ (pin : Shape). marks b pin && is_port (flat_shapes p l) pin) (flat_shapes p l) m mark.pin
        mark.pin_is (and_from (marks b mark.pin) (is_port (flat_shapes p l) mark.pin) mark.marked port))

    port_label : (q : ℕ) (b : Label) → LabelAt q b → is_port_label (flat_shapes p l) b ≡ true
    port_label q b (OfPort side n lt at e) =
        let mark = port_marked p l is laws side (has_ports p ports side) n lt in
        ap (is_port_label (flat_shapes p l)) e ∙ marked_port (label_on p l side n) mark.1 (label_numbered side n lt).0
        mark.4 (side_port side mark.4.pin (on_port side mark.0 0 mark.1 mark.4.pin mark.3 mark.4.pin_is))

    labels_stand : (a : ℕ) → IsNoPortLabel (flat p l) a → ⊥
    labels_stand a h = both_ways (is_port_label (flat_shapes p l) h.at.label) h.not_so
        (port_label h.at.place h.at.label (label_at h.at.place h.at.label h.at.label_is))

    -- the port of a marked pin
    port_mark : (side : Side) (m n : ℕ) (a : Shape) (lt : n < ports_on p side) → Is (flat_shapes p l) m a
        → marks (label_on p l side n) a ≡ true → IsPortPin side m n
    port_mark side m n a lt is_a e =
        let mark = port_marked p l is laws side (has_ports p ports side) n lt in (
          mark.0,
          mark.2,
          subst (λ (k : ℕ). PinAt p l side (port_row p side) mark.0 0 k) (sym (mark.4.only m a is_a e)) mark.3,
        )

    one_side : (a b : Side) (m n k : ℕ) → IsPortPin a m n → IsPortPin b m k → a ≡ b
    one_side a b m n k x y =
        let f = placed_pin p l a (port_row p a) x.0 0 m x.2 in
        let g = placed_pin p l b (port_row p b) y.0 0 m y.2 in
        (pin_told a b _ _ _ _ _ _ (same_Some _ _ (sym f.tag_at ∙ g.tag_at))).0

    one_label : (m : ℕ) (a : Shape) → Is (flat_shapes p l) m a → is_port (flat_shapes p l) a ≡ true
        → count_by (λ label. marks label a) (flat p l).labels ≡ 1
    one_label m a is_a e =
        let c = port_side a e in
        let side = c.0 in
        let n = port_number side m a is_a c.1 in
        let mark = port_marked p l is laws side (has_ports p ports side) n.0 n.1 in
        let pin : m ≡ mark.1 = one_place side m mark.1 n.0 n.2 (mark.0, mark.2, mark.3) in
        let shape : mark.4.pin ≡ a = same_Some _ _
        (sym mark.4.pin_is ∙ ap (λ (k : ℕ). slice_get (flat_shapes p l) k) (sym pin) ∙ is_a) in
        count_by-once (λ (label : Label). marks label a) (flat p l).labels (label_place side n.0)
        (label_on p l side n.0) (label_there side n.0 n.1) (ap (marks (label_on p l side n.0)) (sym shape)
        ∙ mark.4.marked) (λ q b is_b t. only side n.0 n.2 q b (label_at q b is_b) t)
      where
        only : (side : Side) (n : ℕ) → IsPortPin side m n → (q : ℕ) (b : Label) → LabelAt q b → marks b a ≡ true
            → q ≡ label_place side n
        only side n x q b (OfPort other k lt at e) t =
            let y = port_mark other m k a lt is_a (ap (λ (z : Label). marks z a) (sym e) ∙ t) in
            subst (λ (z : Side). IsPortPin z m k → q ≡ label_place z k → q ≡ label_place side n)
            (one_side side other m n k x y) (λ y at. at ∙ ap (label_place side) (one_number side m k n y x)) y at

    ports_labelled : (a : ℕ) → IsUnlabelledPort (flat p l) a → ⊥
    ports_labelled a h = h.not_one (one_label a h.port.shape h.port.shape_is h.port.passes_so)

    counted : (side : Side) (n : ℕ) → port_count (flat_shapes p l) (label_on p l side n) ≡ ports_on p side
    counted Inputs n = entries_are
    counted Outputs n = exits_are

    letters_told : (a b : Side) (n m : ℕ) → slice_index (label_on p l a n).text 0 ≡ slice_index (label_on p l b m).text
        0 → a ≡ b
    letters_told Inputs Inputs n m e = refl
    letters_told Outputs Outputs n m e = refl
    letters_told Inputs Outputs n m e = absurd (omega arith)
    letters_told Outputs Inputs n m e = absurd (omega arith)

    well_numbered : (q : ℕ) (b : Label) → LabelAt q b → (port_count (flat_shapes p l) b ≤ number_of_label b)
        ⊎ IsRepeated (flat p l) q b → ⊥
    well_numbered q b (OfPort side n lt at e) (inl more) =
        let count : port_count (flat_shapes p l) b ≡ ports_on p side = ap (port_count (flat_shapes p l)) e
        ∙ counted side n in
        let number : number_of_label b ≡ n = ap number_of_label e ∙ (label_numbered side n lt).1 in
        absurd (omega arith)
    well_numbered q b at (inr h) = repeated q b at h.earlier h.other (label_at h.earlier h.other h.other_is) h.before
        h.one_name
      where
        place_less : (side : Side) (n m : ℕ) → m ≡ n → label_place side m < label_place side n → ⊥
        place_less side n m e less = let k = ap (label_place side) e in omega arith

        repeated : (q : ℕ) (b : Label) → LabelAt q b → (r : ℕ) (c : Label) → LabelAt r c → r < q
            → have_one_name c b ≡ true → ⊥
        repeated q b (OfPort side n lq at eq) r c (OfPort other m lr ar er) less same =
            let k = and_parts (slice_index c.text 0 == slice_index b.text 0) (number_of_label c == number_of_label b)
            same in
            let letter : slice_index c.text 0 ≡ slice_index b.text 0 = eqb-true (slice_index c.text 0)
            (slice_index b.text 0) k.0 in
            let number : number_of_label c ≡ number_of_label b = eqb-true (number_of_label c) (number_of_label b) k.1 in
            let told = letters_told side other n m (sym (ap (λ (z : Label). slice_index z.text 0) eq) ∙ sym letter
            ∙ ap (λ (z : Label). slice_index z.text 0) er) in
            let x : number_of_label b ≡ n = ap number_of_label eq ∙ (label_numbered side n lq).1 in
            let y : number_of_label c ≡ m = ap number_of_label er ∙ (label_numbered other m lr).1 in
            let less : label_place other m < label_place side n = omega arith in
            place_less side n m (omega arith)
            (subst (λ (z : Side). label_place z m < label_place side n) (sym told) less)

    numbers_kept : (a : ℕ) → IsMisnumbered (flat p l) a → ⊥
    numbers_kept a h = well_numbered h.at.place h.at.label (label_at h.at.place h.at.label h.at.label_is) h.wrong

    alone : {P : ℕ → Type 0} → ((a : ℕ) → P a → ⊥) → (a b : ℕ) → P a × (b ≡ a) → ⊥
    alone none a b h = none a h.0

    pub labels_kept : ReportsNone (LabelsBroken (flat p l))
    labels_kept =
        Afterwards-none _ _ (alone labels_stand) (Afterwards-none _ _ (alone ports_labelled) (alone numbers_kept))
