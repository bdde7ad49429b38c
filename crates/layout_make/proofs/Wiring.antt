-- What is kept of the rules of nets and of rows, as the rules report it.
use Rattle.std.proofs.Common.{◌≡◌, ℕ, zero, suc, ◌<◌, true, ◌||◌, ◌==◌, refl, sym, ap, subst, ◌∙◌, arith, ◌⊎◌, inl, inr}
use Rattle.std.proofs.Common.{List, map, Some, slice_get}
use Rattle.std.proofs.lemmas.Option.{same_Some}
use Rattle.std.proofs.lemmas.Bool.{both_ways, or_cases, eqb-true}
use Rattle.circuit.specs.declared.cell_kind.CellKind.{CellKind}
use Rattle.circuit.specs.CellKinds.{inputs_of, outputs_of}
use Rattle.geom.specs.declared.shapes.Shape.{Shape}
use Rattle.geom.specs.declared.shapes.Label.{Label}
use Rattle.geom.specs.declared.shapes.Flat.{Flat}
use Rattle.geom.specs.FlatForm.{flat_of}
use Rattle.layout_rules.proofs.NetLaws.{Joined-back}
use Rattle.layout_rules.specs.Rows.{AreRows, row_of}
use Rattle.layout_rules.proofs.RowLaws.{row_of-certified}
use Rattle.layout_rules.specs.Pins.{LiesIn}
use Rattle.layout_rules.specs.Labels.{marks, is_labelled}
use Rattle.layout_rules.proofs.PlaceLaws.{list_any-at, list_any-place}
use Rattle.layout_rules.specs.Reports.{ReportsNone}
use Rattle.layout_rules.specs.CircuitRules.{HasRival, IsUndriven, IsDriven, NetsBroken, RowsBroken}
use Rattle.rowed.specs.PlacedNets.{PlacedView}
use Rattle.sorting.specs.Numbers.{numbers}
use Rattle.rowed.specs.RowNets.{last_of}
use Rattle.cell_library.specs.Library.{LibraryView}
use Rattle.layout_make.proofs.Lawful.{IsLawful}
use Rattle.layout_make.specs.Sheet.{Tag, Frame, OutPin, layer_of, shape_of}
use Rattle.layout_make.specs.Tags.{At, sheet, tags}
use Rattle.layout_make.specs.declared.marks.Ports.{Ports as Side}
use Rattle.layout_make.specs.declared.marks.Ports.TheVariants.{Inputs, Outputs}
use Rattle.layout_make.proofs.Sides.{pin_column, pin_tag, pin_told, pin_layer, layer_on}
use Rattle.layout_make.proofs.Sides.{PinAt, placed_pin, pin_placed}
use Rattle.layout_make.proofs.SheetKeeps.{IsDrawn}
use Rattle.layout_make.specs.Spots.{Spot, input_port, output_port}
use Rattle.layout_make.proofs.ReadyNets.{IsReady, HasPorts, PortsAll}
use Rattle.layout_make.specs.Channel.{out_column}
use Rattle.layout_make.specs.Draw.{draw, labels, input_label, output_label}
use Rattle.layout_make.specs.Laws.{Is, flat_shapes, InAt, OutAt}
use Rattle.layout_make.proofs.KeptRules as kept
use Rattle.layout_make.proofs.FlatLaw.{flat_is_tags, labels_flat}
use Rattle.layout_make.proofs.Joins.{to_map}
use Rattle.layout_make.proofs.Member.{In, in_append, in_map, map_in, in_left, in_upto, upto_in}
use Rattle.layout_make.proofs.Whole.{drawn, has_cells, pin_from}
use Rattle.layout_make.proofs.Labelled.{port_row, ports_on, port_on, label_on, port_marked}
use Rattle.layout_make.proofs.DrawnRules.{pin_tag_at}
use Rattle.layout_make.proofs.WiresJoined.{wires_joined}
use Rattle.layout_make.proofs.LineAll.{shape_at, at_edge, edges_of, drawn_rows}
use Rattle.layout_make.proofs.Pins.{pin_of}
use Rattle.layout_make.proofs.KeptCells.{lies_of}

abbrev pub flat : PlacedView → LibraryView → Flat
flat p l = flat_of (draw p l)

-- a pin by its cell
pub record PinNumber (p : PlacedView) (l : LibraryView) (side : Side) (m : ℕ) : Type 0 where
  pub row : ℕ
  pub cell : ℕ
  pub pin : ℕ
  pub pin_at : PinAt p l side row cell pin m

pub cell_of_pin : (p : PlacedView) (l : LibraryView) → IsLawful l → (side : Side) (i : ℕ) (a : Shape)
    → Is (flat_shapes p l) i a → a.layer ≡ layer_on side → PinNumber p l side i
cell_of_pin p l laws side i a at e =
    let u = pin_tag_at (sheet p l) (tags p l) side i a
    (subst (λ (ss : List Shape). Is ss i a) (flat_is_tags p l laws) at) e in
    let f = pin_from p l side i u.0 u.1 u.2 u.3 in
    record {
      row = u.0;
      cell = f.place.0;
      pin = u.2;
      pin_at = pin_placed p l side u.0 f.place.0 u.2 i
          (record {
            spot = f.spot;
            at = f.place.1;
            below = f.below;
            tag_at = subst (λ (c : ℕ). At (tags p l) i (pin_tag side u.0 c u.2)) f.column_so u.3;
          });
    }

-- an input pin by its cell
pub record InputNumber (p : PlacedView) (l : LibraryView) (m : ℕ) : Type 0 where
  pub row : ℕ
  pub cell : ℕ
  pub pin : ℕ
  pub in_at : InAt p l row cell pin m

pub input_number : (p : PlacedView) (l : LibraryView) → IsLawful l → (i : ℕ) (a : Shape) → Is (flat_shapes p l) i a
    → a.layer ≡ 21 → InputNumber p l i
input_number p l laws i a at e = let n = cell_of_pin p l laws Inputs i a at e in
    record { row = n.row; cell = n.cell; pin = n.pin; in_at = n.pin_at }

-- the labels of a drawing

label_cases : (p : PlacedView) (l : LibraryView) (b : Label) → In b (labels p l)
    → (side : Side) × (n : ℕ) × (n < ports_on p side) × (b ≡ label_on p l side n)
label_cases p l b h =
    elim (in_append b (map (input_label p l) (numbers 0 p.net.inputs))
    (map (output_label p l) (numbers 0 p.net.outputs)) h) [
      | inl k ↦ let m = in_map (input_label p l) b (numbers 0 p.net.inputs) k in
          (Inputs, m.0, in_upto p.net.inputs m.0 m.1, m.2)
      | inr k ↦ let m = in_map (output_label p l) b (numbers 0 p.net.outputs) k in
          (Outputs, m.0, in_upto p.net.outputs m.0 m.1, m.2)
    ]

input_label_in : (p : PlacedView) (l : LibraryView) (n : ℕ) → n < p.net.inputs → In (input_label p l n) (labels p l)
input_label_in p l n lt = in_left (input_label p l n) (map (input_label p l) (numbers 0 p.net.inputs))
    (map (output_label p l) (numbers 0 p.net.outputs))
    (map_in (input_label p l) n (numbers 0 p.net.inputs) (upto_in p.net.inputs n lt))

-- what is asked of the ports
pub record Ports (p : PlacedView) : Type 0 where
  pub inputs : HasPorts p input_port 0 p.net.inputs
  pub outputs : HasPorts p output_port (last_of p.net.rows) p.net.outputs
  pub all_inputs : PortsAll p input_port (λ c. inputs_of c.kind) 0 p.net.inputs
  pub all_outputs : PortsAll p output_port (λ c. outputs_of c.kind) (last_of p.net.rows) p.net.outputs

pub has_ports : (p : PlacedView) → Ports p → (side : Side)
    → HasPorts p (port_on side) (port_row p side) (ports_on p side)
has_ports p ports Inputs = ports.inputs
has_ports p ports Outputs = ports.outputs

-- one pin has one number
pub same_pin : (p : PlacedView) (l : LibraryView) → IsDrawn (sheet p l) (tags p l) → (side : Side) (r k i a b : ℕ)
    → PinAt p l side r k i a → PinAt p l side r k i b → a ≡ b
same_pin p l is side r k i a b x y =
    let f = placed_pin p l side r k i a x in
    let g = placed_pin p l side r k i b y in
    let e : f.spot ≡ g.spot = same_Some _ _ (sym f.at ∙ g.at) in
    is.once a b (pin_tag side r (pin_column l side g.spot i) i)
    (subst (λ (x : Spot). At (tags p l) a (pin_tag side r (pin_column l side x i) i)) e f.tag_at) g.tag_at

-- the inputs of the first row are labelled
pub row_labelled : (p : PlacedView) (l : LibraryView) → IsReady p l → IsLawful l → Ports p → (k i m : ℕ) (a : Shape)
    → InAt p l 0 k i m → Is (flat_shapes p l) m a → is_labelled (flat p l) a ≡ true
row_labelled p l is laws ports k i m a at is_a =
    let below = at.input.below in
    let port = ports.all_inputs k at.spot at.input.at (omega arith) in
    let mark = port_marked p l is laws Inputs ports.inputs port.0 port.1 in
    let cell : mark.0 ≡ k = ports.inputs.once port.0 mark.0 k mark.2.spot at.spot mark.2.at at.input.at mark.2.has
    port.2 in
    let zero_pin : i ≡ 0 = (let b : i < 1 = subst (λ (n : CellKind). i < inputs_of n) port.3 below in omega arith) in
    let there : InAt p l 0 k 0 mark.1 = subst (λ (n : ℕ). InAt p l 0 n 0 mark.1) cell mark.3 in
    let here : InAt p l 0 k 0 m = subst (λ (n : ℕ). InAt p l 0 k n m) zero_pin at in
    let e : m ≡ mark.1 = same_pin p l (drawn p l is laws) Inputs 0 k 0 m mark.1 here there in
    let shape : mark.4.pin ≡ a = same_Some _ _
    (sym mark.4.pin_is ∙ ap (λ (n : ℕ). slice_get (flat_shapes p l) n) (sym e) ∙ is_a) in
    let found = input_label_in p l port.0 port.1 in
    list_any-at (λ (label : Label). marks label a) (flat p l).labels found.0 (input_label p l port.0)
    (ap (λ (bs : List Label). slice_get bs found.0) (labels_flat p l) ∙ found.1)
    (ap (λ (x : Shape). marks (input_label p l port.0) x) (sym shape) ∙ mark.4.marked)

pub tag_layer : (p : PlacedView) (l : LibraryView) (m : ℕ) (t : Tag) (a : Shape) → IsLawful l → At (tags p l) m t
    → Is (flat_shapes p l) m a → layer_of t ≡ a.layer
tag_layer p l m t a laws at is_a =
    ap (λ (x : Shape). x.layer)
    (shape_at (sheet p l) (tags p l) m t a at (subst (λ (ss : List Shape). Is ss m a) (flat_is_tags p l laws) is_a))

-- a labelled input is one of the first row
pub labelled_row : (p : PlacedView) (l : LibraryView) → IsReady p l → IsLawful l → Ports p → (r k i m : ℕ) (a : Shape)
    → InAt p l r k i m → Is (flat_shapes p l) m a → a.layer ≡ 21 → is_labelled (flat p l) a ≡ true → r ≡ 0
labelled_row p l is laws ports r k i m a at is_a la lab =
    let h = list_any-place (λ (label : Label). marks label a) (flat p l).labels lab in
    let x = label_cases p l h.item
    (h.place, ap (λ (bs : List Label). slice_get bs h.place) (sym (labels_flat p l)) ∙ h.item_is) in
    let mark = port_marked p l is laws x.0 (has_ports p ports x.0) x.1 x.2 in
    let e : m ≡ mark.1 = mark.4.only m a is_a (ap (λ (b : Label). marks b a) (sym x.3) ∙ h.passes_so) in
    let there = placed_pin p l x.0 (port_row p x.0) mark.0 0 mark.1 mark.3 in
    let told = pin_told Inputs x.0 r _ _ _ _ _
    (same_Some _ _ (sym at.at ∙ ap (λ (n : ℕ). slice_get (tags p l) n) e ∙ there.tag_at)) in
    told.1 ∙ sym (ap (port_row p) told.0)

-- nets

pin_layers : (n : ℕ) → (n == 21 || n == 22) ≡ true → (n ≡ 21) ⊎ (n ≡ 22)
pin_layers n e = elim (or_cases (n == 21) (n == 22) e) [ inl h ↦ inl (eqb-true n 21 h) | inr h ↦ inr (eqb-true n 22 h) ]

no_rival : (p : PlacedView) (l : LibraryView) → IsReady p l → IsLawful l → (a b : ℕ) → HasRival (flat_shapes p l) a b
    → ⊥
no_rival p l is laws a b h =
    let law = wires_joined p l is laws in
    elim (pin_layers h.pin.shape.layer h.pin.passes_so) [
      | inl e ↦ h.apart (law.one_input a b h.pin.shape h.other h.pin.shape_is h.other_is e (sym h.one_layer ∙ e)
          h.joined)
      | inr e ↦ h.apart (law.one_output a b h.pin.shape h.other h.pin.shape_is h.other_is e (sym h.one_layer ∙ e)
          h.joined)
    ]

driven : (p : PlacedView) (l : LibraryView) → IsReady p l → IsLawful l → Ports p → (a : ℕ) → IsUndriven (flat p l) a → ⊥
driven p l is laws ports a h = go n.row n.in_at
  where
    n : InputNumber p l a
    n = input_number p l laws a h.input.pin h.input.pin_is h.input.of_layer

    go : (r : ℕ) → InAt p l r n.cell n.pin a → ⊥
    go zero at = both_ways (is_labelled (flat p l) h.input.pin) h.input.labelled_so
        (row_labelled p l is laws ports n.cell n.pin a h.input.pin at h.input.pin_is)
    go (suc r) at =
        let d = (wires_joined p l is laws).drives r n.cell n.pin a at in
        let out = shape_of (sheet p l) (OutPin r (out_column l d.out_at.spot d.source.output) d.source.output) in
        h.none d.pin
        (record {
          pin = out;
          pin_is = ap (λ (ss : List Shape). slice_get ss d.pin) (flat_is_tags p l laws)
              ∙ to_map (shape_of (sheet p l)) (tags p l) d.pin _ d.out_at.at;
          of_layer = refl;
          joined = Joined-back (flat_shapes p l) d.pin a d.joined;
        })

not_driven : (p : PlacedView) (l : LibraryView) → IsReady p l → IsLawful l → Ports p → (a b : ℕ)
    → IsDriven (flat p l) a b → ⊥
not_driven p l is laws ports a b h =
    let n = input_number p l laws a h.input.pin h.input.pin_is h.input.of_layer in
    let row = labelled_row p l is laws ports n.row n.cell n.pin a h.input.pin n.in_at h.input.pin_is h.input.of_layer
    h.input.labelled_so in
    (wires_joined p l is laws).lone n.cell n.pin a b h.source.pin
    (subst (λ (r : ℕ). InAt p l r n.cell n.pin a) row n.in_at) h.source.pin_is h.source.of_layer
    (Joined-back (flat_shapes p l) a b h.source.joined)

pub nets_kept : (p : PlacedView) (l : LibraryView) → IsReady p l → IsLawful l → Ports p
    → ReportsNone (NetsBroken (flat p l))
nets_kept p l is laws ports a b (inl h) = no_rival p l is laws a b h
nets_kept p l is laws ports a b (inr (none, (inl h))) = driven p l is laws ports a h.0
nets_kept p l is laws ports a b (inr (none, (inr h))) = not_driven p l is laws ports a b h.1

-- rows

pub rows_are : (p : PlacedView) (l : LibraryView) → IsReady p l → IsLawful l
    → AreRows (flat_shapes p l) (edges_of (sheet p l))
rows_are p l is laws = subst (λ (ss : List Shape). AreRows ss (edges_of (sheet p l))) (sym (flat_is_tags p l laws))
    (drawn_rows (sheet p l) (tags p l) (drawn p l is laws) (has_cells p l is laws))

pub frame_row : (p : PlacedView) (l : LibraryView) → IsReady p l → IsLawful l
    → (f r slot : ℕ) (k : CellKind) (frame : Shape) → At (tags p l) f (Frame r slot k) → Is (flat_shapes p l) f frame
    → row_of (flat_shapes p l) frame.rect.y0 ≡ r
frame_row p l is laws f r slot k frame at is_f =
    let shape = shape_at (sheet p l) (tags p l) f (Frame r slot k) frame at
    (subst (λ (ss : List Shape). Is ss f frame) (flat_is_tags p l laws) is_f) in
    let fits = (drawn p l is laws).fits f (Frame r slot k) at in
    row_of-certified (flat_shapes p l) (edges_of (sheet p l)) (rows_are p l is laws) r frame.rect.y0
    (at_edge (sheet p l) r fits.0 ∙ ap (λ (s : Shape). Some s.rect.y0) shape)

-- a pin's frame is of the pin's row
pub pin_row : (p : PlacedView) (l : LibraryView) → IsReady p l → IsLawful l → (side : Side) (r k i a f : ℕ)
    → PinAt p l side r k i a → (lies : LiesIn (flat_shapes p l) a f)
    → row_of (flat_shapes p l) lies.frame.rect.y0 ≡ r
pin_row p l is laws side r k i a f pin lies =
    let at = placed_pin p l side r k i a pin in
    let h = subst (λ (ss : List Shape). kept.LiesIn ss f a lies.pin.layer lies.pin.datatype) (flat_is_tags p l laws)
    (lies_of (flat_shapes p l) a f lies) in
    let layer : lies.pin.layer ≡ layer_on side = sym (tag_layer p l a _ lies.pin laws at.tag_at lies.pin_is)
    ∙ pin_layer side r (pin_column l side at.spot i) i in
    let x = pin_of (sheet p l) (tags p l) (drawn p l is laws) side f a lies.pin.datatype
    (subst (λ (n : ℕ). kept.LiesIn _ f a n lies.pin.datatype) layer h) in
    frame_row p l is laws f x.row x.slot x.kind lies.frame x.frame_at lies.frame_is
    ∙ (pin_told side side x.row _ _ r _ _ (same_Some _ _ (sym x.pin_at ∙ at.tag_at))).1

pub wires_up : (p : PlacedView) (l : LibraryView) → IsReady p l → IsLawful l → Ports p
    → ReportsNone (RowsBroken (flat p l))
wires_up p l is laws ports a b h = go n.row n.in_at
  where
    n : InputNumber p l a
    n = input_number p l laws a h.input.pin h.input.pin_is h.input.of_layer

    go : (r : ℕ) → InAt p l r n.cell n.pin a → ⊥
    go zero at = both_ways (is_labelled (flat p l) h.input.pin) h.input.labelled_so
        (row_labelled p l is laws ports n.cell n.pin a h.input.pin at h.input.pin_is)
    go (suc r) at =
        let d = (wires_joined p l is laws).drives r n.cell n.pin a at in
        let same : b ≡ d.pin = d.only b h.source.pin h.source.pin_is h.source.of_layer
        (Joined-back (flat_shapes p l) a b h.source.joined) in
        let out = subst (λ (m : ℕ). OutAt p l r d.source.cell d.source.output m) (sym same) d.out_at in
        h.not_above (pin_row p l is laws Inputs (suc r) n.cell n.pin a h.upper at h.in_upper
        ∙ sym (ap suc (pin_row p l is laws Outputs r d.source.cell d.source.output b h.lower out h.in_lower)))
