-- The labels of a drawing mark the pins of its inputs and outputs.
use Rattle.std.proofs.Common.{◌≡◌, ℕ, zero, suc, ◌+◌, ◌-◌, ◌*◌, ◌/◌, ◌<◌, ◌≤◌, Bool, true, false, ◌&&◌, ◌==◌, refl, sym}
use Rattle.std.proofs.Common.{ap, subst, ◌∙◌, arith, inl, inr, List, [], ◌∷◌, Option, Some, pos, int_le, slice_get}
use Rattle.std.proofs.lemmas.Option.{same_Some}
use Rattle.std.proofs.lemmas.Bool.{cases_order, and_parts, and_from, eqb-true, eq-eqb}
use Rattle.std.proofs.lemmas.Bool.Decides.{nat_tests}
use Rattle.cell_library.specs.Library.{LibraryView}
use Rattle.layout_make.proofs.Lawful.{IsLawful}
use Rattle.circuit.specs.declared.cell_kind.CellKind.{CellKind}
use Rattle.circuit.specs.declared.cell_kind.CellKind.TheVariants.{Buffer}
use Rattle.geom.specs.Rectangle.{Rectangle, holds_point}
use Rattle.geom.specs.declared.shapes.Shape.{Shape}
use Rattle.geom.specs.declared.shapes.Label.{Label}
use Rattle.layout_make.specs.Sheet.{rect_of, place_of, shape_of, layer_of, upright, centre, lower_edge}
use Rattle.layout_make.specs.Tags.{sheet, tags}
use Rattle.rowed.specs.PlacedNets.{PlacedView}
use Rattle.rowed.specs.declared.row_cell.RowCell.{RowCell}
use Rattle.layout_make.specs.Spots.{Spot, spots, has_port, PortAt, input_port, output_port}
use Rattle.layout_make.proofs.ReadyNets.{IsReady, HasPorts}
use Rattle.layout_rules.specs.Labels.{marks}
use Rattle.layout_make.specs.Marks.{MarksOne}
use Rattle.layout_make.specs.Laws.{flat_shapes, InAt, OutAt}
use Rattle.layout_make.specs.declared.marks.Ports.{Ports as Side}
use Rattle.layout_make.specs.declared.marks.Ports.TheVariants.{Inputs, Outputs}
use Rattle.rowed.specs.RowNets.{last_of}
use Rattle.layout_make.specs.Draw
use Rattle.layout_make.proofs.Columns.{centres_apart, next_edge, edges_apart, edge_zero}
use Rattle.layout_make.proofs.Joins.{to_map}
use Rattle.layout_make.proofs.Sides.{pins_on, column_on, pin_column, pin_tag, layer_on, pin_layer, PinAt, pin_placed}
use Rattle.layout_make.proofs.Origins.{pin_stands}
use Rattle.layout_make.proofs.Whole.{spot_row}
use Rattle.layout_make.proofs.DrawnRules.{pin_tag_at}
use Rattle.layout_make.proofs.WiresJoined.{one_pin}
use Rattle.layout_make.proofs.FlatLaw.{flat_is_tags}
use Rattle.layout_make.proofs.Comparing.{four, le_of}

of_le : (a b c d x y : ℕ) → a ≤ x → x ≤ b → c ≤ y → y ≤ d
    → (int_le (pos a) (pos x) && int_le (pos x) (pos b) && (int_le (pos c) (pos y) && int_le (pos y) (pos d))) ≡ true
of_le a b c d x y p q r s = grind (arith, nat_tests)

-- an upright in which the centre of a column is stands in that column
upright_tells : (l : LibraryView) → IsLawful l → (c d low high y : ℕ) → holds_point (rect_of (upright l c low high))
    (pos (centre l d)) (pos y) ≡ true → (c ≡ d) × (low ≤ y) × (y ≤ high)
upright_tells l laws c d low high y e =
    let h = four (int_le (pos (centre l c - l.wire / 2)) (pos (centre l d)))
    (int_le (pos (centre l d)) (pos (centre l c + l.wire / 2))) (int_le (pos low) (pos y))
    (int_le (pos y) (pos high)) e in
    let a = le_of (centre l c - l.wire / 2) (centre l d) h.0 in
    let b = le_of (centre l d) (centre l c + l.wire / 2) h.1 in (
      elim (cases_order c d) [
        | inl k ↦ k
        | inr o ↦ elim o [
          | inl lt ↦ absurd (let x = centres_apart l c d lt in omega arith)
          | inr
              lt ↦ absurd (let x = centres_apart l d c lt in omega arith)
        ]
      ],
      le_of low y h.2,
      le_of y high h.3,
    )

upright_holds : (l : LibraryView) (c low high y : ℕ) → low ≤ y → y ≤ high
    → holds_point (rect_of (upright l c low high)) (pos (centre l c)) (pos y) ≡ true
upright_holds l c low high y p q = of_le (centre l c - l.wire / 2) (centre l c + l.wire / 2) low high (centre l c) y
    (omega arith) (omega arith) p q

-- the slot of a port
slot_found : (port : RowCell → Option ℕ) (n k : ℕ) (x : Spot) (xs : List Spot) → slice_get xs k ≡ Some x
    → has_port (port x.cell) n ≡ true
    → ((i j : ℕ) (y z : Spot) → slice_get xs i ≡ Some y → slice_get xs j ≡ Some z → has_port (port y.cell) n ≡ true
    → has_port (port z.cell) n ≡ true → i ≡ j) → Draw.slot_where (λ c. has_port (port c) n) xs ≡ x.slot
slot_found port n k x [] at has once = absurd cc
slot_found port n k x (y ∷ xs) at has once =
    go (has_port (port y.cell) n) refl k at
    (λ j a. slot_found port n j x xs a has
    (λ i m u v p q r s. (let e : suc i ≡ suc m = once (suc i) (suc m) u v p q r s in omega arith)))
  where
    go : (b : Bool) → has_port (port y.cell) n ≡ b → (k : ℕ) → slice_get (y ∷ xs) k ≡ Some x
        → ((j : ℕ) → slice_get xs j ≡ Some x → Draw.slot_where (λ c. has_port (port c) n) xs ≡ x.slot)
        → (elim b [ true ↦ y.slot | false ↦ Draw.slot_where (λ c. has_port (port c) n) xs ]) ≡ x.slot
    go true q zero at f = ap (λ (z : Spot). z.slot) (same_Some _ _ at)
    go true q (suc j) at f = absurd (let e : zero ≡ suc j = once zero (suc j) y x refl at q has in omega arith)
    go false q zero at f =
        absurd (let e : has_port (port y.cell) n ≡ true = ap (λ (z : Spot). has_port (port z.cell) n)
        (same_Some _ _ at) ∙ has in cc)
    go false q (suc j) at f = f j at

-- the ports of a side: their row, their number, what shows them, and their labels

abbrev pub port_row : PlacedView → Side → ℕ
port_row p Inputs = 0
port_row p Outputs = last_of p.net.rows

abbrev pub ports_on : PlacedView → Side → ℕ
ports_on p Inputs = p.net.inputs
ports_on p Outputs = p.net.outputs

abbrev pub port_on : Side → RowCell → Option ℕ
port_on Inputs = input_port
port_on Outputs = output_port

abbrev pub label_on : PlacedView → LibraryView → Side → ℕ → Label
label_on p l Inputs n = Draw.input_label p l n
label_on p l Outputs n = Draw.output_label p l n

-- the column and the height of a label's centre
abbrev mark_column : PlacedView → LibraryView → Side → ℕ → ℕ
mark_column p l side n =
    Draw.slot_where (λ c. has_port (port_on side c) n) (spots p (port_row p side)) * l.columns
    + column_on l side Buffer 0

abbrev mark_height : PlacedView → LibraryView → Side → ℕ
mark_height p l Inputs = l.pin / 2
mark_height p l Outputs = lower_edge (sheet p l) (last_of p.net.rows) + l.height - l.pin / 2

abbrev holds_mark : PlacedView → LibraryView → Side → ℕ → Rectangle → Bool
holds_mark p l side column rect = holds_point rect (pos (centre l column)) (pos (mark_height p l side))

marks_so : (p : PlacedView) (l : LibraryView) (side : Side) (n : ℕ) (b : Shape)
    → marks (label_on p l side n) b ≡ (b.layer == layer_on side && holds_mark p l side (mark_column p l side n) b.rect)
marks_so p l Inputs n b = refl
marks_so p l Outputs n b = refl

-- a pin of its row holds the centre of its label
pin_marked : (p : PlacedView) (l : LibraryView) → IsLawful l → (side : Side) (c i : ℕ)
    → holds_mark p l side c (place_of (sheet p l) (pin_tag side (port_row p side) c i)) ≡ true
unfolding sheet
pin_marked p l laws Inputs c i = let z = edge_zero l (sheet p l).used in
    upright_holds l c (lower_edge (sheet p l) 0) (lower_edge (sheet p l) 0 + l.pin) (l.pin / 2) (omega arith)
    (omega arith)
pin_marked p l laws Outputs c i = let r = last_of p.net.rows in
    upright_holds l c (lower_edge (sheet p l) r + l.height - l.pin) (lower_edge (sheet p l) r + l.height)
    (lower_edge (sheet p l) r + l.height - l.pin / 2) (omega arith) (omega arith)

-- a height in two rows tells that they are one
row_told : (p : PlacedView) (l : LibraryView) → IsLawful l → (r q y : ℕ) → lower_edge (sheet p l) r ≤ y
    → y ≤ lower_edge (sheet p l) r + l.height → lower_edge (sheet p l) q ≤ y
    → y ≤ lower_edge (sheet p l) q + l.height → r ≡ q
unfolding sheet
row_told p l laws r q y a b c d = elim (cases_order r q) [
  | inl k ↦ k
  | inr o ↦ elim o [
    | inl lt ↦ absurd (let x = edges_apart l (sheet p l).used r q lt in let y = next_edge l (sheet p l).used r in
        omega arith)
    | inr lt ↦ absurd (let x = edges_apart l (sheet p l).used q r lt in let y = next_edge l (sheet p l).used q in
        omega arith)
  ]
]

-- and no other pin does
mark_told : (p : PlacedView) (l : LibraryView) → IsLawful l → (side : Side) (r c i d : ℕ)
    → holds_mark p l side d (place_of (sheet p l) (pin_tag side r c i)) ≡ true → (r ≡ port_row p side) × (c ≡ d)
unfolding sheet
mark_told p l laws Inputs r c i d e =
    let y = l.pin / 2 in
    let h = upright_tells l laws c d (lower_edge (sheet p l) r) (lower_edge (sheet p l) r + l.pin) y e in
    let z = edge_zero l (sheet p l).used in let a = h.1 in
    (row_told p l laws r 0 y (omega arith) (omega arith) (omega arith) (omega arith), h.0)
mark_told p l laws Outputs r c i d e =
    let q = last_of p.net.rows in
    let y = lower_edge (sheet p l) q + l.height - l.pin / 2 in
    let h = upright_tells l laws c d (lower_edge (sheet p l) r + l.height - l.pin)
    (lower_edge (sheet p l) r + l.height) y e in
    let a = h.1 in let b = h.2 in
    (row_told p l laws r q y (omega arith) (omega arith) (omega arith) (omega arith), h.0)

pub buffer_pin : (side : Side) → pins_on side Buffer ≡ 1
buffer_pin Inputs = refl
buffer_pin Outputs = refl

pub port_marked : (p : PlacedView) (l : LibraryView) → IsReady p l → IsLawful l → (side : Side)
    → HasPorts p (port_on side) (port_row p side) (ports_on p side) → (n : ℕ) → n < ports_on p side
    → (k m : ℕ) × PortAt p (port_on side) (port_row p side) n k × PinAt p l side (port_row p side) k 0 m
    × MarksOne (flat_shapes p l) (label_on p l side n) m
port_marked p l is laws side ports n lt =
    let row = port_row p side in
    let port = ports.some n lt in
    let x = port.1.spot in
    let one : 0 < pins_on side x.cell.kind = subst (λ (k : CellKind). 0 < pins_on side k) (sym port.1.buffer)
    (let b = buffer_pin side in omega arith) in
    let pin = pin_stands p l side row x 0 (spot_row p row x (port.0, port.1.at)) (port.0, port.1.at) one in
    let slot = slot_found (port_on side) n port.0 x (spots p row) port.1.at port.1.has
    (λ i j y z. ports.once n i j y z) in
    let column : mark_column p l side n ≡ pin_column l side x 0 = ap (λ (s : ℕ). s * l.columns
    + column_on l side Buffer 0) slot ∙ ap (λ (k : CellKind). x.slot * l.columns + column_on l side k 0)
    (sym port.1.buffer) in
    let shapes = flat_is_tags p l laws in
    let tag = pin_tag side row (pin_column l side x 0) 0 in (
      port.0,
      pin.0,
      port.1,
      pin_placed p l side row port.0 0 pin.0 (record { spot = x; at = port.1.at; below = one; tag_at = pin.1 }),
      record {
        pin = shape_of (sheet p l) tag;
        pin_is = ap (λ (ss : List Shape). slice_get ss pin.0) shapes ∙ to_map (shape_of (sheet p l)) (tags p l) pin.0
            tag pin.1;
        marked = marks_so p l side n (shape_of (sheet p l) tag)
            ∙ and_from (layer_of tag == layer_on side) (holds_mark p l side (mark_column p l side n)
            (place_of (sheet p l) tag)) (eq-eqb (layer_of tag) (layer_on side)
            (pin_layer side row (pin_column l side x 0) 0)) (ap (λ (d : ℕ). holds_mark p l side d
            (place_of (sheet p l) tag)) column ∙ pin_marked p l laws side (pin_column l side x 0) 0);
        only = λ q b at e.
            let parts = and_parts (b.layer == layer_on side) (holds_mark p l side (mark_column p l side n) b.rect)
            (sym (marks_so p l side n b) ∙ e) in
            let u = pin_tag_at (sheet p l) (tags p l) side q b
            (ap (λ (ss : List Shape). slice_get ss q) (sym shapes) ∙ at) (eqb-true b.layer (layer_on side) parts.0) in
            let told = mark_told p l laws side u.0 u.1 u.2 (mark_column p l side n)
            (ap (λ (y : Shape). holds_mark p l side (mark_column p l side n) y.rect) u.4 ∙ parts.1) in
            one_pin p l is laws side q pin.0 u.0 u.1 u.2 row (pin_column l side x 0) 0 u.3 pin.1 told.0
            (told.1 ∙ column);
      },
    )

pub input_marked : (p : PlacedView) (l : LibraryView) → IsReady p l → IsLawful l → HasPorts p input_port 0 p.net.inputs
    → (n : ℕ) → n < p.net.inputs → (k m : ℕ) × PortAt p input_port 0 n k × InAt p l 0 k 0 m
    × MarksOne (flat_shapes p l) (Draw.input_label p l n) m
input_marked p l is laws ports n lt = port_marked p l is laws Inputs ports n lt

pub output_marked : (p : PlacedView) (l : LibraryView) → IsReady p l → IsLawful l
    → HasPorts p output_port (last_of p.net.rows) p.net.outputs → (n : ℕ) → n < p.net.outputs
    → (k m : ℕ) × PortAt p output_port (last_of p.net.rows) n k × OutAt p l (last_of p.net.rows) k 0 m
    × MarksOne (flat_shapes p l) (Draw.output_label p l n) m
output_marked p l is laws ports n lt = port_marked p l is laws Outputs ports n lt
