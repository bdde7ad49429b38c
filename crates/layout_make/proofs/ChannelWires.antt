-- The wires of a channel: one for each pin of the upper row that is fed, each told by its pin and by its source.
use Rattle.std.proofs.Common.{◌≡◌, ℕ, zero, suc, ◌+◌, ◌*◌, ◌<◌, ◌≤◌, min, refl, sym, ap, subst, ◌∙◌, arith, ◌⊎◌, inl}
use Rattle.std.proofs.Common.{inr, List, [], ◌∷◌, Option, Some, None, slice_get}
use Rattle.std.specs.List.{AllByRecursion}
use Rattle.std.proofs.Math.Nat.{mul-le-mul_right}
use Rattle.std.proofs.lemmas.Option.{same_Some}
use Rattle.std.proofs.lemmas.Bool.{cases_order}
use Rattle.circuit.specs.CellKinds.{inputs_of, outputs_of, slots_of}
use Rattle.rowed.specs.declared.source.Source.{Source}
use Rattle.rowed.specs.declared.wire.Wire.{Wire}
use Rattle.rowed.specs.RowCells.{source_at}
use Rattle.rowed.specs.PlacedNets.{PlacedView}
use Rattle.rowed.proofs.SpanLaws.{at_most_three}
use Rattle.sorting.specs.Sorting.{EachPair, Rising}
use Rattle.sorting.proofs.SortingLaws.{by_key_all, all_by_key, by_key_pairs}
use Rattle.cell_library.specs.Library.{LibraryView}
use Rattle.layout_make.proofs.Lawful.{IsLawful}
use Rattle.layout_make.specs.Spots.{Spot, spots, AreGiven, IsInput}
use Rattle.layout_make.proofs.ReadyNets.{Packed, IsReady}
use Rattle.layout_make.specs.Channel.{wire_to, pin_wire, wires_into, from_of, channel}
use Rattle.layout_make.proofs.Member.{In, in_head, not_in_nil, all_in, in_all}
use Rattle.layout_make.specs.declared.marks.Ports.{Ports as Side}
use Rattle.layout_make.specs.declared.marks.Ports.TheVariants.{Inputs, Outputs}
use Rattle.layout_make.proofs.Sides.{pins_on, column_on, pin_column, in_slot, pins_slots}
use Rattle.layout_make.proofs.PinCounts.{inputs_slots, outputs_slots}

-- columns tell cells and pins apart

packed_least : (n : ℕ) (xs : List Spot) (d : ℕ) (y : Spot) → Packed n xs → slice_get xs d ≡ Some y → n ≤ y.slot
packed_least n [] d y p at = absurd cc
packed_least n (x ∷ xs) zero y p at = let e : x.slot ≡ y.slot = ap (λ (z : Spot). z.slot) (same_Some _ _ at) in
    omega arith
packed_least n (x ∷ xs) (suc d) y p at = let k = packed_least (x.slot + slots_of x.cell.kind) xs d y p.1 at in
    omega arith

pub packed_apart : (n : ℕ) (xs : List Spot) (d e : ℕ) (y z : Spot) → Packed n xs → slice_get xs d ≡ Some y
    → slice_get xs e ≡ Some z → d < e → y.slot + slots_of y.cell.kind ≤ z.slot
packed_apart n [] d e y z p a b lt = absurd cc
packed_apart n (x ∷ xs) d zero y z p a b lt = absurd (omega arith)
packed_apart n (x ∷ xs) zero (suc e) y z p a b lt = let k = packed_least (x.slot + slots_of x.cell.kind) xs e z p.1
    b in subst (λ (s : Spot). s.slot + slots_of s.cell.kind ≤ z.slot) (same_Some _ _ a) k
packed_apart n (x ∷ xs) (suc d) (suc e) y z p a b lt = packed_apart (x.slot + slots_of x.cell.kind) xs d e y z p.1 a b
    (omega arith)

-- a column in a block of columns tells the block
block : (c m n x : ℕ) → m * c ≤ x → x < (n + 1) * c → m ≤ n
block c m n x a b = elim (cases_order m n) [
  | inl e ↦ omega arith
  | inr h ↦ elim h [
    | inl lt ↦ omega arith
    | inr
        lt ↦ absurd (let k : (n + 1) * c ≤ m * c = mul-le-mul_right c (let q : n + 1 ≤ m = omega arith in q) in
        omega arith)
  ]
]

same_block : (c s i a t j b : ℕ) → i * c ≤ a → a < (i + 1) * c → j * c ≤ b → b < (j + 1) * c → s * c + a ≡ t * c + b
    → s + i ≡ t + j
same_block c s i a t j b p q u v e =
    let x = block c (s + i) (t + j) (s * c + a) (omega arith) (omega arith) in
    let y = block c (t + j) (s + i) (s * c + a) (omega arith) (omega arith) in
    omega arith

-- two pins of one row in one slot are one pin of one cell
pub slot_tells : (xs : List Spot) (d e i j : ℕ) (y z : Spot) → Packed 0 xs → slice_get xs d ≡ Some y
    → slice_get xs e ≡ Some z → i < slots_of y.cell.kind → j < slots_of z.cell.kind → y.slot + i ≡ z.slot + j
    → (d ≡ e) × (i ≡ j)
slot_tells xs d e i j y z p a b li lj same = elim (cases_order d e) [
  | inl eq ↦
      let k : y ≡ z = same_Some _ _ (sym a ∙ ap (λ (n : ℕ). slice_get xs n) eq ∙ b) in
      let m : y.slot ≡ z.slot = ap (λ (s : Spot). s.slot) k in
      (eq, omega arith)
  | inr h ↦ elim h [
    | inl lt ↦ absurd (let k = packed_apart 0 xs d e y z p a b lt in omega arith)
    | inr lt ↦ absurd (let k = packed_apart 0 xs e d z y p b a lt in omega arith)
  ]
]

-- pins of one side in one column are one pin of one cell
pub pin_tells : (l : LibraryView) → IsLawful l → (side : Side) (xs : List Spot) → AreGiven l xs → (d e i j : ℕ)
    (y z : Spot) → Packed 0 xs → slice_get xs d ≡ Some y → slice_get xs e ≡ Some z → i < pins_on side y.cell.kind
    → j < pins_on side z.cell.kind → pin_column l side y i ≡ pin_column l side z j → (d ≡ e) × (i ≡ j)
pin_tells l laws side xs given d e i j y z p a b li lj same =
    let own = in_slot l laws side y.cell.kind i (given d y a) li in
    let other = in_slot l laws side z.cell.kind j (given e z b) lj in
    let k = same_block l.columns y.slot i (column_on l side y.cell.kind i) z.slot j (column_on l side z.cell.kind j)
    own.0 own.1 other.0 other.1 same in
    let m = pins_slots side y.cell.kind in let n = pins_slots side z.cell.kind in
    slot_tells xs d e i j y z p a b (omega arith) (omega arith) k

-- a wire, by the pin where it ends
pub record IsInto (l : LibraryView) (lower upper : List Spot) (w : Wire) : Type 0 where
  pub cell : ℕ
  pub spot : Spot
  pub pin : ℕ
  pub source : Source
  pub at : slice_get upper cell ≡ Some spot
  pub takes : source_at spot.cell pin ≡ Some source
  pub wire_is : w ≡ wire_to l (slice_get lower source.cell) source.output spot pin

at_pin : (l : LibraryView) (lower : List Spot) (x : Spot) (i : ℕ) (o : Option Source) (more : List Wire) (w : Wire)
    → In w (pin_wire l lower x i o more)
    → ((s : Source) × (o ≡ Some s) × (w ≡ wire_to l (slice_get lower s.cell) s.output x i)) ⊎ In w more
at_pin l lower x i None more w h = inr h
at_pin l lower x i (Some s) more w h = elim (in_head w (wire_to l (slice_get lower s.cell) s.output x i) more h)
    [ inl e ↦ inl (s, refl, e) | inr k ↦ inr k ]

pub into : (l : LibraryView) (lower xs : List Spot) (w : Wire) → In w (wires_into l lower xs) → IsInto l lower xs w
into l lower [] w h = absurd (not_in_nil w h)
into l lower (x ∷ xs) w h =
    elim (at_pin l lower x 0 x.cell.source0
    (pin_wire l lower x 1 x.cell.source1 (pin_wire l lower x 2 x.cell.source2 (wires_into l lower xs))) w h) [
      | inl k ↦ record { cell = 0; spot = x; pin = 0; source = k.0; at = refl; takes = k.1; wire_is = k.2 }
      | inr h ↦ elim (at_pin l lower x 1 x.cell.source1 (pin_wire l lower x 2 x.cell.source2 (wires_into l lower xs)) w
          h) [
            | inl k ↦ record { cell = 0; spot = x; pin = 1; source = k.0; at = refl; takes = k.1; wire_is = k.2 }
            | inr h ↦ elim (at_pin l lower x 2 x.cell.source2 (wires_into l lower xs) w h) [
              | inl k ↦ record { cell = 0; spot = x; pin = 2; source = k.0; at = refl; takes = k.1; wire_is = k.2 }
              | inr h ↦ let m = into l lower xs w h in
                  record {
                    cell = suc m.cell;
                    spot = m.spot;
                    pin = m.pin;
                    source = m.source;
                    at = m.at;
                    takes = m.takes;
                    wire_is = m.wire_is;
                  }
            ]
          ]
    ]

past_pin : (l : LibraryView) (lower : List Spot) (x : Spot) (i : ℕ) (o : Option Source) (more : List Wire) (w : Wire)
    → In w more → In w (pin_wire l lower x i o more)
past_pin l lower x i None more w h = h
past_pin l lower x i (Some s) more w h = (suc h.0, h.1)

of_pin : (l : LibraryView) (lower : List Spot) (x : Spot) (i : ℕ) (o : Option Source) (more : List Wire) (s : Source)
    → o ≡ Some s → In (wire_to l (slice_get lower s.cell) s.output x i) (pin_wire l lower x i o more)
of_pin l lower x i None more s e = absurd cc
of_pin l lower x i (Some t) more s e =
    (0, ap (λ (u : Source). Some (wire_to l (slice_get lower u.cell) u.output x i)) (same_Some _ _ e))

pub of_into : (l : LibraryView) (lower xs : List Spot) (n i : ℕ) (x : Spot) (s : Source) → slice_get xs n ≡ Some x
    → source_at x.cell i ≡ Some s → In (wire_to l (slice_get lower s.cell) s.output x i) (wires_into l lower xs)
of_into l lower [] n i x s at takes = absurd cc
of_into l lower (y ∷ xs) zero i x s at takes =
    subst (λ (z : Spot). In (wire_to l (slice_get lower s.cell) s.output z i) (wires_into l lower (y ∷ xs))) same
    (go i (ap (λ (z : Spot). source_at z.cell i) same ∙ takes))
  where
    same : y ≡ x
    same = same_Some _ _ at

    go : (i : ℕ) → source_at y.cell i ≡ Some s → In (wire_to l (slice_get lower s.cell) s.output y i)
        (wires_into l lower (y ∷ xs))
    go zero e =
        of_pin l lower y 0 y.cell.source0
        (pin_wire l lower y 1 y.cell.source1 (pin_wire l lower y 2 y.cell.source2 (wires_into l lower xs))) s e
    go (suc zero) e =
        past_pin l lower y 0 y.cell.source0
        (pin_wire l lower y 1 y.cell.source1 (pin_wire l lower y 2 y.cell.source2 (wires_into l lower xs)))
        (wire_to l (slice_get lower s.cell) s.output y 1)
        (of_pin l lower y 1 y.cell.source1 (pin_wire l lower y 2 y.cell.source2 (wires_into l lower xs)) s e)
    go (suc (suc zero)) e =
        past_pin l lower y 0 y.cell.source0
        (pin_wire l lower y 1 y.cell.source1 (pin_wire l lower y 2 y.cell.source2 (wires_into l lower xs)))
        (wire_to l (slice_get lower s.cell) s.output y 2)
        (past_pin l lower y 1 y.cell.source1 (pin_wire l lower y 2 y.cell.source2 (wires_into l lower xs))
        (wire_to l (slice_get lower s.cell) s.output y 2)
        (of_pin l lower y 2 y.cell.source2 (wires_into l lower xs) s e))
    go (suc (suc (suc i))) e = absurd cc
of_into l lower (y ∷ xs) (suc n) i x s at takes =
    let w = wire_to l (slice_get lower s.cell) s.output x i in
    let h = of_into l lower xs n i x s at takes in
    past_pin l lower y 0 y.cell.source0
    (pin_wire l lower y 1 y.cell.source1 (pin_wire l lower y 2 y.cell.source2 (wires_into l lower xs))) w
    (past_pin l lower y 1 y.cell.source1 (pin_wire l lower y 2 y.cell.source2 (wires_into l lower xs)) w
    (past_pin l lower y 2 y.cell.source2 (wires_into l lower xs) w h))

-- the wires into a row stand by rising slot of their pins

abbrev pub to_slot : Wire → ℕ
to_slot w = w.to_slot

rising_less : (b c : ℕ) (ws : List Wire) → b ≤ c → Rising to_slot c ws → Rising to_slot b ws
rising_less b c [] le h = tt
rising_less b c (w ∷ ws) le h = (omega arith, h.1)

rising_pin : (l : LibraryView) (lower : List Spot) (x : Spot) (n i : ℕ) (o : Option Source) (more : List Wire)
    → ((s : Source) → o ≡ Some s → i < n) → Rising to_slot (x.slot + min (i + 1) n) more
    → Rising to_slot (x.slot + min i n) (pin_wire l lower x i o more)
rising_pin l lower x n i None more fits h = rising_less (x.slot + min i n) (x.slot + min (i + 1) n) more (omega arith) h
rising_pin l lower x n i (Some s) more fits h =
    let lt = fits s refl in
    (omega arith, rising_less (x.slot + i + 1) (x.slot + min (i + 1) n) more (omega arith) h)

abbrev pub PinsFit : List Spot → Type 0
PinsFit xs = (n i : ℕ) (x : Spot) (s : Source) → slice_get xs n ≡ Some x → source_at x.cell i ≡ Some s
    → i < inputs_of x.cell.kind

rising_into : (l : LibraryView) (lower : List Spot) (b : ℕ) (xs : List Spot) → Packed b xs → PinsFit xs
    → Rising to_slot b (wires_into l lower xs)
rising_into l lower b [] p fits = tt
rising_into l lower b (x ∷ xs) p fits =
    let n = slots_of x.cell.kind in
    let most = at_most_three x.cell.kind in
    let pins = inputs_slots x.cell.kind in
    let later = rising_into l lower (x.slot + n) xs p.1 (λ k i y s at e. fits (suc k) i y s at e) in
    let two = rising_pin l lower x n 2 x.cell.source2 (wires_into l lower xs)
    (λ s e. (let k = fits 0 2 x s refl e in omega arith))
    (subst (λ (m : ℕ). Rising to_slot m (wires_into l lower xs)) (omega arith) later) in
    let one = rising_pin l lower x n 1 x.cell.source1 (pin_wire l lower x 2 x.cell.source2 (wires_into l lower xs))
    (λ s e. (let k = fits 0 1 x s refl e in omega arith)) two in
    let none = rising_pin l lower x n 0 x.cell.source0
    (pin_wire l lower x 1 x.cell.source1 (pin_wire l lower x 2 x.cell.source2 (wires_into l lower xs)))
    (λ s e. (let k = fits 0 0 x s refl e in omega arith)) one in
    rising_less b (x.slot + min 0 n) (wires_into l lower (x ∷ xs)) (let h = p.0 in omega arith) none

abbrev pub PinsApart : List Wire → Type 0
PinsApart ws = EachPair (λ (v : Wire) (w : Wire). v.to_slot ≡ w.to_slot → ⊥) ws

pairs_rising : (b : ℕ) (ws : List Wire) → Rising to_slot b ws → PinsApart ws
pairs_rising b [] h = tt
pairs_rising b (w ∷ ws) h =
    (above (w.to_slot) (w.to_slot + 1) ws (omega arith) h.1, pairs_rising (w.to_slot + 1) ws h.1)
  where
    above : (a c : ℕ) (ws : List Wire) → a < c → Rising to_slot c ws → AllByRecursion (λ (v : Wire). a ≡ v.to_slot → ⊥)
        ws
    above a c [] lt h = tt
    above a c (v ∷ ws) lt h =
        (λ e. (let k = h.0 in omega arith), above a (v.to_slot + 1) ws (let k = h.0 in omega arith) h.1)

-- the channel has these wires

pub in_channel : (p : PlacedView) (l : LibraryView) (r : ℕ) (w : Wire) → In w (channel p l r)
    → IsInto l (spots p r) (spots p (suc r)) w
in_channel p l r w h =
    let ws = wires_into l (spots p r) (spots p (suc r)) in
    into l (spots p r) (spots p (suc r)) w
    (all_in (λ (v : Wire). In v ws) w (channel p l r)
    (by_key_all (λ (v : Wire). In v ws) from_of ws (in_all (λ (v : Wire). In v ws) ws (λ v k. k))) h)

pub to_channel : (p : PlacedView) (l : LibraryView) (r : ℕ) (w : Wire)
    → In w (wires_into l (spots p r) (spots p (suc r))) → In w (channel p l r)
to_channel p l r w h =
    let ws = wires_into l (spots p r) (spots p (suc r)) in
    all_in (λ (v : Wire). In v (channel p l r)) w ws
    (all_by_key (λ (v : Wire). In v (channel p l r)) from_of ws
    (in_all (λ (v : Wire). In v (channel p l r)) (channel p l r) (λ v k. k))) h

pub channel_pairs : (p : PlacedView) (l : LibraryView) → IsReady p l → (r : ℕ) → PinsApart (channel p l r)
channel_pairs p l is r =
    let ws = wires_into l (spots p r) (spots p (suc r)) in
    by_key_pairs (λ (v : Wire) (w : Wire). v.to_slot ≡ w.to_slot → ⊥) (λ v w ne e. ne (sym e)) from_of ws
    (pairs_rising 0 ws
    (rising_into l (spots p r) 0 (spots p (suc r)) (is.packed (suc r)) (λ n i x s. is.pins (suc r) n i x s)))

-- a wire of a drawn channel, by both its ends
pub record WireOf (p : PlacedView) (l : LibraryView) (r : ℕ) (w : Wire) : Type 0 where
  pub cell : ℕ
  pub spot : Spot
  pub pin : ℕ
  pub source : Source
  pub from : Spot
  pub at : slice_get (spots p (suc r)) cell ≡ Some spot
  pub pin_below : pin < inputs_of spot.cell.kind
  pub takes : source_at spot.cell pin ≡ Some source
  pub from_at : slice_get (spots p r) source.cell ≡ Some from
  pub output_below : source.output < outputs_of from.cell.kind
  pub wire_is : w ≡ wire_to l (Some from) source.output spot pin

pub wire_of : (p : PlacedView) (l : LibraryView) → IsReady p l → (r : ℕ) (w : Wire) → In w (channel p l r)
    → WireOf p l r w
wire_of p l is r w h =
    let m = in_channel p l r w h in
    let below = is.pins (suc r) m.cell m.pin m.spot m.source m.at m.takes in
    let t = is.sourced r m.cell m.pin m.spot (record { at = m.at; below = below }) in
    let same : t.source ≡ m.source = same_Some _ _ (sym t.source_is ∙ m.takes) in
    let at : slice_get (spots p r) m.source.cell ≡ Some t.from = ap (λ (s : Source). slice_get (spots p r) s.cell)
    (sym same) ∙ t.is_output.at in
    record {
      cell = m.cell;
      spot = m.spot;
      pin = m.pin;
      source = m.source;
      from = t.from;
      at = m.at;
      pin_below = below;
      takes = m.takes;
      from_at = at;
      output_below = subst (λ (s : Source). s.output < outputs_of t.from.cell.kind) same t.is_output.below;
      wire_is = m.wire_is ∙ ap (λ (o : Option Spot). wire_to l o m.source.output m.spot m.pin) at;
    }

-- the wire of an input pin
pub record PinWire (p : PlacedView) (l : LibraryView) (r : ℕ) (x : Spot) (i : ℕ) : Type 0 where
  pub source : Source
  pub source_is : source_at x.cell i ≡ Some source
  pub from : Spot
  pub from_at : slice_get (spots p r) source.cell ≡ Some from
  pub below : source.output < outputs_of from.cell.kind
  pub stands : In (wire_to l (Some from) source.output x i) (channel p l r)

pub pin_channel : (p : PlacedView) (l : LibraryView) → IsReady p l → (r n i : ℕ) (x : Spot) → IsInput p (suc r) n i x
    → PinWire p l r x i
pin_channel p l is r n i x input =
    let t = is.sourced r n i x input in
    record {
      source = t.source;
      source_is = t.source_is;
      from = t.from;
      from_at = t.is_output.at;
      below = t.is_output.below;
      stands = subst (λ (o : Option Spot). In (wire_to l o t.source.output x i) (channel p l r)) t.is_output.at
          (to_channel p l r (wire_to l (slice_get (spots p r) t.source.cell) t.source.output x i)
          (of_into l (spots p r) (spots p (suc r)) n i x t.source input.at t.source_is));
    }

-- wires with one pin, or with one source, are one

same_pin : (p : PlacedView) (l : LibraryView) (r : ℕ) (w v : Wire) (a : WireOf p l r w) (b : WireOf p l r v)
    → a.cell ≡ b.cell → a.pin ≡ b.pin → w ≡ v
same_pin p l r w v a b e f =
    let spot : a.spot ≡ b.spot = same_Some _ _ (sym a.at ∙ ap (λ (n : ℕ). slice_get (spots p (suc r)) n) e ∙ b.at) in
    let source : a.source ≡ b.source = same_Some _ _ (sym a.takes ∙ ap (λ (z : Spot). source_at z.cell a.pin) spot
    ∙ ap (λ (n : ℕ). source_at b.spot.cell n) f ∙ b.takes) in
    let from : a.from ≡ b.from = same_Some _ _
    (sym a.from_at ∙ ap (λ (s : Source). slice_get (spots p r) s.cell) source ∙ b.from_at) in
    a.wire_is ∙ ap (λ (z : Spot). wire_to l (Some z) a.source.output a.spot a.pin) from
    ∙ ap (λ (s : Source). wire_to l (Some b.from) s.output a.spot a.pin) source
    ∙ ap (λ (z : Spot). wire_to l (Some b.from) b.source.output z a.pin) spot
    ∙ ap (λ (n : ℕ). wire_to l (Some b.from) b.source.output b.spot n) f ∙ sym b.wire_is

pub to_tells : (p : PlacedView) (l : LibraryView) → IsReady p l → IsLawful l → (r : ℕ) (w v : Wire)
    → In w (channel p l r) → In v (channel p l r) → w.to_column ≡ v.to_column → w ≡ v
to_tells p l is laws r w v hw hv e =
    let a = wire_of p l is r w hw in
    let b = wire_of p l is r v hv in
    let k = pin_tells l laws Inputs (spots p (suc r)) (is.given (suc r)) a.cell b.cell a.pin b.pin a.spot b.spot
    (is.packed (suc r)) a.at b.at a.pin_below b.pin_below (sym (ap (λ (z : Wire). z.to_column) a.wire_is) ∙ e
    ∙ ap (λ (z : Wire). z.to_column) b.wire_is) in
    same_pin p l r w v a b k.0 k.1

-- wires from one output
same_source : (p : PlacedView) (l : LibraryView) → IsReady p l → (r : ℕ) (w v : Wire) (a : WireOf p l r w)
    (b : WireOf p l r v) → a.source.cell ≡ b.source.cell → a.source.output ≡ b.source.output → w ≡ v
same_source p l is r w v a b e f =
    let source : a.source ≡ b.source = both a.source b.source e f in
    let one = is.one_user r a.cell b.cell a.pin b.pin a.spot b.spot b.source a.at b.at
    (a.takes ∙ ap (λ (s : Source). Some s) source) b.takes in
    same_pin p l r w v a b one.0 one.1
  where
    named : ℕ → ℕ → Source
    named c o = record { cell = c; output = o }

    both : (s t : Source) → s.cell ≡ t.cell → s.output ≡ t.output → s ≡ t
    both s t e f = ap (λ (n : ℕ). named n s.output) e ∙ ap (λ (n : ℕ). named t.cell n) f

pub from_slot_tells : (p : PlacedView) (l : LibraryView) → IsReady p l → (r : ℕ) (w v : Wire) → In w (channel p l r)
    → In v (channel p l r) → w.from_slot ≡ v.from_slot → w ≡ v
from_slot_tells p l is r w v hw hv e =
    let a = wire_of p l is r w hw in
    let b = wire_of p l is r v hv in
    let m = outputs_slots a.from.cell.kind in let n = outputs_slots b.from.cell.kind in
    let la = a.output_below in let lb = b.output_below in
    let k = slot_tells (spots p r) a.source.cell b.source.cell a.source.output b.source.output a.from b.from
    (is.packed r) a.from_at b.from_at (omega arith) (omega arith) (sym (ap (λ (z : Wire). z.from_slot) a.wire_is)
    ∙ e ∙ ap (λ (z : Wire). z.from_slot) b.wire_is) in
    same_source p l is r w v a b k.0 k.1

pub from_tells : (p : PlacedView) (l : LibraryView) → IsReady p l → IsLawful l → (r : ℕ) (w v : Wire)
    → In w (channel p l r) → In v (channel p l r) → w.from_column ≡ v.from_column → w ≡ v
from_tells p l is laws r w v hw hv e =
    let a = wire_of p l is r w hw in
    let b = wire_of p l is r v hv in
    let k = pin_tells l laws Outputs (spots p r) (is.given r) a.source.cell b.source.cell a.source.output
    b.source.output a.from b.from (is.packed r) a.from_at b.from_at a.output_below b.output_below
    (sym (ap from_of a.wire_is) ∙ e ∙ ap from_of b.wire_is) in
    same_source p l is r w v a b k.0 k.1
