-- The tags of a placed net stand once, and keep wires and cells whole.
use Rattle.std.proofs.Common.{◌≡◌, ◌≢◌, ℕ, zero, suc, ◌⊎◌, ◌-◌, ◌+◌, ◌<◌, refl, sym, ap, subst, ◌∙◌, arith, inl, inr}
use Rattle.std.proofs.Common.{List, [], ◌∷◌, ◌++◌}
use Rattle.std.proofs.Common.{length}
use Rattle.std.specs.Prelude.{slice_get}
use Rattle.std.specs.List.{flat_map}
use Rattle.std.proofs.lemmas.Option.{same_Some}
use Rattle.cell_library.specs.Library.{LibraryView}
use Rattle.layout_make.proofs.Lawful.{IsLawful}
use Rattle.circuit.specs.declared.cell_kind.CellKind.{CellKind}
use Rattle.layout_make.specs.Sheet.{Tag, Frame, InPin, OutPin, Lead, Bar, Rise, Fall, Across, FromVia, ToVia}
use Rattle.rowed.specs.PlacedNets.{PlacedView}
use Rattle.layout_make.specs.Spots.{Spot, spots, AreGiven}
use Rattle.layout_make.proofs.ReadyNets.{Packed, IsReady}
use Rattle.rowed.specs.declared.wire.Wire.{Wire}
use Rattle.sorting.specs.Numbers.{numbers}
use Rattle.layout_make.specs.Channel.{channel}
use Rattle.layout_make.specs.Tags.{spot_tags, wire_tags, line_tags, row_tags, lag_tags, tags}
use Rattle.layout_make.specs.declared.marks.Ports.{Ports as Side}
use Rattle.layout_make.specs.declared.marks.Ports.TheVariants.{Inputs, Outputs}
use Rattle.layout_make.proofs.Sides.{pins_on, pin_column, pin_tag, side_tags, pin_told, no_pin}
use Rattle.layout_make.proofs.Member.{In, in_head, not_in_nil, in_append, in_map, in_flat_map, Once, once_nil}
use Rattle.layout_make.proofs.Member.{once_cons, once_append, once_flat_map, once_map, once_count, all_in}
use Rattle.layout_make.proofs.ChannelWires.{PinsApart, channel_pairs, from_tells, pin_tells, slot_tells}
use Rattle.layout_make.proofs.PinCounts.{slots_some}
use Rattle.layout_make.proofs.Origins.{CellPart, TheFrame, APin, WirePart, TheRise, TheFall, TheAcross}
use Rattle.layout_make.proofs.Origins.{TheFromVia, TheToVia, RowPart, OfCell, TheLead, TheBar, OfWire, cell_part}
use Rattle.layout_make.proofs.Origins.{wire_part, row_part, row_of_tag, lag_part}

-- spots of one row in one slot are one
spot_tells : (xs : List Spot) (x z : Spot) → Packed 0 xs → (a : In x xs) → (b : In z xs) → x.slot ≡ z.slot
    → (a.0 ≡ b.0) × (x ≡ z)
spot_tells xs x z p a b e =
    let k = slot_tells xs a.0 b.0 0 0 x z p a.1 b.1 (slots_some x.cell.kind) (slots_some z.cell.kind)
    (let m : x.slot + 0 ≡ z.slot + 0 = omega arith in m) in
    (k.0, same_Some _ _ (sym a.1 ∙ ap (λ (n : ℕ). slice_get xs n) k.0 ∙ b.1))

once_spots : (xs : List Spot) → Packed 0 xs → Once xs
once_spots xs p i j x a b = (spot_tells xs x x p (i, a) (j, b) refl).0

-- which row, and whether of a cell, a line or a wire
row_of : Tag → ℕ
row_of (Frame r slot k) = r
row_of (InPin r c i) = r
row_of (OutPin r c i) = r
row_of (Lead zero) = 0
row_of (Lead (suc r)) = r
row_of (Bar zero) = 0
row_of (Bar (suc r)) = r
row_of (Rise r c) = r
row_of (Fall r c) = r
row_of (Across r c) = r
row_of (FromVia r c) = r
row_of (ToVia r c) = r

part_of : Tag → ℕ
part_of (Frame r slot k) = 0
part_of (InPin r c i) = 0
part_of (OutPin r c i) = 0
part_of (Lead r) = 1
part_of (Bar r) = 2
part_of (Rise r c) = 3
part_of (Fall r c) = 3
part_of (Across r c) = 3
part_of (FromVia r c) = 3
part_of (ToVia r c) = 3

from_of : Tag → ℕ
from_of (Rise r c) = c
from_of (Fall r c) = c
from_of (Across r c) = c
from_of (FromVia r c) = c
from_of (ToVia r c) = c
from_of t = 0

cell_row : (l : LibraryView) (r : ℕ) (x : Spot) (t : Tag) → CellPart l r x t → (row_of t ≡ r) × (part_of t ≡ 0)
unfolding row_of part_of
cell_row l r x t (TheFrame e) = (ap row_of e, ap part_of e)
cell_row l r x t (APin Inputs i lt e) = (ap row_of e, ap part_of e)
cell_row l r x t (APin Outputs o lt e) = (ap row_of e, ap part_of e)

wire_row : (r c : ℕ) (t : Tag) → WirePart r c t → (row_of t ≡ r) × (part_of t ≡ 3) × (from_of t ≡ c)
unfolding row_of part_of from_of
wire_row r c t (TheRise e) = (ap row_of e, ap part_of e, ap from_of e)
wire_row r c t (TheFall e) = (ap row_of e, ap part_of e, ap from_of e)
wire_row r c t (TheAcross e) = (ap row_of e, ap part_of e, ap from_of e)
wire_row r c t (TheFromVia e) = (ap row_of e, ap part_of e, ap from_of e)
wire_row r c t (TheToVia e) = (ap row_of e, ap part_of e, ap from_of e)

row_row : (p : PlacedView) (l : LibraryView) (r : ℕ) (t : Tag) → RowPart p l r t → row_of t ≡ r
unfolding row_of
row_row p l r t (OfCell x h part) = (cell_row l r x t part).0
row_row p l r t (TheLead e) = ap row_of e
row_row p l r t (TheBar e) = ap row_of e
row_row p l r t (OfWire w h part) = (wire_row r w.from_column t part).0

-- the tags of one cell
once_cell : (l : LibraryView) (r : ℕ) (x : Spot) → Once (spot_tags l r x)
once_cell l r x =
    let ins = side_tags l r Inputs x in
    let outs = side_tags l r Outputs x in
    once_cons (Frame r x.slot x.cell.kind) (ins ++ outs)
    (λ h. elim (in_append (Frame r x.slot x.cell.kind) ins outs h)
    [ inl k ↦ no_frame Inputs k | inr k ↦ no_frame Outputs k ])
    (once_append ins outs (once_side Inputs) (once_side Outputs)
    (λ t h k.
    let m = from_side Inputs t h in
    let n = from_side Outputs t k in
    absurd (let e = (pin_told Inputs Outputs r _ m.0 r _ n.0 (sym m.2 ∙ n.2)).0 in cc)))
  where
    from_side : (side : Side) (t : Tag) → In t (side_tags l r side x)
        → (i : ℕ) × In i (numbers 0 (pins_on side x.cell.kind)) × (t ≡ pin_tag side r (pin_column l side x i) i)
    from_side side t k = in_map (λ i. pin_tag side r (pin_column l side x i) i) t
        (numbers 0 (pins_on side x.cell.kind)) k

    no_frame : (side : Side) → In (Frame r x.slot x.cell.kind) (side_tags l r side x) → ⊥
    no_frame side k = let m = from_side side (Frame r x.slot x.cell.kind) k in no_pin side r _ m.0 _ refl (sym m.2)

    once_side : (side : Side) → Once (side_tags l r side x)
    once_side side =
        once_map (λ i. pin_tag side r (pin_column l side x i) i) (numbers 0 (pins_on side x.cell.kind))
        (λ i j e. (pin_told side side r (pin_column l side x i) i r (pin_column l side x j) j e).3)
        (once_count 0 (pins_on side x.cell.kind))

same_spot : (l : LibraryView) → IsLawful l → (r : ℕ) (xs : List Spot) → AreGiven l xs → (x z : Spot) (t : Tag)
    → Packed 0 xs → In x xs → In z xs → CellPart l r x t → CellPart l r z t → x ≡ z
same_spot l laws r xs given x z t p hx hz (TheFrame e) (TheFrame f) =
    let k = frames r x.slot x.cell.kind z.slot z.cell.kind (sym e ∙ f) in (spot_tells xs x z p hx hz k).1
  where
    frames : (r a : ℕ) (k : CellKind) (b : ℕ) (m : CellKind) → Frame r a k ≡ Frame r b m → a ≡ b
    frames r a k b m e = cc
same_spot l laws r xs given x z t p hx hz (TheFrame e) (APin side i lt f) =
    absurd (no_pin side r _ i _ refl (sym f ∙ e))
same_spot l laws r xs given x z t p hx hz (APin side i lt e) (TheFrame f) =
    absurd (no_pin side r _ i _ refl (sym e ∙ f))
same_spot l laws r xs given x z t p hx hz (APin a i lt e) (APin b j lt' f) =
    subst Same (pin_told a b r (pin_column l a x i) i r (pin_column l b z j) j (sym e ∙ f)).0 one_side lt' f
  where
    Same : Side → Type 0
    Same b = j < pins_on b z.cell.kind → t ≡ pin_tag b r (pin_column l b z j) j → x ≡ z

    one_side : Same a
    one_side lt' f =
        let k = (pin_told a a r (pin_column l a x i) i r (pin_column l a z j) j (sym e ∙ f)).2 in
        let m = pin_tells l laws a xs given hx.0 hz.0 i j x z p hx.1 hz.1 lt lt' k in
        same_Some _ _ (sym hx.1 ∙ ap (λ (n : ℕ). slice_get xs n) m.0 ∙ hz.1)

once_cells : (l : LibraryView) → IsLawful l → (r : ℕ) (xs : List Spot) → AreGiven l xs → Packed 0 xs
    → Once (flat_map (spot_tags l r) xs)
once_cells l laws r xs given p = once_flat_map (spot_tags l r) xs (once_spots xs p) (λ x h. once_cell l r x)
    (λ x z t hx hz a b. same_spot l laws r xs given x z t p hx hz (cell_part l r x t a) (cell_part l r z t b))

-- the wires of a channel stand once

pub once_pairs : (ws : List Wire) → PinsApart ws → Once ws
once_pairs [] apart = once_nil
once_pairs (w ∷ ws) apart = once_cons w ws (λ h. all_in (λ (v : Wire). w.to_slot ≡ v.to_slot → ⊥) w ws apart.0 h refl)
    (once_pairs ws apart.1)

pub once_channel : (p : PlacedView) (l : LibraryView) → IsReady p l → (r : ℕ) → Once (channel p l r)
once_channel p l is r = once_pairs (channel p l r) (channel_pairs p l is r)

once_wire : (r : ℕ) (w : Wire) → Once (wire_tags r w)
once_wire r w = five (Rise r w.from_column) (Fall r w.from_column) (Across r w.from_column) (FromVia r w.from_column)
    (ToVia r w.from_column) (λ e. cc) (λ e. cc) (λ e. cc) (λ e. cc) (λ e. cc) (λ e. cc) (λ e. cc) (λ e. cc) (λ e. cc)
    (λ e. cc)
  where
    five : (a b c d e : Tag) → a ≢ b → a ≢ c → a ≢ d → a ≢ e → b ≢ c → b ≢ d → b ≢ e → c ≢ d → c ≢ e → d ≢ e
        → Once (a ∷ b ∷ c ∷ d ∷ e ∷ [])
    five a b c d e ab ac ad ae bc bd be cd ce de = once_cons a (b ∷ c ∷ d ∷ e ∷ [])
        (λ h. elim (in_head a b (c ∷ d ∷ e ∷ []) h) [
          | inl x ↦ ab x
          | inr h ↦ elim (in_head a c (d ∷ e ∷ []) h) [
            | inl x ↦ ac x
            | inr h ↦ elim (in_head a d (e ∷ []) h)
                [ inl x ↦ ad x | inr h ↦ elim (in_head a e [] h) [ inl x ↦ ae x | inr h ↦ not_in_nil a h ] ]
          ]
        ])
        (once_cons b (c ∷ d ∷ e ∷ [])
        (λ h. elim (in_head b c (d ∷ e ∷ []) h) [
          | inl x ↦ bc x
          | inr h ↦ elim (in_head b d (e ∷ []) h)
              [ inl x ↦ bd x | inr h ↦ elim (in_head b e [] h) [ inl x ↦ be x | inr h ↦ not_in_nil b h ] ]
        ])
        (once_cons c (d ∷ e ∷ [])
        (λ h. elim (in_head c d (e ∷ []) h)
        [ inl x ↦ cd x | inr h ↦ elim (in_head c e [] h) [ inl x ↦ ce x | inr h ↦ not_in_nil c h ] ])
        (once_cons d (e ∷ []) (λ h. elim (in_head d e [] h) [ inl x ↦ de x | inr h ↦ not_in_nil d h ])
        (once_cons e [] (not_in_nil e) once_nil))))

once_wires : (p : PlacedView) (l : LibraryView) → IsReady p l → IsLawful l → (r : ℕ)
    → Once (flat_map (wire_tags r) (channel p l r))
once_wires p l is laws r = once_flat_map (wire_tags r) (channel p l r) (once_channel p l is r) (λ w h. once_wire r w)
    (λ w v t hw hv a b.
    let x = (wire_row r w.from_column t (wire_part r w t a)).2 in
    let y = (wire_row r v.from_column t (wire_part r v t b)).2 in
    let f : w.from_column ≡ v.from_column = sym x ∙ y in
    from_tells p l is laws r w v hw hv f)

lead_part : (r : ℕ) → part_of (Lead r) ≡ 1
unfolding part_of
lead_part r = refl

bar_part : (r : ℕ) → part_of (Bar r) ≡ 2
unfolding part_of
bar_part r = refl

once_row : (p : PlacedView) (l : LibraryView) → IsReady p l → IsLawful l → (r : ℕ) → Once (row_tags p l r)
once_row p l is laws r =
    let wires = flat_map (wire_tags r) (channel p l r) in
    let wire_three : (t : Tag) → In t wires
    → part_of t ≡ 3 = λ t h. (let m = in_flat_map (wire_tags r) t (channel p l r) h in
    (wire_row r m.0.from_column t (wire_part r m.0 t m.2)).1) in
    once_append (flat_map (spot_tags l r) (spots p r)) (line_tags r ++ wires)
    (once_cells l laws r (spots p r) (is.given r) (is.packed r))
    (once_cons (Lead (suc r)) (Bar (suc r) ∷ wires)
    (λ h. elim (in_head (Lead (suc r)) (Bar (suc r)) wires h) [
      | inl e ↦ absurd cc
      | inr k ↦ absurd (let a = wire_three (Lead (suc r)) k in let b = lead_part (suc r) in omega arith)
    ])
    (once_cons (Bar (suc r)) wires
    (λ k. absurd (let a = wire_three (Bar (suc r)) k in let b = bar_part (suc r) in omega arith))
    (once_wires p l is laws r)))
    (λ t h k.
    let m = in_flat_map (spot_tags l r) t (spots p r) h in
    let a : part_of t ≡ 0 = (cell_row l r m.0 t (cell_part l r m.0 t m.2)).1 in
    elim (in_head t (Lead (suc r)) (Bar (suc r) ∷ wires) k) [
      | inl e ↦ absurd (let b : part_of t ≡ 1 = ap part_of e ∙ lead_part (suc r) in omega arith)
      | inr k ↦ elim (in_head t (Bar (suc r)) wires k) [
        | inl e ↦ absurd (let b : part_of t ≡ 2 = ap part_of e ∙ bar_part (suc r) in omega arith)
        | inr k ↦ absurd (let b = wire_three t k in omega arith)
      ]
    ])

-- no row draws the delay's start and bar
not_in_row : (p : PlacedView) (l : LibraryView) (r : ℕ) (t : Tag) → (t ≡ Lead 0) ⊎ (t ≡ Bar 0) → RowPart p l r t → ⊥
not_in_row p l r t (inl z) (OfCell x h (TheFrame e)) =
    absurd (let k : Lead 0 ≡ Frame r x.slot x.cell.kind = sym z ∙ e in
    cc)
not_in_row p l r t (inl z) (OfCell x h (APin Inputs i lt e)) =
    absurd (let k : Lead 0 ≡ InPin r (pin_column l Inputs x i) i = sym z ∙ e in cc)
not_in_row p l r t (inl z) (OfCell x h (APin Outputs i lt e)) =
    absurd (let k : Lead 0 ≡ OutPin r (pin_column l Outputs x i) i = sym z ∙ e in cc)
not_in_row p l r t (inl z) (TheLead e) = absurd (let k : Lead 0 ≡ Lead (suc r) = sym z ∙ e in cc)
not_in_row p l r t (inl z) (TheBar e) = absurd (let k : Lead 0 ≡ Bar (suc r) = sym z ∙ e in cc)
not_in_row p l r t (inl z) (OfWire w h part) = absurd (let k = (wire_row r w.from_column t part).1 in
    let a : part_of t ≡ 1 = ap part_of z ∙ lead_part 0 in omega arith)
not_in_row p l r t (inr z) (OfCell x h (TheFrame e)) = absurd (let k : Bar 0 ≡ Frame r x.slot x.cell.kind = sym z ∙ e in
    cc)
not_in_row p l r t (inr z) (OfCell x h (APin Inputs i lt e)) =
    absurd (let k : Bar 0 ≡ InPin r (pin_column l Inputs x i) i = sym z ∙ e in cc)
not_in_row p l r t (inr z) (OfCell x h (APin Outputs i lt e)) =
    absurd (let k : Bar 0 ≡ OutPin r (pin_column l Outputs x i) i = sym z ∙ e in cc)
not_in_row p l r t (inr z) (TheLead e) = absurd (let k : Bar 0 ≡ Lead (suc r) = sym z ∙ e in cc)
not_in_row p l r t (inr z) (TheBar e) = absurd (let k : Bar 0 ≡ Bar (suc r) = sym z ∙ e in cc)
not_in_row p l r t (inr z) (OfWire w h part) = absurd (let k = (wire_row r w.from_column t part).1 in
    let a : part_of t ≡ 2 = ap part_of z ∙ bar_part 0 in omega arith)

once_lag : (lag : ℕ) → Once (lag_tags lag)
once_lag zero = once_nil
once_lag (suc lag) = once_cons (Lead 0) (Bar 0 ∷ [])
    (λ h. elim (in_head (Lead 0) (Bar 0) [] h) [ inl e ↦ absurd cc | inr k ↦ absurd (not_in_nil (Lead 0) k) ])
    (once_cons (Bar 0) [] (λ h. absurd (not_in_nil (Bar 0) h)) once_nil)

once_row_tags : (p : PlacedView) (l : LibraryView) → IsReady p l → IsLawful l
    → Once (flat_map (row_tags p l) (numbers 0 (length p.net.rows)))
once_row_tags p l is laws =
    once_flat_map (row_tags p l) (numbers 0 (length p.net.rows)) (once_count 0 (length p.net.rows))
    (λ r h. once_row p l is laws r) (λ r q t hr hq a b. sym (row_row p l r t (row_part p l r t a))
    ∙ row_row p l q t (row_part p l q t b))

pub once_tags : (p : PlacedView) (l : LibraryView) → IsReady p l → IsLawful l → Once (tags p l)
once_tags p l is laws =
    once_append (flat_map (row_tags p l) (numbers 0 (length p.net.rows))) (lag_tags p.lag)
    (once_row_tags p l is laws) (once_lag p.lag)
    (λ t h k. let m = row_of_tag p l t h in not_in_row p l m.0 t (lag_part p.lag t k).1 m.2)
