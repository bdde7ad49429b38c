-- Where each tag of a drawing comes from, and that each shape has its tag.
use Rattle.std.proofs.Common.{◌≡◌, ℕ, zero, suc, ◌<◌, ◌≤◌, ◌⊎◌, refl, sym, subst, arith, inl, inr, [], ◌∷◌, ◌++◌}
use Rattle.std.proofs.Common.{length}
use Rattle.std.specs.List.{flat_map}
use Rattle.std.proofs.lemmas.Option.{same_Some}
use Rattle.cell_library.specs.Library.{LibraryView}
use Rattle.layout_make.proofs.Lawful.{IsLawful}
use Rattle.circuit.specs.CellKinds.{inputs_of}
use Rattle.layout_make.specs.Sheet.{Tag, Frame, InPin, Lead, Bar, Rise, Fall, Across, FromVia, ToVia}
use Rattle.layout_make.specs.declared.marks.Ports.{Ports as Side}
use Rattle.layout_make.specs.declared.marks.Ports.TheVariants.{Inputs, Outputs}
use Rattle.layout_make.proofs.Sides.{pins_on, pin_column, pin_tag, side_tags}
use Rattle.layout_make.proofs.SheetKeeps.{IsWire, IsStep, Fits, Stands}
use Rattle.layout_make.specs.Tags.{At, sheet, spot_tags, wire_tags, line_tags, row_tags, lag_tags, tags}
use Rattle.rowed.specs.PlacedNets.{PlacedView}
use Rattle.layout_make.specs.Spots.{Spot, spots}
use Rattle.layout_make.proofs.ReadyNets.{IsReady}
use Rattle.rowed.specs.declared.wire.Wire.{Wire}
use Rattle.sorting.specs.Numbers.{numbers}
use Rattle.layout_make.specs.Channel.{channel, in_column}
use Rattle.layout_make.proofs.Member.{In, in_head, not_in_nil, in_append, in_left, in_right, in_map, map_in}
use Rattle.layout_make.proofs.Member.{in_flat_map}
use Rattle.layout_make.proofs.Member.{flat_map_in, in_upto, upto_in}
use Rattle.layout_make.proofs.Sound.{wire_is, frame_fits, in_odd, out_even}

-- what a cell draws
pub data CellPart (l : LibraryView) (r : ℕ) (x : Spot) (t : Tag) : Type 0 where
  TheFrame : t ≡ Frame r x.slot x.cell.kind → CellPart l r x t
  APin : (side : Side) (i : ℕ) → i < pins_on side x.cell.kind → t ≡ pin_tag side r (pin_column l side x i) i
      → CellPart l r x t

-- what a wire draws
pub data WirePart (r c : ℕ) (t : Tag) : Type 0 where
  TheRise : t ≡ Rise r c → WirePart r c t
  TheFall : t ≡ Fall r c → WirePart r c t
  TheAcross : t ≡ Across r c → WirePart r c t
  TheFromVia : t ≡ FromVia r c → WirePart r c t
  TheToVia : t ≡ ToVia r c → WirePart r c t

pub data RowPart (p : PlacedView) (l : LibraryView) (r : ℕ) (t : Tag) : Type 0 where
  OfCell : (x : Spot) → In x (spots p r) → CellPart l r x t → RowPart p l r t
  TheLead : t ≡ Lead (suc r) → RowPart p l r t
  TheBar : t ≡ Bar (suc r) → RowPart p l r t
  OfWire : (w : Wire) → In w (channel p l r) → WirePart r w.from_column t → RowPart p l r t

pub cell_part : (l : LibraryView) (r : ℕ) (x : Spot) (t : Tag) → In t (spot_tags l r x) → CellPart l r x t
cell_part l r x t h =
    elim (in_head t (Frame r x.slot x.cell.kind) (side_tags l r Inputs x ++ side_tags l r Outputs x) h) [
      | inl e ↦ TheFrame e
      | inr k ↦ elim (in_append t (side_tags l r Inputs x) (side_tags l r Outputs x) k)
          [ inl m ↦ of_side Inputs m | inr m ↦ of_side Outputs m ]
    ]
  where
    of_side : (side : Side) → In t (side_tags l r side x) → CellPart l r x t
    of_side side m = let n = in_map (λ i. pin_tag side r (pin_column l side x i) i) t
        (numbers 0 (pins_on side x.cell.kind)) m in APin side n.0 (in_upto (pins_on side x.cell.kind) n.0 n.1) n.2

pub wire_part : (r : ℕ) (w : Wire) (t : Tag) → In t (wire_tags r w) → WirePart r w.from_column t
wire_part r w t (zero, e) = TheRise (sym (same_Some _ _ e))
wire_part r w t (suc zero, e) = TheFall (sym (same_Some _ _ e))
wire_part r w t (suc (suc zero), e) = TheAcross (sym (same_Some _ _ e))
wire_part r w t (suc (suc (suc zero)), e) = TheFromVia (sym (same_Some _ _ e))
wire_part r w t (suc (suc (suc (suc zero))), e) = TheToVia (sym (same_Some _ _ e))
wire_part r w t (suc (suc (suc (suc (suc i)))), e) = absurd cc

pub row_part : (p : PlacedView) (l : LibraryView) (r : ℕ) (t : Tag) → In t (row_tags p l r) → RowPart p l r t
row_part p l r t h =
    elim (in_append t (flat_map (spot_tags l r) (spots p r))
    (line_tags r ++ flat_map (wire_tags r) (channel p l r)) h) [
      | inl k ↦ let m = in_flat_map (spot_tags l r) t (spots p r) k in OfCell m.0 m.1 (cell_part l r m.0 t m.2)
      | inr k ↦ elim (in_head t (Lead (suc r)) (Bar (suc r) ∷ flat_map (wire_tags r) (channel p l r)) k) [
        | inl e ↦ TheLead e
        | inr m ↦ elim (in_head t (Bar (suc r)) (flat_map (wire_tags r) (channel p l r)) m) [
          | inl e ↦ TheBar e
          | inr n ↦ let o = in_flat_map (wire_tags r) t (channel p l r) n in OfWire o.0 o.1 (wire_part r o.0 t o.2)
        ]
      ]
    ]

pub row_of_tag : (p : PlacedView) (l : LibraryView) (t : Tag)
    → In t (flat_map (row_tags p l) (numbers 0 (length p.net.rows)))
    → (r : ℕ) × (r < length p.net.rows) × RowPart p l r t
row_of_tag p l t h = let m = in_flat_map (row_tags p l) t (numbers 0 (length p.net.rows)) h in
    (m.0, in_upto (length p.net.rows) m.0 m.1, row_part p l m.0 t m.2)

-- what a delay draws
pub lag_part : (lag : ℕ) (t : Tag) → In t (lag_tags lag) → (1 ≤ lag) × ((t ≡ Lead 0) ⊎ (t ≡ Bar 0))
lag_part zero t h = absurd (not_in_nil t h)
lag_part (suc lag) t h = elim (in_head t (Lead 0) (Bar 0 ∷ []) h) [
  | inl e ↦ (omega arith, inl e)
  | inr k ↦ elim (in_head t (Bar 0) [] k) [ inl e ↦ (omega arith, inr e) | inr n ↦ absurd (not_in_nil t n) ]
]

-- a tag that is no delay's stands in a row
pub tag_part : (p : PlacedView) (l : LibraryView) (t : Tag) → (t ≡ Lead 0 → ⊥) → (t ≡ Bar 0 → ⊥) → In t (tags p l)
    → (r : ℕ) × (r < length p.net.rows) × RowPart p l r t
tag_part p l t no_lead no_bar h =
    elim (in_append t (flat_map (row_tags p l) (numbers 0 (length p.net.rows))) (lag_tags p.lag) h) [
      | inl k ↦ row_of_tag p l t k
      | inr k ↦ elim (lag_part p.lag t k).1 [ inl e ↦ absurd (no_lead e) | inr e ↦ absurd (no_bar e) ]
    ]

-- the other way

row_stands : (p : PlacedView) (l : LibraryView) (r : ℕ) (t : Tag) → r < length p.net.rows → In t (row_tags p l r)
    → Stands (tags p l) t
row_stands p l r t lt h =
    in_left t (flat_map (row_tags p l) (numbers 0 (length p.net.rows))) (lag_tags p.lag)
    (flat_map_in (row_tags p l) r t (numbers 0 (length p.net.rows)) (upto_in (length p.net.rows) r lt) h)

lag_there : (lag : ℕ) → 1 ≤ lag → In (Lead 0) (lag_tags lag) × In (Bar 0) (lag_tags lag)
lag_there zero h = absurd (omega arith)
lag_there (suc lag) h = ((0, refl), (1, refl))

pub lead_stands : (p : PlacedView) (l : LibraryView) (n : ℕ) → IsStep (sheet p l) n → Stands (tags p l) (Lead n)
unfolding sheet
lead_stands p l zero step = in_right (Lead 0) (flat_map (row_tags p l) (numbers 0 (length p.net.rows)))
    (lag_tags p.lag) (lag_there p.lag (step.lagged refl)).0
lead_stands p l (suc r) step =
    row_stands p l r (Lead (suc r)) (let k = step.below in omega arith)
    (in_right (Lead (suc r)) (flat_map (spot_tags l r) (spots p r))
    (line_tags r ++ flat_map (wire_tags r) (channel p l r)) (0, refl))

pub bar_stands : (p : PlacedView) (l : LibraryView) (n : ℕ) → IsStep (sheet p l) n → Stands (tags p l) (Bar n)
unfolding sheet
bar_stands p l zero step = in_right (Bar 0) (flat_map (row_tags p l) (numbers 0 (length p.net.rows)))
    (lag_tags p.lag) (lag_there p.lag (step.lagged refl)).1
bar_stands p l (suc r) step =
    row_stands p l r (Bar (suc r)) (let k = step.below in omega arith)
    (in_right (Bar (suc r)) (flat_map (spot_tags l r) (spots p r))
    (line_tags r ++ flat_map (wire_tags r) (channel p l r)) (1, refl))

pub wire_stands : (p : PlacedView) (l : LibraryView) (r : ℕ) (w : Wire) (t : Tag) → r < length p.net.rows
    → In w (channel p l r) → In t (wire_tags r w) → Stands (tags p l) t
wire_stands p l r w t lt h k =
    row_stands p l r t lt
    (in_right t (flat_map (spot_tags l r) (spots p r)) (line_tags r ++ flat_map (wire_tags r) (channel p l r))
    (in_right t (line_tags r) (flat_map (wire_tags r) (channel p l r))
    (flat_map_in (wire_tags r) w t (channel p l r) h k)))

cell_stands : (p : PlacedView) (l : LibraryView) (r : ℕ) (x : Spot) (t : Tag) → r < length p.net.rows
    → In x (spots p r) → In t (spot_tags l r x) → Stands (tags p l) t
cell_stands p l r x t lt h k =
    row_stands p l r t lt
    (in_left t (flat_map (spot_tags l r) (spots p r)) (line_tags r ++ flat_map (wire_tags r) (channel p l r))
    (flat_map_in (spot_tags l r) x t (spots p r) h k))

pub frame_stands : (p : PlacedView) (l : LibraryView) (r : ℕ) (x : Spot) → r < length p.net.rows → In x (spots p r)
    → Stands (tags p l) (Frame r x.slot x.cell.kind)
frame_stands p l r x lt h = cell_stands p l r x (Frame r x.slot x.cell.kind) lt h (0, refl)

pub pin_stands : (p : PlacedView) (l : LibraryView) (side : Side) (r : ℕ) (x : Spot) (i : ℕ) → r < length p.net.rows
    → In x (spots p r) → i < pins_on side x.cell.kind
    → Stands (tags p l) (pin_tag side r (pin_column l side x i) i)
pin_stands p l side r x i lt h below =
    let k = of_cell side (map_in (λ i. pin_tag side r (pin_column l side x i) i) i
    (numbers 0 (pins_on side x.cell.kind)) (upto_in (pins_on side x.cell.kind) i below)) in
    cell_stands p l r x (pin_tag side r (pin_column l side x i) i) lt h (suc k.0, k.1)
  where
    of_cell : {t : Tag} (side : Side) → In t (side_tags l r side x)
        → In t (side_tags l r Inputs x ++ side_tags l r Outputs x)
    of_cell {t} Inputs k = in_left t (side_tags l r Inputs x) (side_tags l r Outputs x) k
    of_cell {t} Outputs k = in_right t (side_tags l r Inputs x) (side_tags l r Outputs x) k

pub input_stands : (p : PlacedView) (l : LibraryView) (r : ℕ) (x : Spot) (i : ℕ) → r < length p.net.rows
    → In x (spots p r) → i < inputs_of x.cell.kind → Stands (tags p l) (InPin r (in_column l x i) i)
input_stands p l r x i lt h below = pin_stands p l Inputs r x i lt h below

-- each tag fits its sheet

cell_fits : (p : PlacedView) (l : LibraryView) → IsReady p l → IsLawful l → (r : ℕ) (x : Spot) (t : Tag)
    → r < length p.net.rows → In x (spots p r) → CellPart l r x t → Fits (sheet p l) t
unfolding sheet
cell_fits p l is laws r x t lt h (TheFrame e) =
    subst (Fits (sheet p l)) (sym e) (lt, frame_fits p l r x h, is.given r h.0 x h.1)
cell_fits p l is laws r x t lt h (APin Inputs i li e) =
    subst (Fits (sheet p l)) (sym e) (in_odd p l is laws r h.0 x i h.1 li)
cell_fits p l is laws r x t lt h (APin Outputs o lo e) =
    subst (Fits (sheet p l)) (sym e) (out_even p l is laws r h.0 x o h.1 lo)

wire_fits : (p : PlacedView) (l : LibraryView) (r c : ℕ) (t : Tag) → IsWire (sheet p l) r c → WirePart r c t
    → Fits (sheet p l) t
wire_fits p l r c t w (TheRise e) = subst (Fits (sheet p l)) (sym e) w
wire_fits p l r c t w (TheFall e) = subst (Fits (sheet p l)) (sym e) w
wire_fits p l r c t w (TheAcross e) = subst (Fits (sheet p l)) (sym e) w
wire_fits p l r c t w (TheFromVia e) = subst (Fits (sheet p l)) (sym e) w
wire_fits p l r c t w (TheToVia e) = subst (Fits (sheet p l)) (sym e) w

part_fits : (p : PlacedView) (l : LibraryView) → IsReady p l → IsLawful l → (r : ℕ) (t : Tag) → r < length p.net.rows
    → RowPart p l r t → Fits (sheet p l) t
unfolding sheet
part_fits p l is laws r t lt (OfCell x h part) = cell_fits p l is laws r x t lt h part
part_fits p l is laws r t lt (TheLead e) = subst (Fits (sheet p l)) (sym e)
    (record { below = omega arith; lagged = λ z. absurd (omega arith) })
part_fits p l is laws r t lt (TheBar e) = subst (Fits (sheet p l)) (sym e)
    (record { below = omega arith; lagged = λ z. absurd (omega arith) })
part_fits p l is laws r t lt (OfWire w h part) = wire_fits p l r w.from_column t (wire_is p l is laws r w h).0 part

pub all_fit : (p : PlacedView) (l : LibraryView) → IsReady p l → IsLawful l → (i : ℕ) (t : Tag) → At (tags p l) i t
    → Fits (sheet p l) t
unfolding sheet
all_fit p l is laws i t at =
    elim (in_append t (flat_map (row_tags p l) (numbers 0 (length p.net.rows))) (lag_tags p.lag) (i, at)) [
      | inl k ↦ let m = row_of_tag p l t k in part_fits p l is laws m.0 t m.1 m.2
      | inr k ↦ let m = lag_part p.lag t k in
          let step : IsStep (sheet p l) 0 = record { below = omega arith; lagged = λ z. m.0 } in
          elim m.1 [ inl e ↦ subst (Fits (sheet p l)) (sym e) step | inr e ↦ subst (Fits (sheet p l)) (sym e) step ]
    ]
