-- A drawing keeps its wires and cells whole.
use Rattle.std.proofs.Common.{◌≡◌, ℕ, zero, suc, ◌+◌, ◌*◌, ◌<◌, ◌≤◌, false, refl, sym, ap, subst, ◌∙◌, arith, ◌⊎◌, inl}
use Rattle.std.proofs.Common.{inr}
use Rattle.std.proofs.Common.{List, [], ◌∷◌, length, get_or, Some, slice_get, slice_index_or}
use Rattle.std.proofs.lemmas.Option.{same_Some}
use Rattle.std.proofs.lemmas.Bool.{cases_order}
use Rattle.cell_library.specs.Library.{LibraryView}
use Rattle.layout_make.proofs.Lawful.{IsLawful}
use Rattle.circuit.specs.declared.cell_kind.CellKind.{CellKind}
use Rattle.circuit.specs.CellKinds.{outputs_of, slots_of}
use Rattle.layout_make.specs.Sheet.{Tag, Frame, InPin, OutPin, Lead, Bar, Rise, Fall, Across, FromVia, ToVia}
use Rattle.layout_make.specs.declared.marks.Ports.{Ports as Side}
use Rattle.layout_make.specs.declared.marks.Ports.TheVariants.{Inputs, Outputs}
use Rattle.layout_make.proofs.Sides.{pins_on, column_on, pin_column, pin_tag, pin_told, is_pin_tag, no_pin}
use Rattle.layout_make.proofs.SheetKeeps.{IsWire, Stands, IsDrawn, Owner, HasCells}
use Rattle.layout_make.specs.Tags.{At, sheet, wire_tags, tags}
use Rattle.rowed.specs.PlacedNets.{PlacedView}
use Rattle.layout_make.specs.Spots.{Spot, spots, spots_of, IsInput}
use Rattle.layout_make.proofs.ReadyNets.{IsReady}
use Rattle.rowed.specs.declared.source.Source.{Source}
use Rattle.rowed.specs.declared.row_cell.RowCell.{RowCell}
use Rattle.rowed.specs.RowCells.{source_at}
use Rattle.rowed.specs.declared.wire.Wire.{Wire}
use Rattle.layout_make.specs.Channel.{channel, in_column, out_column, wire_to}
use Rattle.layout_make.proofs.Member.{In}
use Rattle.layout_make.proofs.ChannelWires.{wire_of, pin_channel, packed_apart}
use Rattle.layout_make.proofs.Sound.{wire_is, wired_wire, routed}
use Rattle.layout_make.proofs.Origins.{TheFrame, APin, TheRise, TheFall, TheAcross, TheFromVia, TheToVia}
use Rattle.layout_make.proofs.Origins.{RowPart, OfCell, TheLead, TheBar, OfWire, tag_part, lead_stands, bar_stands}
use Rattle.layout_make.proofs.Origins.{wire_stands, frame_stands, pin_stands, all_fit}
use Rattle.layout_make.proofs.Drawn.{once_tags}

pub row_there : (rows : List (List RowCell)) (r : ℕ) (slots : List ℕ) (i : ℕ) (x : Spot)
    → slice_get (spots_of (get_or rows r []) slots) i ≡ Some x → r < length rows
row_there [] r slots i x e = absurd (let k : slice_get (spots_of [] slots) i ≡ Some x = e in cc)
row_there (row ∷ rows) zero slots i x e = omega arith
row_there (row ∷ rows) (suc r) slots i x e = let k = row_there rows r slots i x e in omega arith

pub spot_row : (p : PlacedView) (r : ℕ) (x : Spot) → In x (spots p r) → r < length p.net.rows
spot_row p r x h = row_there p.net.rows r (slice_index_or p.slots r []) h.0 x h.1

pub wire_row : (p : PlacedView) (l : LibraryView) → IsReady p l → (r : ℕ) (w : Wire) → In w (channel p l r)
    → (r < length p.net.rows) × (suc r < length p.net.rows)
wire_row p l is r w h =
    let a = wire_of p l is r w h in
    (spot_row p r a.from (a.source.cell, a.from_at), spot_row p (suc r) a.spot (a.cell, a.at))

wire_tag : (p : PlacedView) (l : LibraryView) → IsReady p l → (t : ℕ → ℕ → Tag) (n : ℕ)
    → ((r : ℕ) (w : Wire) → slice_get (wire_tags r w) n ≡ Some (t r w.from_column)) → (r c : ℕ)
    → IsWire (sheet p l) r c → Stands (tags p l) (t r c)
wire_tag p l is t n at r c wire =
    let w = wired_wire p l r c wire in
    subst (λ (x : ℕ). Stands (tags p l) (t r x)) w.2
    (wire_stands p l r w.0 (t r w.0.from_column) (wire_row p l is r w.0 w.1).0 w.1 (n, at r w.0))

pub drawn : (p : PlacedView) (l : LibraryView) → IsReady p l → IsLawful l → IsDrawn (sheet p l) (tags p l)
unfolding sheet
drawn p l is laws = record {
  routed = routed p l is laws;
  fits = all_fit p l is laws;
  once = once_tags p l is laws;
  rises = wire_tag p l is Rise 0 (λ r w. refl);
  falls = wire_tag p l is Fall 1 (λ r w. refl);
  crosses = wire_tag p l is Across 2 (λ r w. refl);
  begins = wire_tag p l is FromVia 3 (λ r w. refl);
  ends = wire_tag p l is ToVia 4 (λ r w. refl);
  leads = lead_stands p l;
  bars = bar_stands p l;
}

-- where frames and pins come from

pub record FrameFrom (p : PlacedView) (r slot : ℕ) (k : CellKind) : Type 0 where
  pub spot : Spot
  pub place : In spot (spots p r)
  pub slot_so : spot.slot ≡ slot
  pub kind_so : spot.cell.kind ≡ k

pub frame_from : (p : PlacedView) (l : LibraryView) (j r slot : ℕ) (k : CellKind) → At (tags p l) j (Frame r slot k)
    → FrameFrom p r slot k
frame_from p l j r slot k at =
    let m = tag_part p l (Frame r slot k) (λ e. absurd cc) (λ e. absurd cc) (j, at) in
    go m.0 m.2
  where
    same : (r slot : ℕ) (k : CellKind) (q : ℕ) (x : Spot) → In x (spots p q)
        → Frame r slot k ≡ Frame q x.slot x.cell.kind → FrameFrom p r slot k
    same r slot k q x h e = let a : q ≡ r = cc in let b : x.slot ≡ slot = cc in
        let c : x.cell.kind ≡ k = cc in
        record { spot = x; place = subst (λ (n : ℕ). In x (spots p n)) a h; slot_so = b; kind_so = c }

    go : (q : ℕ) → RowPart p l q (Frame r slot k) → FrameFrom p r slot k
    go q (OfCell x h (TheFrame e)) = same r slot k q x h e
    go q (OfCell x h (APin side i lt e)) = absurd (no_pin side q _ i _ refl (sym e))
    go q (TheLead e) = absurd cc
    go q (TheBar e) = absurd cc
    go q (OfWire w h (TheRise e)) = absurd cc
    go q (OfWire w h (TheFall e)) = absurd cc
    go q (OfWire w h (TheAcross e)) = absurd cc
    go q (OfWire w h (TheFromVia e)) = absurd cc
    go q (OfWire w h (TheToVia e)) = absurd cc

pub record PinFrom (p : PlacedView) (l : LibraryView) (side : Side) (r c i : ℕ) : Type 0 where
  pub spot : Spot
  pub place : In spot (spots p r)
  pub below : i < pins_on side spot.cell.kind
  pub column_so : c ≡ pin_column l side spot i

pub pin_from : (p : PlacedView) (l : LibraryView) (side : Side) (j r c i : ℕ) → At (tags p l) j (pin_tag side r c i)
    → PinFrom p l side r c i
pin_from p l side j r c i at = let m = tag_part p l (pin_tag side r c i) (λ e. no_pin side r c i (Lead 0) refl e)
    (λ e. no_pin side r c i (Bar 0) refl e) (j, at) in go m.0 m.2
  where
    Found : ℕ → ℕ → Spot → Side → Type 0
    Found q n x b = n < pins_on b x.cell.kind → pin_tag side r c i ≡ pin_tag b q (pin_column l b x n) n
        → PinFrom p l side r c i

    same : (q n : ℕ) (x : Spot) → In x (spots p q) → Found q n x side
    same q n x h lt e = let k = pin_told side side r c i q (pin_column l side x n) n e in
        record {
          spot = x;
          place = subst (λ (m : ℕ). In x (spots p m)) (sym k.1) h;
          below = subst (λ (m : ℕ). m < pins_on side x.cell.kind) (sym k.3) lt;
          column_so = k.2 ∙ ap (λ (m : ℕ). pin_column l side x m) (sym k.3);
        }

    other : (t : Tag) → is_pin_tag t ≡ false → pin_tag side r c i ≡ t → PinFrom p l side r c i
    other t off e = absurd (no_pin side r c i t off e)

    go : (q : ℕ) → RowPart p l q (pin_tag side r c i) → PinFrom p l side r c i
    go q (OfCell x h (TheFrame e)) = other _ refl e
    go q (OfCell x h (APin b n lt e)) =
        subst (Found q n x) (pin_told side b r c i q (pin_column l b x n) n e).0 (same q n x h) lt e
    go q (TheLead e) = other _ refl e
    go q (TheBar e) = other _ refl e
    go q (OfWire w h (TheRise e)) = other _ refl e
    go q (OfWire w h (TheFall e)) = other _ refl e
    go q (OfWire w h (TheAcross e)) = other _ refl e
    go q (OfWire w h (TheFromVia e)) = other _ refl e
    go q (OfWire w h (TheToVia e)) = other _ refl e

abbrev owner : (p : PlacedView) (l : LibraryView) (r : ℕ) (x : Spot) → In x (spots p r) → Owner (tags p l) r
owner p l r x h = record { slot = x.slot; kind = x.cell.kind; stands = frame_stands p l r x (spot_row p r x h) h }

-- the wire of an input, and the output that its source is
pub record InputWire (p : PlacedView) (l : LibraryView) (r : ℕ) (x : Spot) (i : ℕ) : Type 0 where
  pub source : Source
  pub source_is : source_at x.cell i ≡ Some source
  pub spot : Spot
  pub place : slice_get (spots p r) source.cell ≡ Some spot
  pub below : source.output < outputs_of spot.cell.kind
  pub wire : IsWire (sheet p l) r (out_column l spot source.output)
  pub to_so : (sheet p l).to r (out_column l spot source.output) ≡ in_column l x i

pub input_wire : (p : PlacedView) (l : LibraryView) → IsReady p l → IsLawful l → (r n i : ℕ) (x : Spot)
    → IsInput p (suc r) n i x → InputWire p l r x i
input_wire p l is laws r n i x input =
    let t = pin_channel p l is r n i x input in
    let wire = wire_is p l is laws r (wire_to l (Some t.from) t.source.output x i) t.stands in
    record {
      source = t.source;
      source_is = t.source_is;
      spot = t.from;
      place = t.from_at;
      below = t.below;
      wire = wire.0;
      to_so = wire.1;
    }

pub has_cells : (p : PlacedView) (l : LibraryView) → IsReady p l → IsLawful l → HasCells (sheet p l) (tags p l)
unfolding sheet
has_cells p l is laws = record {
  frames_some = λ r lt. let x = is.some_cell r lt in owner p l r x.0 (0, x.1);
  pins_owned = λ side j r c i at. let f = pin_from p l side j r c i at in
      (owner p l r f.spot f.place, f.below, f.column_so);
  pins_there = λ side r slot i k stands lt.
      let f = frame_from p l stands.0 r slot k stands.1 in
      let below : i < pins_on side f.spot.cell.kind = subst (λ (m : CellKind). i < pins_on side m) (sym f.kind_so) lt in
      let column : pin_column l side f.spot i ≡ slot * l.columns + column_on l side k
      i = ap (λ (m : ℕ). m * l.columns + column_on l side f.spot.cell.kind i) f.slot_so
      ∙ ap (λ (m : CellKind). slot * l.columns + column_on l side m i) f.kind_so in
      subst (λ (m : ℕ). Stands (tags p l) (pin_tag side r m i)) column
      (pin_stands p l side r f.spot i (spot_row p r f.spot f.place) f.place below);
  frames_apart = λ i j r a b k m ai aj. frames_part i j r a b k m ai aj (frame_from p l i r a k ai)
      (frame_from p l j r b m aj);
  wire_begins = λ r c wire.
      let w = wired_wire p l r c wire in
      let x = wire_of p l is r w.0 w.1 in
      let from : out_column l x.from x.source.output ≡ c = sym (ap (λ (v : Wire). v.from_column) x.wire_is) ∙ w.2 in (
        x.source.output,
        subst (λ (m : ℕ). Stands (tags p l) (OutPin r m x.source.output)) from
            (pin_stands p l Outputs r x.from x.source.output (wire_row p l is r w.0 w.1).0 (x.source.cell, x.from_at)
            x.output_below),
      );
  wire_ends = λ r c wire.
      let w = wired_wire p l r c wire in
      let x = wire_of p l is r w.0 w.1 in
      let to : in_column l x.spot x.pin ≡ (sheet p l).to r c = sym (ap (λ (v : Wire). v.to_column) x.wire_is)
      ∙ sym (wire_is p l is laws r w.0 w.1).1 ∙ ap (λ (m : ℕ). (sheet p l).to r m) w.2 in (
        x.pin,
        subst (λ (m : ℕ). Stands (tags p l) (InPin (suc r) m x.pin)) to
            (pin_stands p l Inputs (suc r) x.spot x.pin (wire_row p l is r w.0 w.1).1 (x.cell, x.at) x.pin_below),
      );
  inputs_wired = λ j r c i at.
      let f = pin_from p l Inputs j (suc r) c i at in
      let w = input_wire p l is laws r f.place.0 i f.spot (record { at = f.place.1; below = f.below }) in
      (out_column l w.spot w.source.output, w.wire, w.to_so ∙ sym f.column_so);
}
  where
    frames_part : (i j r a b : ℕ) (k m : CellKind) → At (tags p l) i (Frame r a k) → At (tags p l) j (Frame r b m)
        → FrameFrom p r a k → FrameFrom p r b m → (i ≡ j) ⊎ ((a + slots_of k ≤ b) ⊎ (b + slots_of m ≤ a))
    frames_part i j r a b k m ai aj f g = elim (cases_order f.place.0 g.place.0) [
      | inl e ↦ inl (
          let same : f.spot ≡ g.spot = same_Some _ _ (sym f.place.1 ∙ ap (λ (n : ℕ). slice_get (spots p r) n) e
          ∙ g.place.1) in
          let x : Frame r a k ≡ Frame r f.spot.slot f.spot.cell.kind = ap (λ (n : ℕ). Frame r n k) (sym f.slot_so)
          ∙ ap (λ (n : CellKind). Frame r f.spot.slot n) (sym f.kind_so) in
          let y : Frame r g.spot.slot g.spot.cell.kind ≡ Frame r b m = ap (λ (n : ℕ). Frame r n g.spot.cell.kind)
          g.slot_so ∙ ap (λ (n : CellKind). Frame r b n) g.kind_so in
          let z : Frame r a k ≡ Frame r b m = x ∙ ap (λ (n : Spot). Frame r n.slot n.cell.kind) same ∙ y in
          once_tags p l is laws i j (Frame r b m) (subst (λ (t : Tag). At (tags p l) i t) z ai) aj
          )
      | inr h ↦ elim h [
        | inl lt ↦ inr
            (inl (let w = packed_apart 0 (spots p r) f.place.0 g.place.0 f.spot g.spot (is.packed r) f.place.1
            g.place.1 lt in let s = f.slot_so in let t = g.slot_so in let u = ap slots_of f.kind_so in omega arith))
        | inr lt ↦ inr
            (inr (let w = packed_apart 0 (spots p r) g.place.0 f.place.0 g.spot f.spot (is.packed r) g.place.1
            f.place.1 lt in let s = f.slot_so in let t = g.slot_so in let u = ap slots_of g.kind_so in omega arith))
      ]
    ]
