-- What is drawn fits the numbers of a stream.
use Rattle.std.proofs.Common.{◌≡◌, ℕ, zero, suc, ◌+◌, ◌*◌, ◌/◌, ◌<◌, ◌≤◌, ◌^◌, min, max, sym, ap, subst, ◌∙◌, arith}
use Rattle.std.proofs.Common.{lt→ltb, inl, inr, pos, negsuc, neg_ℤ, ◌<ℤ◌, ℤ, FitsSigned, Bool, true, false}
use Rattle.std.proofs.Common.{if◌then◌else◌}
use Rattle.std.specs.Int.{w32}
use Rattle.std.proofs.lemmas.Int.{fits_signed_from_abs}
use Rattle.std.proofs.Math.Nat.{mul-le-mul_right}
use Rattle.std.proofs.lemmas.Bool.{cases_lt}
use Rattle.circuit.specs.CellKinds.{number_of, slots_of, inputs_of, outputs_of}
use Rattle.circuit.specs.declared.cell_kind.CellKind.{CellKind}
use Rattle.circuit.specs.declared.cell_kind.CellKind.TheVariants.{Buffer}
use Rattle.geom.specs.Writable.{IsWritableShape}
use Rattle.rowed.specs.declared.wire.Wire.{Wire}
use Rattle.rowed.specs.PlacedNets.{PlacedView, placed_rows}
use Rattle.rowed.specs.Extent.{widest}
use Rattle.rowed.specs.Limits.{width_limit}
use Rattle.rowed.proofs.SpanLaws.{at_most_three}
use Rattle.cell_library.specs.Library.{LibraryView, IsGiven, input_column_of, output_column_of}
use Rattle.cell_library.specs.Reach.{slot_width_of}
use Rattle.layout_make.proofs.Lawful.{IsLawful}
use Rattle.layout_make.specs.Code.Sizes.{AreSizes}
use Rattle.layout_make.specs.Sheet.{Sheet, Tag, Area, Frame, InPin, OutPin, centre, edge, rect_of, shape_of, lower_edge}
use Rattle.layout_rules.specs.declared.layers.TheConstants.{START, LINK}
use Rattle.layout_make.specs.Sheet.{flank_rect, Flank, LeftOf, Over, RightOf, begins, lead_use}
use Rattle.layout_make.specs.declared.marks.Ports.TheVariants.{Inputs, Outputs}
use Rattle.layout_make.proofs.SheetKeeps.{IsWire}
use Rattle.layout_make.specs.Spots.{Spot}
use Rattle.layout_make.proofs.ReadyNets.{IsReady}
use Rattle.layout_make.specs.Channel.{channel}
use Rattle.layout_make.specs.Draw.{alone}
use Rattle.layout_make.proofs.ChannelWires.{wire_of}
use Rattle.layout_make.proofs.Columns.{centre_rises, track_above, track_below}
use Rattle.layout_make.proofs.Member.{In}
use Rattle.layout_make.proofs.Origins.{WirePart, TheRise, TheFall, TheAcross, TheFromVia, TheToVia, CellPart, TheFrame}
use Rattle.layout_make.proofs.Origins.{APin}
use Rattle.layout_make.proofs.PinCounts.{outputs_slots, inputs_slots, slots_some}
use Rattle.layout_make.proofs.Sound.{widest_most}
use Rattle.layout_make.proofs.WireLengths.{wire_within}

pos_less : (a b : ℕ) → a < b → pos a <ℤ pos b
pos_less a b h = record { lt = lt→ltb a b h }

neg_less : (a : ℕ) → 0 < a → neg_ℤ (pos a) <ℤ pos 0
neg_less zero h = absurd (omega arith)
neg_less (suc a) h = record { lt = tt }

pub fits_pos : (n : ℕ) → n < 2 ^ 31 → FitsSigned w32 (pos n)
fits_pos n h = fits_signed_from_abs w32 (pos n) h

fits_neg : (n : ℕ) → n < 2 ^ 31 → FitsSigned w32 (neg_ℤ (pos n))
fits_neg zero h = fits_signed_from_abs w32 (pos zero) h
fits_neg (suc n) h = fits_signed_from_abs w32 (negsuc n) h

pub area_writable : (layer datatype : ℕ) (a : Area) → layer < 2 ^ 16 → datatype < 2 ^ 16 → a.left < a.right
    → a.low < a.high → a.right < 2 ^ 31 → a.high < 2 ^ 31
    → IsWritableShape (record { layer = layer; datatype = datatype; rect = rect_of a })
area_writable layer datatype a x y wide high right above = record {
  layer = x;
  datatype = y;
  proper = record { wide = pos_less a.left a.right wide; high = pos_less a.low a.high high };
  left = fits_pos a.left (omega arith);
  bottom = fits_pos a.low (omega arith);
  right = fits_pos a.right right;
  above = fits_pos a.high above;
}

-- wires

pub wire_right : (p : PlacedView) (l : LibraryView) → IsReady p l → IsLawful l → widest (placed_rows p) * slot_width_of
    l ≤ width_limit → (r : ℕ) (w : Wire) → In w (channel p l r) → ((w.from_column + 1) * l.pitch ≤ width_limit)
    × ((w.to_column + 1) * l.pitch ≤ width_limit)
wire_right p l is laws narrow r w h =
    let a = wire_of p l is r w h in
    let k = wire_within p l is laws r w h in
    let from : w.from_slot ≡ a.from.slot + a.source.output = ap (λ (v : Wire). v.from_slot) a.wire_is in
    let to : w.to_slot ≡ a.spot.slot + a.pin = ap (λ (v : Wire). v.to_slot) a.wire_is in
    let m = widest (placed_rows p) in
    let b = widest_most p.net.rows p.slots r a.from (a.source.cell, a.from_at) in
    let c = widest_most p.net.rows p.slots (suc r) a.spot (a.cell, a.at) in
    let d = outputs_slots a.from.cell.kind in let e = inputs_slots a.spot.cell.kind in
    let f = a.output_below in let g = a.pin_below in
    (go w.from_slot w.from_column m (omega arith) k.0.up_to, go w.to_slot w.to_column m (omega arith) k.1.up_to)
  where
    go : (slot column m : ℕ) → suc slot ≤ widest (placed_rows p) → column < suc slot * l.columns
        → (column + 1) * l.pitch ≤ width_limit
    go slot column m le lt =
        let x : suc slot * l.columns ≤ widest (placed_rows p) * l.columns = mul-le-mul_right l.columns le in
        let y : (column + 1) * l.pitch ≤ (widest (placed_rows p) * l.columns) * l.pitch = mul-le-mul_right l.pitch
        (let z : column + 1 ≤ widest (placed_rows p) * l.columns = omega arith in z) in
        omega arith

strip_right : (l : LibraryView) → IsLawful l → (c : ℕ) → (c + 1) * l.pitch ≤ width_limit
    → centre l c + l.wire / 2 ≤ width_limit
unfolding centre
strip_right l laws c le = let a = laws.spaced in omega arith

strip_right_of : (l : LibraryView) → IsLawful l → (c d : ℕ) → (c + 1) * l.pitch ≤ width_limit
    → (d + 1) * l.pitch ≤ width_limit → centre l (max c d) + l.wire / 2 ≤ width_limit
strip_right_of l laws c d a b = elim (cases_lt c d) [
  | inl lt ↦ subst (λ (n : ℕ). centre l n + l.wire / 2 ≤ width_limit) (let h : d ≡ max c d = omega arith in h)
      (strip_right l laws d b)
  | inr ge ↦ subst (λ (n : ℕ). centre l n + l.wire / 2 ≤ width_limit) (let h : c ≡ max c d = omega arith in h)
      (strip_right l laws c a)
]

pub wire_written : (s : Sheet) → IsLawful s.library → AreSizes s.library → (r c : ℕ) (t : Tag) → WirePart r c t
    → IsWire s r c → (c + 1) * s.library.pitch ≤ width_limit → (s.to r c + 1) * s.library.pitch ≤ width_limit
    → lower_edge s (suc r) + s.library.height ≤ 2147483647 → IsWritableShape (shape_of s t)
wire_written s laws sizes r c t part w from to low = go part
  where
    go : WirePart r c t → IsWritableShape (shape_of s t)
    go (TheRise e) = subst (λ (u : Tag). IsWritableShape (shape_of s u)) (sym e) (
        let a = track_above s.library s.used r (s.track r c) in
        let b = track_below s.library s.used r (s.track r c) w.tracked in
        let half = sizes.wire_half in let thin = laws.spaced in let x = strip_right s.library laws c from in
        area_writable _ _ _ (omega arith) (omega arith) (omega arith) (omega arith) (omega arith) (omega arith))
    go (TheFall e) = subst (λ (u : Tag). IsWritableShape (shape_of s u)) (sym e) (
        let a = track_above s.library s.used r (s.track r c) in
        let b = track_below s.library s.used r (s.track r c) w.tracked in
        let half = sizes.wire_half in let thin = laws.spaced in let tall = laws.tall in
        let x = strip_right s.library laws (s.to r c) to in
        area_writable _ _ _ (omega arith) (omega arith) (omega arith) (omega arith) (omega arith) (omega arith))
    go (TheAcross e) = subst (λ (u : Tag). IsWritableShape (shape_of s u)) (sym e) (
        let a = track_above s.library s.used r (s.track r c) in
        let b = track_below s.library s.used r (s.track r c) w.tracked in
        let half = sizes.wire_half in let thin = laws.spaced in
        let x = strip_right_of s.library laws c (s.to r c) from to in
        let rise = centre_rises s.library (min c (s.to r c)) (max c (s.to r c)) (omega arith) in
        area_writable _ _ _ (omega arith) (omega arith) (omega arith) (omega arith) (omega arith) (omega arith))
    go (TheFromVia e) = subst (λ (u : Tag). IsWritableShape (shape_of s u)) (sym e) (
        let a = track_above s.library s.used r (s.track r c) in
        let b = track_below s.library s.used r (s.track r c) w.tracked in
        let half = sizes.via_half in let thin = laws.spaced in let small = sizes.via_in_wire in
        let x = strip_right s.library laws c from in
        area_writable _ _ _ (omega arith) (omega arith) (omega arith) (omega arith) (omega arith) (omega arith))
    go (TheToVia e) = subst (λ (u : Tag). IsWritableShape (shape_of s u)) (sym e) (
        let a = track_above s.library s.used r (s.track r c) in
        let b = track_below s.library s.used r (s.track r c) w.tracked in
        let half = sizes.via_half in let thin = laws.spaced in let small = sizes.via_in_wire in
        let x = strip_right s.library laws (s.to r c) to in
        area_writable _ _ _ (omega arith) (omega arith) (omega arith) (omega arith) (omega arith) (omega arith))

-- lines

pub use_small : (lag n : ℕ) → lead_use lag n < 2 ^ 16
use_small lag n = go (begins lag n)
  where
    go : (b : Bool) → (if b then START else LINK) < 2 ^ 16
    go true = omega arith
    go false = omega arith

-- heights that fit, the one below the other
pub record AreHeights (low high : ℤ) : Type 0 where
  pub rise : low <ℤ high
  pub low_fits : FitsSigned w32 low
  pub high_fits : FitsSigned w32 high

pub row_heights : (low high : ℕ) → low < high → high ≤ 2147483647 → AreHeights (pos low) (pos high)
row_heights low high lt fits = record {
  rise = pos_less low high lt;
  low_fits = fits_pos low (omega arith);
  high_fits = fits_pos high (omega arith);
}

less_below : (a b : ℕ) → b < a → neg_ℤ (pos a) <ℤ neg_ℤ (pos b)
less_below zero b h = absurd (omega arith)
less_below (suc a) zero h = record { lt = tt }
less_below (suc a) (suc b) h = record { lt = lt→ltb b a (omega arith) }

-- those of a delay, below the rows, and those from there up to a row
pub lag_heights : (l : LibraryView) → 1 ≤ l.height → l.height ≤ 1000000
    → AreHeights (neg_ℤ (pos (2 * l.height))) (neg_ℤ (pos l.height))
lag_heights l some most = record {
  rise = less_below (2 * l.height) l.height (omega arith);
  low_fits = fits_neg (2 * l.height) (omega arith);
  high_fits = fits_neg l.height (omega arith);
}

neg_under : (a b : ℕ) → 0 < a → neg_ℤ (pos a) <ℤ pos b
neg_under zero b h = absurd (omega arith)
neg_under (suc a) b h = record { lt = tt }

pub link_heights : (l : LibraryView) (high : ℕ) → 1 ≤ l.height → l.height ≤ 1000000 → high ≤ 2147483647
    → AreHeights (neg_ℤ (pos (2 * l.height))) (pos high)
link_heights l high some most fits = record {
  rise = neg_under (2 * l.height) high (omega arith);
  low_fits = fits_neg (2 * l.height) (omega arith);
  high_fits = fits_pos high (omega arith);
}

pub flank_written : (l : LibraryView) (layer datatype right : ℕ) (low high : ℤ) (flank : Flank) → layer < 2 ^ 16
    → datatype < 2 ^ 16 → 1 ≤ l.pitch → l.pitch ≤ 1000000 → 0 < right → right ≤ width_limit → AreHeights low high
    → IsWritableShape (record { layer = layer; datatype = datatype; rect = flank_rect l right flank low high })
flank_written l layer datatype right low high LeftOf a b some few wide narrow are = record {
  layer = a;
  datatype = b;
  proper = record { wide = neg_less (2 * l.pitch) (omega arith); high = are.rise };
  left = fits_neg (2 * l.pitch) (omega arith);
  bottom = are.low_fits;
  right = fits_pos 0 (omega arith);
  above = are.high_fits;
}
flank_written l layer datatype right low high Over a b some few wide narrow are = record {
  layer = a;
  datatype = b;
  proper = record { wide = pos_less 0 right wide; high = are.rise };
  left = fits_pos 0 (omega arith);
  bottom = are.low_fits;
  right = fits_pos right (omega arith);
  above = are.high_fits;
}
flank_written l layer datatype right low high RightOf a b some few wide narrow are = record {
  layer = a;
  datatype = b;
  proper = record { wide = pos_less right (right + 2 * l.pitch) (omega arith); high = are.rise };
  left = fits_pos right (omega arith);
  bottom = are.low_fits;
  right = fits_pos (right + 2 * l.pitch) (omega arith);
  above = are.high_fits;
}

-- cells by themselves

number_small : (k : CellKind) → number_of k < 2 ^ 16
number_small Buffer = omega arith
number_small k = omega arith

column_right : (l : LibraryView) (k : CellKind) (i column : ℕ) → slots_of k * (l.columns * l.pitch) ≤ width_limit
    → i < slots_of k → column < (i + 1) * l.columns → (0 * l.columns + column + 1) * l.pitch ≤ width_limit
column_right l k i column fits lt below =
    let a : (i + 1) * l.columns ≤ slots_of k * l.columns = mul-le-mul_right l.columns
    (let h : i + 1 ≤ slots_of k = omega arith in h) in
    let b : (0 * l.columns + column + 1) * l.pitch ≤ (slots_of k * l.columns) * l.pitch = mul-le-mul_right l.pitch
    (let h : 0 * l.columns + column + 1 ≤ slots_of k * l.columns = omega arith in h) in
    omega arith

pub cell_written : (l : LibraryView) → IsLawful l → AreSizes l → (k : CellKind) → IsGiven l k
    → slots_of k * (l.columns * l.pitch) ≤ width_limit → (x : Spot) → x.slot ≡ 0 → x.cell.kind ≡ k → (t : Tag)
    → CellPart l 0 x t → IsWritableShape (shape_of (alone l) t)
unfolding edge
cell_written l laws sizes k given fits x at is t (TheFrame e) =
    subst (λ (u : Tag). IsWritableShape (shape_of (alone l) u))
    (sym (e ∙ ap (λ (n : ℕ). Frame 0 n x.cell.kind) at ∙ ap (Frame 0 0) is)) (
    let some : 1 ≤ slots_of k * (l.columns * l.pitch) = cells_some in
    let tall = laws.tall in let space = laws.space_some in let most = sizes.height_most in
    area_writable _ _ _ (omega arith) (number_small k) (omega arith) (omega arith) (omega arith) (omega arith))
  where
    cells_some : 1 ≤ slots_of k * (l.columns * l.pitch)
    cells_some =
        let a = slots_some k in let b = laws.columns_some in let c = laws.spaced in let d = laws.space_some in
        let m : 1 * l.pitch ≤ l.columns * l.pitch = mul-le-mul_right l.pitch b in
        let n : 1 * (l.columns * l.pitch) ≤ slots_of k * (l.columns * l.pitch) = mul-le-mul_right (l.columns * l.pitch)
        a in
        omega arith
cell_written l laws sizes k given fits x at is t (APin Inputs i lt e) =
    subst (λ (u : Tag). IsWritableShape (shape_of (alone l) u))
    (sym (e ∙ ap (λ (n : ℕ). InPin 0 (n * l.columns + input_column_of l x.cell.kind i) i) at
    ∙ ap (λ (j : CellKind). InPin 0 (0 * l.columns + input_column_of l j i) i) is)) (
    let below : i < inputs_of k = subst (λ (j : CellKind). i < inputs_of j) is lt in
    let slot = inputs_slots k in let most = at_most_three k in let half = sizes.wire_half in let pin = sizes.pin_some in
    let pins = sizes.pin_most in
    let right = strip_right l laws (0 * l.columns + input_column_of l k i)
    (column_right l k i (input_column_of l k i) fits (omega arith) (laws.input_most k i given below)) in
    area_writable _ _ _ (omega arith) (omega arith) (omega arith) (omega arith) (omega arith) (omega arith))
cell_written l laws sizes k given fits x at is t (APin Outputs i lt e) =
    subst (λ (u : Tag). IsWritableShape (shape_of (alone l) u))
    (sym (e ∙ ap (λ (n : ℕ). OutPin 0 (n * l.columns + output_column_of l x.cell.kind i) i) at
    ∙ ap (λ (j : CellKind). OutPin 0 (0 * l.columns + output_column_of l j i) i) is)) (
    let below : i < outputs_of k = subst (λ (j : CellKind). i < outputs_of j) is lt in
    let slot = outputs_slots k in let most = at_most_three k in let half = sizes.wire_half in
    let pin = sizes.pin_some in
    let low = sizes.pin_low in let high = sizes.height_most in
    let right = strip_right l laws (0 * l.columns + output_column_of l k i)
    (column_right l k i (output_column_of l k i) fits (omega arith) (laws.output_most k i given below)) in
    area_writable _ _ _ (omega arith) (omega arith) (omega arith) (omega arith) (omega arith) (omega arith))
