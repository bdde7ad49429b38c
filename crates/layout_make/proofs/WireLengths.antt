-- The wires of a net whose wires move fewer slots than the reach are short enough.
use Rattle.std.proofs.Common.{◌≡◌, ℕ, zero, suc, ◌+◌, ◌-◌, ◌*◌, ◌/◌, ◌<◌, ◌≤◌, min, max, sym, ap, subst, ◌∙◌, arith}
use Rattle.std.proofs.Common.{inl, inr, List, [], ◌∷◌, length, Option, Some, None, slice_get, slice_index_or}
use Rattle.std.specs.List.{AllByRecursion}
use Rattle.std.proofs.Math.Nat.{mul-le-mul_right}
use Rattle.std.proofs.lemmas.Option.{same_Some}
use Rattle.std.proofs.lemmas.Bool.{cases_lt}
use Rattle.rowed.specs.declared.source.Source.{Source}
use Rattle.rowed.specs.declared.wire.Wire.{Wire}
use Rattle.rowed.specs.declared.row_cell.RowCell.{RowCell}
use Rattle.rowed.specs.RowCells.{source_at}
use Rattle.rowed.specs.RowNets.{row_at}
use Rattle.rowed.specs.Slots.{EachSeated}
use Rattle.rowed.specs.PlacedNets.{PlacedView, PlacedRow, paired, placed_rows, IsPlaced}
use Rattle.rowed.specs.Channels.{Link, source_slot, pin_link, links, move}
use Rattle.channel_route.specs.Crossing.{crossing}
use Rattle.channel_route.specs.ShortWires.{Within, FromApart, IsShortWire}
use Rattle.channel_route.proofs.FewCross.{below_capacity}
use Rattle.channel_route.specs.Tracks.{tracks_used, column_of}
use Rattle.cell_library.specs.declared.laws.Law.TheVariants.{Reach, Capacity}
use Rattle.cell_library.specs.Library.{LibraryView, input_column_of, output_column_of}
use Rattle.cell_library.specs.Laws.{IsLibrary}
use Rattle.cell_library.specs.Reach.{slot_width_of, fixed_length_of, length_reach_of, reach_of}
use Rattle.layout_make.proofs.Lawful.{IsLawful}
use Rattle.layout_make.proofs.SheetKeeps.{WiresShort}
use Rattle.rowed.specs.Short.{AreShort}
use Rattle.rowed.specs.Short as placed
use Rattle.layout_make.specs.Spots.{Spot, spots_of}
use Rattle.layout_make.proofs.ReadyNets.{IsReady}
use Rattle.layout_make.specs.Channel.{wire_to, channel}
use Rattle.layout_make.specs.Tags.{sheet}
use Rattle.layout_make.proofs.Member.{In, in_all}
use Rattle.layout_make.proofs.Ready.{lawful}
use Rattle.layout_make.proofs.ChannelWires.{wire_of, channel_pairs, from_slot_tells}
use Rattle.layout_make.proofs.Sound.{ends_apart, wire_is, wired_wire, pairs_with}
use Rattle.layout_make.proofs.Whole.{row_there}

-- the links of a channel are near, and so are its wires

abbrev Near : ℕ → Link → Type 0
Near most w = move w.from w.to ≤ most

pin_near : (most : ℕ) (lower : List ℕ) (slot : ℕ) (o : Option Source) (more : List Link)
    → AllByRecursion (Near most) (pin_link lower slot o more)
    → ((s : Source) → o ≡ Some s → move (source_slot lower s) slot ≤ most) × AllByRecursion (Near most) more
pin_near most lower slot None more all = (λ s e. absurd cc, all)
pin_near most lower slot (Some t) more all =
    (λ s e. subst (λ (u : Source). move (source_slot lower u) slot ≤ most) (same_Some _ _ e) all.0, all.1)

link_near : (most : ℕ) (lower : List ℕ) (cells : List RowCell) (slots : List ℕ)
    → AllByRecursion (Near most) (links lower cells slots) → (n i : ℕ) (x : Spot) (s : Source)
    → slice_get (spots_of cells slots) n ≡ Some x → source_at x.cell i ≡ Some s
    → move (source_slot lower s) (x.slot + i) ≤ most
link_near most lower [] slots all n i x s at e = absurd (let k : slice_get (spots_of [] slots) n ≡ Some x = at in cc)
link_near most lower (c ∷ cells) [] all n i x s at e = absurd cc
link_near most lower (c ∷ cells) (slot ∷ slots) all (suc n) i x s at e =
    let a = pin_near most lower slot c.source0
    (pin_link lower (suc slot) c.source1 (pin_link lower (suc (suc slot)) c.source2 (links lower cells slots)))
    all in
    let b = pin_near most lower (suc slot) c.source1
    (pin_link lower (suc (suc slot)) c.source2 (links lower cells slots)) a.1 in
    let d = pin_near most lower (suc (suc slot)) c.source2 (links lower cells slots) b.1 in
    link_near most lower cells slots d.1 n i x s at e
link_near most lower (c ∷ cells) (slot ∷ slots) all zero i x s at e =
    subst (λ (z : Spot). move (source_slot lower s) (z.slot + i) ≤ most) same
    (go i (ap (λ (z : Spot). source_at z.cell i) same ∙ e))
  where
    same : record { cell = c; slot = slot } ≡ x
    same = same_Some _ _ at

    go : (i : ℕ) → source_at c i ≡ Some s → move (source_slot lower s) (slot + i) ≤ most
    go zero e =
        let a = pin_near most lower slot c.source0
        (pin_link lower (suc slot) c.source1 (pin_link lower (suc (suc slot)) c.source2 (links lower cells slots)))
        all in subst (λ (n : ℕ). move (source_slot lower s) n ≤ most) (let k : slot ≡ slot + 0 = omega arith in k)
        (a.0 s e)
    go (suc zero) e =
        let a = pin_near most lower slot c.source0
        (pin_link lower (suc slot) c.source1 (pin_link lower (suc (suc slot)) c.source2 (links lower cells slots)))
        all in
        let b = pin_near most lower (suc slot) c.source1
        (pin_link lower (suc (suc slot)) c.source2 (links lower cells slots)) a.1 in
        subst (λ (n : ℕ). move (source_slot lower s) n ≤ most) (let k : suc slot ≡ slot + suc zero = omega arith in k)
        (b.0 s e)
    go (suc (suc zero)) e =
        let a = pin_near most lower slot c.source0
        (pin_link lower (suc slot) c.source1 (pin_link lower (suc (suc slot)) c.source2 (links lower cells slots)))
        all in
        let b = pin_near most lower (suc slot) c.source1
        (pin_link lower (suc (suc slot)) c.source2 (links lower cells slots)) a.1 in
        let d = pin_near most lower (suc (suc slot)) c.source2 (links lower cells slots) b.1 in
        subst (λ (n : ℕ). move (source_slot lower s) n ≤ most)
        (let k : suc (suc slot) ≡ slot + suc (suc zero) = omega arith in k) (d.0 s e)
    go (suc (suc (suc i))) e = absurd cc

-- row r of rows with their slots
abbrev pair_at : List (List RowCell) → List (List ℕ) → ℕ → PlacedRow
pair_at rows slots r = record { cells = row_at rows r; slots = slice_index_or slots r [] }

-- every channel of short rows is short
channel_short : (reach : ℕ) (rows : List (List RowCell)) (slots : List (List ℕ)) (r : ℕ) → suc r < length rows
    → EachSeated rows slots → AreShort reach (paired rows slots) → placed.IsShort reach (pair_at rows slots r)
    (pair_at rows slots (suc r))
channel_short reach [] slots r lt seats short = absurd (omega arith)
channel_short reach (row ∷ rows) [] r lt seats short = absurd seats
channel_short reach (row ∷ []) (s ∷ slots) r lt seats short = absurd (omega arith)
channel_short reach (row ∷ (next ∷ rows)) (s ∷ []) r lt seats short = absurd seats.1
channel_short reach (row ∷ (next ∷ rows)) (s ∷ (t ∷ slots)) zero lt seats short = short.0
channel_short reach (row ∷ (next ∷ rows)) (s ∷ (t ∷ slots)) (suc r) lt seats short =
    channel_short reach (next ∷ rows) (t ∷ slots) r (omega arith) seats.1 short.1

spot_slot : (cells : List RowCell) (slots : List ℕ) (n : ℕ) (x : Spot) → slice_get (spots_of cells slots) n ≡ Some x
    → slice_index_or slots n 0 ≡ x.slot
spot_slot [] slots n x e = absurd (let k : slice_get (spots_of [] slots) n ≡ Some x = e in cc)
spot_slot (c ∷ cells) [] n x e = absurd cc
spot_slot (c ∷ cells) (s ∷ slots) zero x e = ap (λ (z : Spot). z.slot) (same_Some _ _ e)
spot_slot (c ∷ cells) (s ∷ slots) (suc n) x e = spot_slot cells slots n x e

pub wire_near : (p : PlacedView) (l : LibraryView) → IsReady p l → IsPlaced p → (reach : ℕ)
    → AreShort reach (placed_rows p) → (r : ℕ) (w : Wire) → In w (channel p l r)
    → move w.from_slot w.to_slot ≤ reach - 1
wire_near p l is known reach short r w h =
    let a = wire_of p l is r w h in
    let lt = row_there p.net.rows (suc r) (slice_index_or p.slots (suc r) []) a.cell a.spot a.at in
    let all = channel_short reach p.net.rows p.slots r lt known.seated short in
    let near = link_near (reach - 1) (slice_index_or p.slots r []) (row_at p.net.rows (suc r))
    (slice_index_or p.slots (suc r) []) all a.cell a.pin a.spot a.source a.at a.takes in
    let slot = spot_slot (row_at p.net.rows r) (slice_index_or p.slots r []) a.source.cell a.from a.from_at in
    let from : w.from_slot ≡ source_slot (slice_index_or p.slots r []) a.source = ap (λ (v : Wire). v.from_slot)
    a.wire_is ∙ ap (λ (n : ℕ). n + a.source.output) (sym slot) in
    let to : w.to_slot ≡ a.spot.slot + a.pin = ap (λ (v : Wire). v.to_slot) a.wire_is in
    subst (λ (n : ℕ). move n w.to_slot ≤ reach - 1) (sym from)
    (subst (λ (n : ℕ). move (source_slot (slice_index_or p.slots r []) a.source) n ≤ reach - 1) (sym to) near)

-- the slots of a wire's columns

column_within : (c s i col : ℕ) → i * c ≤ col → col < (i + 1) * c → ((s + i) * c ≤ s * c + col)
    × (s * c + col < suc (s + i) * c)
column_within c s i col a b = (omega arith, omega arith)

pub wire_within : (p : PlacedView) (l : LibraryView) → IsReady p l → IsLawful l → (r : ℕ) (w : Wire)
    → In w (channel p l r) → Within l.columns w.from_slot w.from_column × Within l.columns w.to_slot w.to_column
wire_within p l is laws r w h =
    let a = wire_of p l is r w h in
    let gx = is.given (suc r) a.cell a.spot a.at in
    let gy = is.given r a.source.cell a.from a.from_at in
    let from = column_within l.columns a.from.slot a.source.output
    (output_column_of l a.from.cell.kind a.source.output)
    (laws.output_least a.from.cell.kind a.source.output gy a.output_below)
    (laws.output_most a.from.cell.kind a.source.output gy a.output_below) in
    let to = column_within l.columns a.spot.slot a.pin (input_column_of l a.spot.cell.kind a.pin)
    (laws.input_least a.spot.cell.kind a.pin gx a.pin_below)
    (laws.input_most a.spot.cell.kind a.pin gx a.pin_below) in
    let v = wire_to l (Some a.from) a.source.output a.spot a.pin in
    let wf : Within l.columns v.from_slot v.from_column = record { from_on = from.0; up_to = from.1 } in
    let wt : Within l.columns v.to_slot v.to_column = record { from_on = to.0; up_to = to.1 } in (
      subst (λ (z : Wire). Within l.columns z.from_slot z.from_column) (sym a.wire_is) wf,
      subst (λ (z : Wire). Within l.columns z.to_slot z.to_column) (sym a.wire_is) wt,
    )

-- no channel is full

pub few_over : (p : PlacedView) (l : LibraryView) → IsReady p l → IsPlaced p → IsLibrary l
    → AreShort (reach_of l) (placed_rows p) → (r x : ℕ) → length (crossing x (channel p l r)) < l.capacity
few_over p l is known lib short r x =
    let laws = lawful l lib in
    let ws = channel p l r in
    let least = lib.laws Reach in
    let room = lib.laws Capacity in
    let shorts : AllByRecursion (IsShortWire (reach_of l) l.columns) ws = in_all
    (IsShortWire (reach_of l) l.columns) ws (λ w h. let k = wire_within p l is laws r w h in
    record { from_within = k.0; to_within = k.1; short = wire_near p l is known (reach_of l) short r w h }) in
    let apart : FromApart ws = pairs_with (λ (v : Wire) (w : Wire). v.to_slot ≡ w.to_slot → ⊥)
    (λ (v : Wire) (w : Wire). v.from_slot ≡ w.from_slot → ⊥) ws (channel_pairs p l is r)
    (λ v w hv hw ne e. ne (ap (λ (z : Wire). z.to_slot) (from_slot_tells p l is r v w hv hw e))) in
    below_capacity (reach_of l) l.columns l.capacity ws (omega arith) (omega arith) shorts apart x

pub used_below : (p : PlacedView) (l : LibraryView) → IsReady p l → IsPlaced p → IsLibrary l
    → AreShort (reach_of l) (placed_rows p) → (r : ℕ) → tracks_used (channel p l r) < l.capacity
used_below p l is known lib short r =
    let ws = channel p l r in
    let density = (is.routes ws (ends_apart p l is (lawful l lib) r)).density in
    subst (λ (n : ℕ). n < l.capacity) density.reached (few_over p l is known lib short r (column_of ws))

-- the length of a wire

near_columns : (c reach s t x y : ℕ) → 1 ≤ reach → s * c ≤ x → x < suc s * c → t * c ≤ y → y < suc t * c
    → move s t ≤ reach - 1 → max x y - min x y ≤ reach * c
near_columns c reach s t x y some a b d e near = elim (cases_lt x y) [
  | inl lt ↦ let k : (t + 1) * c ≤ (s + reach) * c = mul-le-mul_right c (let h : t + 1 ≤ s + reach = omega arith in
      h) in omega arith
  | inr ge ↦ let k : (s + 1) * c ≤ (t + reach) * c = mul-le-mul_right c (let h : s + 1 ≤ t + reach = omega arith in
      h) in omega arith
]

quotient_times : (a b : ℕ) → 0 < b → a / b * b ≤ a
quotient_times a b h = omega (arith, times_back a b)
  where
    times_back : (a b : ℕ) → a / b * b ≡ b * (a / b)
    times_back a b = omega arith

short_enough : (l : LibraryView) (used d reach : ℕ) → 0 < slot_width_of l → 2 ≤ length_reach_of l → used ≤ l.capacity
    → reach ≤ length_reach_of l → d ≤ reach * l.columns
    → (used + 1) * l.pitch + 2 * l.pin + 2 * l.wire + d * l.pitch ≤ l.limit
short_enough l used d reach wide some track within less =
    let a : (used + 1) * l.pitch ≤ (l.capacity + 1) * l.pitch = mul-le-mul_right l.pitch
    (let k : used + 1 ≤ l.capacity + 1 = omega arith in k) in
    let b : d * l.pitch ≤ (reach * l.columns) * l.pitch = mul-le-mul_right l.pitch less in
    let c : reach * (l.columns * l.pitch) ≤ length_reach_of l * (l.columns * l.pitch) = mul-le-mul_right
    (l.columns * l.pitch) within in
    let e : length_reach_of l * (l.columns * l.pitch) ≤ l.limit - fixed_length_of l = quotient_times
    (l.limit - fixed_length_of l) (l.columns * l.pitch) wide in
    let f : 2 * (l.columns * l.pitch) ≤ length_reach_of l * (l.columns * l.pitch) = mul-le-mul_right
    (l.columns * l.pitch) some in
    let g : 0 < l.limit - fixed_length_of l = omega arith in
    omega arith

wide : (l : LibraryView) → IsLawful l → 0 < slot_width_of l
wide l laws = let a = laws.columns_some in let b = laws.spaced in let c = laws.space_some in
    let h : 1 * l.pitch ≤ l.columns * l.pitch = mul-le-mul_right l.pitch a in omega arith

pub short_wires : (p : PlacedView) (l : LibraryView) → IsReady p l → IsPlaced p → IsLibrary l
    → AreShort (reach_of l) (placed_rows p) → WiresShort (sheet p l)
unfolding sheet
short_wires p l is known lib short r c wire =
    let laws = lawful l lib in
    let w = wired_wire p l r c wire in
    let to = (wire_is p l is laws r w.0 w.1).1 in
    let within = wire_within p l is laws r w.0 w.1 in
    let near = wire_near p l is known (reach_of l) short r w.0 w.1 in
    let least = lib.laws Reach in
    let room = lib.laws Capacity in
    let e : (sheet p l).to r c ≡ w.0.to_column = ap (λ (x : ℕ). (sheet p l).to r x) (sym w.2) ∙ to in
    let f = w.2 in
    let d : max c ((sheet p l).to r c) - min c ((sheet p l).to r c) ≡ max w.0.from_column w.0.to_column - min
    w.0.from_column w.0.to_column = omega arith in
    let near_so = near_columns l.columns (reach_of l) w.0.from_slot w.0.to_slot w.0.from_column w.0.to_column
    (omega arith) within.0.from_on within.0.up_to within.1.from_on within.1.up_to near in
    let used = used_below p l is known lib short r in
    short_enough l (tracks_used (channel p l r)) (max c ((sheet p l).to r c) - min c ((sheet p l).to r c)) (reach_of l)
    (wide l laws) least (omega arith) (omega arith) (omega arith)
