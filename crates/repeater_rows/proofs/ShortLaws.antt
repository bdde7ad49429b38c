-- Laws of short wires: in the plan of repeaters every wire moves fewer slots than the reach.
use Rattle.std.proofs.Common.{◌≡◌, ℕ, suc, ◌+◌, ◌-◌, ◌<◌, ◌≤◌, Bool, true, false, not, List, [], ◌∷◌, ◌++◌, length, map}
use Rattle.std.proofs.Common.{Option, Some, None, refl, sym, ap, ◌∙◌, subst, arith, get_or}
use Rattle.std.specs.List.{filter, AllByRecursion}
use Rattle.rowed.specs.declared.source.Source.{Source}
use Rattle.rowed.specs.declared.row_cell.RowCell.{RowCell}
use Rattle.rowed.specs.Slots.{AreSeated}
use Rattle.rowed.specs.PlacedNets.{PlacedRow, PlacedView, IsPlaced, placed_rows, placed_of}
use Rattle.sorting.specs.Numbers.{numbers, place_of, IsOrder}
use Rattle.rowed.specs.Channels.{Link, source_slot, pin_link, links, move, channel_links, channel_slots, IsChannel}
use Rattle.repeater_rows.specs.Destinations.{end_from, is_end, destinations}
use Rattle.repeater_rows.specs.Rounds.{AreRounds, round, window_size, is_far}
use Rattle.repeater_rows.specs.Repeaters.{source_to, buffer_from, carried, carrier_slots, added, source_above}
use Rattle.repeater_rows.specs.Repeaters.{added_rows, last_source, fed_from, cells_from, channel_rounds, rows_above}
use Rattle.repeater_rows.specs.Repeaters.{repeated_rows, repeated}
use Rattle.rowed.specs.Short.{EachShort, AreShort}
use Rattle.repeater_rows.proofs.Sources.{StandAt}
use Rattle.rowed.proofs.RowsAbove.{PlacedAbove, no_more}
use Rattle.rowed.proofs.RowsAboveLaws.{placed_rows_of, again_placed, placed_facts}
use Rattle.rowed.proofs.PinLaws.{pins_all, seated_length}
use Rattle.rowed.proofs.ChannelLaws.{channel_known}
use Rattle.repeater_rows.proofs.RoundsLaws.{round_order, length_same, round_same, all_rounds_end}
use Rattle.repeater_rows.proofs.OrderLaws.{destinations_order, destinations_length}
use Rattle.repeater_rows.proofs.PlaceLaws.{times, place_unique, once_each, stands_in, carried_place, near_at}
use Rattle.repeater_rows.proofs.PlaceLaws.{round_move}
use Rattle.repeater_rows.proofs.WireLaws.{IsFound, found, wired_below, begun, completed_at, at_end}

-- in the lower row the source of each wire stands where the destination does
pub stands_first : (lower : List ℕ) (ws : List Link) (slots : ℕ) → IsChannel ws slots
    → AllByRecursion (λ (w : Link). w.from ≡ source_slot lower w.source) ws
    → StandAt (is_end ws) (source_to ws) lower (destinations ws slots)
stands_first lower ws slots known from =
    at_end ws (λ d. source_slot lower (source_to ws d) ≡ place_of (destinations ws slots) d)
    (all ws from (found ws known.to_apart) (begun ws known.from_apart) known.from_below)
  where
    all : (vs : List Link) → AllByRecursion (λ (w : Link). w.from ≡ source_slot lower w.source) vs
        → AllByRecursion (IsFound ws) vs
        → AllByRecursion (λ (w : Link). end_from ws w.from ≡ Some w.to) vs
        → AllByRecursion (λ (w : Link). w.from < slots) vs
        → AllByRecursion (λ (w : Link). source_slot lower (source_to ws w.to) ≡ place_of
        (destinations ws slots) w.to) vs
    all [] from is begin below = tt
    all (v ∷ vs) from is begin below =
        let to = destinations ws slots in
        let here : get_or to v.from 0 ≡ v.to = completed_at (end_from ws) 0 slots
        (filter (λ (d : ℕ). not (is_end ws d)) (numbers 0 slots)) v.from v.to below.0
        (ap (end_from ws) (omega arith) ∙ begin.0) in
        let place : place_of to v.to ≡ v.from = place_unique to v.to v.from
        (once_each to v.to (destinations_order ws slots known))
        (omega (arith, below.0, destinations_length ws slots)) here in
        (ap (source_slot lower) is.0.0 ∙ sym from.0 ∙ sym place, all vs from.1 is.1 begin.1 below.1)

-- and in an added row it stands where its buffer does
pub stands_next : (wired : ℕ → Bool) (slots : ℕ) (to : List ℕ) → ((d : ℕ) → wired d ≡ true → d < slots)
    → length to ≡ slots → IsOrder to
    → StandAt wired (source_above wired to) (carrier_slots wired 0 to) to
stands_next wired slots to below long order d w =
    omega (arith, carried_place wired 0 to d w (stands_in to d order (omega (arith, below d w, long))))

-- a wire that moves fewer slots than the reach
abbrev Within : ℕ → Link → Type 0
Within reach w = move w.from w.to ≤ reach - 1

-- the wires of an added row
added_short : (reach : ℕ) (wired : ℕ → Bool) (source : ℕ → Source) (lower before to : List ℕ)
    → StandAt wired source lower before
    → ((d : ℕ) → move (place_of before d) (place_of to d) ≤ reach - 1) → (b : ℕ) (back : List ℕ)
    → ((k : ℕ) → k < length back → place_of to (get_or back k 0) ≡ b + k)
    → AllByRecursion (Within reach)
    (links lower (map (λ (d : ℕ). buffer_from (source d)) (carried wired back)) (carrier_slots wired b back))
added_short reach wired source lower before to stands moves b [] places = tt
added_short reach wired source lower before to stands moves b (x ∷ back) places =
    go (wired x) refl (added_short reach wired source lower before to stands moves (suc b) back
    (λ k lt. omega (arith, places (suc k) (omega arith))))
  where
    go : (t : Bool) → wired x ≡ t
        → AllByRecursion (Within reach)
        (links lower (map (λ (d : ℕ). buffer_from (source d)) (carried wired back))
        (carrier_slots wired (suc b) back))
        → AllByRecursion (Within reach)
        (links lower (map (λ (d : ℕ). buffer_from (source d)) (carried wired (x ∷ back)))
        (carrier_slots wired b (x ∷ back)))
    go true q rest = rw q (omega (arith, stands x q, moves x, places 0 (omega arith)), rest)
    go false q rest = rw q rest

-- the wires of the upper row
abbrev Near : ℕ → List ℕ → (ℕ → Source) → Link → Type 0
Near reach last source w = move (source_slot last (source w.to)) w.to ≤ reach - 1

pin_short : (reach : ℕ) (last : List ℕ) (source : ℕ → Source) (lower : List ℕ) (slot : ℕ)
    (o : Option Source) (more more' : List Link)
    → AllByRecursion (Near reach last source) (pin_link lower slot o more)
    → (AllByRecursion (Near reach last source) more → AllByRecursion (Within reach) more')
    → AllByRecursion (Within reach) (pin_link last slot (fed_from source slot o) more')
pin_short reach last source lower slot None more more' all rest = rest all
pin_short reach last source lower slot (Some s) more more' all rest = (all.0, rest all.1)

upper_short : (reach : ℕ) (last : List ℕ) (source : ℕ → Source) (lower : List ℕ) (cells : List RowCell) (slots : List ℕ)
    → length slots ≡ length cells
    → AllByRecursion (Near reach last source) (links lower cells slots)
    → AllByRecursion (Within reach) (links last (cells_from source cells slots) slots)
upper_short reach last source lower [] slots len all = tt
upper_short reach last source lower (c ∷ cells) [] len all = absurd (omega (arith, len))
upper_short reach last source lower (c ∷ cells) (s ∷ slots) len all =
    let more2 = links lower cells slots in
    let more2' = links last (cells_from source cells slots) slots in
    let more1 = pin_link lower (suc (suc s)) c.source2 more2 in
    let more1' = pin_link last (suc (suc s)) (fed_from source (suc (suc s)) c.source2) more2' in
    let more0 = pin_link lower (suc s) c.source1 more1 in
    let more0' = pin_link last (suc s) (fed_from source (suc s) c.source1) more1' in
    pin_short reach last source lower s c.source0 more0 more0' all (λ a.
    pin_short reach last source lower (suc s) c.source1 more1 more1' a (λ b.
    pin_short reach last source lower (suc (suc s)) c.source2 more2 more2' b
    (upper_short reach last source lower cells slots (omega (arith, len)))))

near_ends : (reach : ℕ) (ws : List Link) (last : List ℕ) (source : ℕ → Source) (to : List ℕ)
    → StandAt (is_end ws) source last to
    → is_far reach (is_end ws) 0 to ≡ false → ((d : ℕ) → is_end ws d ≡ true → 0 < times d to)
    → (vs : List Link) → AllByRecursion (IsFound ws) vs → AllByRecursion (Near reach last source) vs
near_ends reach ws last source to stands near has [] all = tt
near_ends reach ws last source to stands near has (v ∷ vs) all =
    let n = near_at reach (is_end ws) 0 to near v.to all.0.1 (has v.to all.0.1) in
    (omega (arith, n, stands v.to all.0.1), near_ends reach ws last source to stands near has vs all.1)

window_within : (reach : ℕ) → window_size reach ≤ reach
window_within reach = omega arith

-- a destination of an order stands at its place
places_of : (to : List ℕ) → IsOrder to → (k : ℕ) → k < length to → place_of to (get_or to k 0) ≡ 0 + k
places_of to order k lt = place_unique to (get_or to k 0) k (once_each to (get_or to k 0) order) lt refl ∙ omega arith

-- only the slots of a lower row matter
short_above : (reach : ℕ) (lower lower' : PlacedRow) (rows : List PlacedRow) → lower.slots ≡ lower'.slots
    → EachShort reach lower rows → EachShort reach lower' rows
short_above reach lower lower' [] same short = tt
short_above reach lower lower' (upper ∷ rows) same short = (
  subst (λ (slots : List ℕ). AllByRecursion (Within reach)
      (links slots upper.cells upper.slots)) same short.0,
  short.1,
)

-- channel by channel, and in a channel round by round
module _ (reach : ℕ) (ws : List Link) (slots : ℕ) (known : IsChannel ws slots)
    (upper : PlacedRow) (more : List PlacedRow)
    (long : length upper.slots ≡ length upper.cells) (first : List ℕ) (same : ws ≡ links first upper.cells upper.slots)
    (rest : EachShort reach upper more) where
  channel_short : (tos : List (List ℕ)) (turn : Bool) (lower : PlacedRow) (before : List ℕ) (source : ℕ → Source)
      → AreRounds reach (is_end ws) turn before tos
      → length before ≡ slots → IsOrder before → StandAt (is_end ws) source lower.slots before
      → EachShort reach lower (added_rows (is_end ws) source tos ++ (record {
        cells = cells_from (last_source (is_end ws) source tos) upper.cells upper.slots;
        slots = upper.slots;
      } ∷ more))
  channel_short [] turn lower before source are full order stands =
      let has : (d : ℕ) → is_end ws d ≡ true
      → 0 < times d before = λ d w. stands_in before d order
      (omega (arith, wired_below ws slots d known.to_below w, full)) in
      let near = near_ends reach ws lower.slots source before stands are has ws (found ws known.to_apart) in
      let upper' : PlacedRow = record { cells = cells_from source upper.cells upper.slots; slots = upper.slots } in (
        upper_short reach lower.slots source first upper.cells upper.slots long
            (subst (λ (l : List Link). AllByRecursion (Near reach lower.slots source) l) same near),
        short_above reach upper upper' more refl rest,
      )
  channel_short (to ∷ tos) turn lower before source are full order stands =
      let size = window_size reach in
      let full' : length to ≡ slots = ap length are.1
      ∙ length_same (round size turn before) before (round_same size turn before) ∙ full in
      let order' : IsOrder to = subst (λ (l : List ℕ). IsOrder l) (sym are.1) (round_order size turn before order) in
      let moves : (d : ℕ) → move (place_of before d) (place_of to d) ≤ reach - 1 =
      λ d. omega (arith, ap (λ (l : List ℕ). place_of l d) are.1, round_move size turn d before, window_within reach) in
      let below : (d : ℕ) → is_end ws d ≡ true → d < slots = λ d w. wired_below ws slots d known.to_below w in (
        added_short reach (is_end ws) source lower.slots before to stands moves 0 to (places_of to order'),
        channel_short tos (not turn) (added (is_end ws) source to) to (source_above (is_end ws) to) are.2 full' order'
            (stands_next (is_end ws) slots to below full' order'),
      )

rows_short : (reach outputs : ℕ) → 2 ≤ reach → (lower : PlacedRow) (rows : List PlacedRow)
    → AreSeated 0 lower.cells lower.slots → PlacedAbove outputs lower rows
    → EachShort reach lower (rows_above reach lower rows)
rows_short reach outputs two lower [] seated known = tt
rows_short reach outputs two lower (upper ∷ rows) seated known =
    let ws = channel_links lower upper in
    let slots = channel_slots lower upper in
    let channel = channel_known outputs (no_more rows) lower upper seated known.0 known.1 in
    let order = destinations_order ws slots channel in
    let from = pins_all (λ (w : Link). w.from ≡ source_slot lower.slots w.source) lower.slots upper.cells upper.slots
    (λ c i cell s here is. refl) in
    channel_short reach ws slots channel upper (rows_above reach upper rows)
    (seated_length 0 upper.cells upper.slots known.0) lower.slots refl
    (rows_short reach outputs two upper rows known.0 known.2)
    (channel_rounds reach lower upper) true lower (destinations ws slots) (source_to ws)
    (all_rounds_end reach (is_end ws) (destinations ws slots) two order) (destinations_length ws slots) order
    (stands_first lower.slots ws slots channel from)

-- in the plan every wire moves fewer slots than the reach
pub rows_are_short : (reach outputs : ℕ) → 2 ≤ reach → (row : PlacedRow) (rows : List PlacedRow)
    → AreSeated 0 row.cells row.slots → PlacedAbove outputs row rows
    → AreShort reach (repeated_rows reach (row ∷ rows))
rows_are_short reach outputs two row rows seated known = rows_short reach outputs two row rows seated known

pub repeaters_short : (p : PlacedView) (reach : ℕ) → IsPlaced p → 2 ≤ reach
    → AreShort reach (placed_rows (repeated p reach))
unfolding repeated
repeaters_short p reach known two =
    subst (AreShort reach) (sym (placed_rows_of p.net.inputs p.net.outputs (repeated_rows reach (placed_rows p))))
    (go (placed_rows p) (again_placed p known))
  where
    go : (rows : List PlacedRow) → IsPlaced (placed_of p.net.inputs p.net.outputs rows)
        → AreShort reach (repeated_rows reach rows)
    go [] kept = tt
    go (row ∷ rows) kept =
        let facts = placed_facts p.net.inputs p.net.outputs row rows kept in
        rows_are_short reach p.net.outputs two row rows facts.1 facts.2
