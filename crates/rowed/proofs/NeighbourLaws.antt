-- Laws of neighbouring rows of a placed net, told by number: their wires are those of a channel, within the limit of
-- slots.
use Rattle.std.specs.Prelude.{◌≡◌, ℕ, zero, suc, ◌+◌, ◌<◌, ◌≤◌, ◌==◌, List, [], ◌∷◌, length, slice_index_or}
use Rattle.std.proofs.Common.{subst, arith}
use Rattle.std.specs.List.{AllByRecursion}
use Rattle.circuit.specs.CellKinds.{slots_of}
use Rattle.circuit.specs.declared.cell_kind.CellKind.{CellKind}
use Rattle.circuit.specs.declared.cell_kind.CellKind.TheVariants.{Buffer}
use Rattle.rowed.specs.declared.row_cell.RowCell.{RowCell}
use Rattle.rowed.specs.RowNets.{row_at}
use Rattle.rowed.specs.Slots.{AreSeated, EachSeated}
use Rattle.rowed.specs.Limits.{slot_limit}
use Rattle.rowed.specs.PlacedNets.{PlacedView, IsPlaced, row_of}
use Rattle.rowed.specs.Channels.{channel_links, channel_slots, IsChannel}
use Rattle.rowed.proofs.RowsAboveLaws.{row_above}
use Rattle.rowed.proofs.PinLaws.{span_limit}
use Rattle.rowed.proofs.ChannelLaws.{channel_known}

pub seated_at : (rows : List (List RowCell)) (slots : List (List ℕ)) → EachSeated rows slots → (k : ℕ) → k < length rows
    → AreSeated 0 (row_at rows k) (slice_index_or slots k [])
seated_at [] slots seated k lt = absurd (omega arith)
seated_at (row ∷ rows) [] seated k lt = absurd seated
seated_at (row ∷ rows) (s ∷ slots) seated zero lt = seated.0
seated_at (row ∷ rows) (s ∷ slots) seated (suc k) lt = seated_at rows slots seated.1 k (omega arith)

pub channel_at : (p : PlacedView) → IsPlaced p → (k : ℕ) → suc k < length p.net.rows
    → IsChannel (channel_links (row_of p k) (row_of p (suc k))) (channel_slots (row_of p k) (row_of p (suc k)))
channel_at p known k lt =
    channel_known p.net.outputs (suc (suc k) == length p.net.rows) (row_of p k) (row_of p (suc k))
    (seated_at p.net.rows p.slots known.seated k (omega arith)) (seated_at p.net.rows p.slots known.seated (suc k) lt)
    (row_above p.net known.net_keeps k lt)

pub channel_fits : (p : PlacedView) → IsPlaced p → (k : ℕ) → suc k < length p.net.rows
    → channel_slots (row_of p k) (row_of p (suc k)) ≤ slot_limit
channel_fits p known k lt =
    let lower = span_limit 0 (row_of p k).cells (row_of p k).slots
    (seated_at p.net.rows p.slots known.seated k (omega arith)) in
    let upper = span_limit 0 (row_of p (suc k)).cells (row_of p (suc k)).slots
    (seated_at p.net.rows p.slots known.seated (suc k) lt) in
    omega (arith, lower, upper)

-- so it is of row k + 1 by its number
abbrev LimitedChannel : PlacedView → ℕ → ℕ → Type 0
LimitedChannel p k n =
    IsChannel (channel_links (row_of p k) (row_of p n)) (channel_slots (row_of p k) (row_of p n))
    × (channel_slots (row_of p k) (row_of p n) ≤ slot_limit)

next_limited : (p : PlacedView) → IsPlaced p → (k : ℕ) → k + 1 < length p.net.rows → LimitedChannel p k (k + 1)
next_limited p known k lt =
    let next : suc k ≡ k + 1 = omega arith in
    let below : suc k < length p.net.rows = omega arith in
    subst (LimitedChannel p k) next (channel_at p known k below, channel_fits p known k below)

pub next_channel : (p : PlacedView) → IsPlaced p → (k : ℕ) → k + 1 < length p.net.rows
    → IsChannel (channel_links (row_of p k) (row_of p (k + 1))) (channel_slots (row_of p k) (row_of p (k + 1)))
next_channel p known k lt = (next_limited p known k lt).0

pub next_fits : (p : PlacedView) → IsPlaced p → (k : ℕ) → k + 1 < length p.net.rows
    → channel_slots (row_of p k) (row_of p (k + 1)) ≤ slot_limit
next_fits p known k lt = (next_limited p known k lt).1

-- each cell begins below the limit
some_slots : (kind : CellKind) → 0 < slots_of kind
some_slots Buffer = omega arith
some_slots kind = omega arith

pub slots_below : (b : ℕ) (cells : List RowCell) (slots : List ℕ) → AreSeated b cells slots
    → AllByRecursion (λ (slot : ℕ). slot < slot_limit) slots
slots_below b [] [] seated = tt
slots_below b [] (slot ∷ slots) seated = absurd seated
slots_below b (cell ∷ cells) [] seated = absurd seated
slots_below b (cell ∷ cells) (slot ∷ slots) seated =
    (omega (arith, seated.1, some_slots cell.kind), slots_below (slot + slots_of cell.kind) cells slots seated.2)
