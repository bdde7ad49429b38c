-- Rows of a placed net by their numbers: that row k is the one at place k, that its wires are its fed pins, and that
-- the wires of all channels are short where those of each channel are.
use Rattle.std.proofs.Common.{◌≡◌, ℕ, zero, suc, ◌+◌, ◌<◌, ◌≤◌, List, [], ◌∷◌, Option, Some, None, length, drop, get_or}
use Rattle.std.proofs.Common.{slice_get, refl, sym, ap, ◌∙◌, subst, arith, Contains}
use Rattle.std.specs.Prelude.{slice_index_or, ◌==◌}
use Rattle.std.proofs.lemmas.List.Elements.{All-contains, All-contains_itself, All-from_recursion, recursion_from_All}
use Rattle.std.proofs.lemmas.Option.{none-some, same_Some, slice_get_within}
use Rattle.rowed.specs.declared.source.Source.{Source}
use Rattle.rowed.specs.declared.row_cell.RowCell.{RowCell}
use Rattle.rowed.specs.RowCells.{source_at}
use Rattle.rowed.specs.RowNets.{row_at, cell_at, fed_at}
use Rattle.rowed.specs.Slots.{EachSeated}
use Rattle.rowed.specs.PlacedNets.{PlacedRow, PlacedView, IsPlaced, paired, placed_rows, row_of}
use Rattle.rowed.specs.Channels.{Link, channel_links, link_to, User}
use Rattle.rowed.specs.Short.{IsShort, EachShort, AreShort}
use Rattle.rowed.proofs.RowsAboveLaws.{row_above}
use Rattle.rowed.proofs.PinLaws.{users, all_pins, seated_length}
use Rattle.rowed.proofs.ChannelLaws as channels
use Rattle.rowed.proofs.NeighbourLaws.{seated_at}

none_dropped : {X : Type 0} (xs : List X) → drop 0 xs ≡ xs
none_dropped [] = refl
none_dropped (x ∷ xs) = refl

pub as_many_slots : (rows : List (List RowCell)) (slots : List (List ℕ)) → EachSeated rows slots
    → length slots ≡ length rows
as_many_slots [] [] seated = refl
as_many_slots [] (s ∷ slots) seated = absurd seated
as_many_slots (row ∷ rows) [] seated = absurd seated
as_many_slots (row ∷ rows) (s ∷ slots) seated = ap suc (as_many_slots rows slots seated.1)

-- row k and the rows above it
paired_from : (rows : List (List RowCell)) (slots : List (List ℕ)) → EachSeated rows slots → (k next : ℕ)
    → next ≡ k + 1 → k < length rows
    → drop k (paired rows slots) ≡ record { cells = get_or rows k []; slots = get_or slots k [] } ∷ drop next
    (paired rows slots)
paired_from [] slots seated k next e lt = absurd (omega arith)
paired_from (row ∷ rows) [] seated k next e lt = absurd seated
paired_from (row ∷ rows) (s ∷ slots) seated k zero e lt = absurd (omega arith)
paired_from (row ∷ rows) (s ∷ slots) seated zero (suc (suc next)) e lt = absurd (omega arith)
paired_from (row ∷ rows) (s ∷ slots) seated zero (suc zero) e lt =
    ap (λ (l : List PlacedRow). record { cells = row; slots = s } ∷ l) (sym (none_dropped (paired rows slots)))
paired_from (row ∷ rows) (s ∷ slots) seated (suc k) (suc next) e lt = paired_from rows slots seated.1 k next
    (omega arith) (omega arith)

pub rows_from : (p : PlacedView) → IsPlaced p → (k next : ℕ) → next ≡ k + 1 → k < length p.net.rows
    → drop k (placed_rows p) ≡ row_of p k ∷ drop next (placed_rows p)
rows_from p known k next e lt = paired_from p.net.rows p.slots known.seated k next e lt

pub rows_end : (rows : List (List RowCell)) (slots : List (List ℕ)) (k : ℕ) → length rows ≤ k
    → drop k (paired rows slots) ≡ []
rows_end [] slots zero le = refl
rows_end [] slots (suc k) le = refl
rows_end (row ∷ rows) [] zero le = refl
rows_end (row ∷ rows) [] (suc k) le = refl
rows_end (row ∷ rows) (s ∷ slots) zero le = absurd (omega arith)
rows_end (row ∷ rows) (s ∷ slots) (suc k) le = rows_end rows slots k (omega arith)

paired_long : (rows : List (List RowCell)) (slots : List (List ℕ)) → EachSeated rows slots
    → length (paired rows slots) ≡ length rows
paired_long [] slots seated = refl
paired_long (row ∷ rows) [] seated = absurd seated
paired_long (row ∷ rows) (s ∷ slots) seated = ap suc (paired_long rows slots seated.1)

pub placed_long : (p : PlacedView) → IsPlaced p → length (placed_rows p) ≡ length p.net.rows
placed_long p known = paired_long p.net.rows p.slots known.seated

-- the row at a number
paired_at : (rows : List (List RowCell)) (slots : List (List ℕ)) → EachSeated rows slots → (k : ℕ) → k < length rows
    → slice_get (paired rows slots) k ≡ Some (record { cells = row_at rows k; slots = slice_index_or slots k [] })
paired_at [] slots seated k lt = absurd (omega arith)
paired_at (row ∷ rows) [] seated k lt = absurd seated
paired_at (row ∷ rows) (s ∷ slots) seated zero lt = refl
paired_at (row ∷ rows) (s ∷ slots) seated (suc k) lt = paired_at rows slots seated.1 k (omega arith)

pub row_there : (p : PlacedView) → IsPlaced p → (k : ℕ) → k < length p.net.rows
    → slice_get (placed_rows p) k ≡ Some (row_of p k)
row_there p known k lt = paired_at p.net.rows p.slots known.seated k lt

-- a fed pin is a wire
with_source : (o : Option RowCell) (i : ℕ) (s : Source) → fed_at o i ≡ Some s
    → (cell : RowCell) × (o ≡ Some cell) × (source_at cell i ≡ Some s)
with_source None i s e = absurd (none-some s e)
with_source (Some cell) i s e = (cell, refl, e)

pub fed_link : (lower upper : PlacedRow) → length upper.slots ≡ length upper.cells → (number pin : ℕ) (s : Source)
    → fed_at (slice_get upper.cells number) pin ≡ Some s
    → Contains (channel_links lower upper) (link_to lower upper number pin s)
fed_link lower upper long number pin s fed =
    let ws = channel_links lower upper in
    let x = with_source (slice_get upper.cells number) pin s fed in
    all_pins (Contains ws) lower.slots upper.cells upper.slots long
    (recursion_from_All (Contains ws) ws (All-contains_itself ws)) number pin x.0 s x.1 x.2

pub fed_link_at : (p : PlacedView) → IsPlaced p → (k number pin : ℕ) (s : Source) → suc k < length p.net.rows
    → fed_at (cell_at p.net.rows (suc k) number) pin ≡ Some s
    → Contains (channel_links (row_of p k) (row_of p (suc k))) (link_to (row_of p k) (row_of p (suc k)) number pin s)
fed_link_at p known k number pin s lt fed =
    let upper = row_of p (suc k) in
    fed_link (row_of p k) upper
    (seated_length 0 upper.cells upper.slots (seated_at p.net.rows p.slots known.seated (suc k) lt)) number pin s fed

-- and each wire has a user, told by the slot where the wire ends, and by the one where it begins
pub user_of : (lower upper : PlacedRow) (w : Link) → Contains (channel_links lower upper) w → User lower upper w
user_of lower upper w there =
    let ws = channel_links lower upper in
    All-contains (User lower upper) ws w (All-from_recursion (User lower upper) ws (users lower upper)) there

-- two users are one pin
abbrev pub SameUser : (lower upper : PlacedRow) (v w : Link) → User lower upper v → User lower upper w → Type 0
SameUser lower upper v w a b = (a.number ≡ b.number) × (a.pin ≡ b.pin)

pub to_tells : (p : PlacedView) → IsPlaced p → (k : ℕ) → suc k < length p.net.rows → (v w : Link)
    (a : User (row_of p k) (row_of p (suc k)) v) (b : User (row_of p k) (row_of p (suc k)) w) → v.to ≡ w.to
    → SameUser (row_of p k) (row_of p (suc k)) v w a b
to_tells p known k lt v w a b e =
    channels.one_user p.net.outputs (suc (suc k) == length p.net.rows) (row_of p k) (row_of p (suc k))
    (seated_at p.net.rows p.slots known.seated k (omega arith)) (seated_at p.net.rows p.slots known.seated (suc k) lt)
    (row_above p.net known.net_keeps k lt) v w a b e

pub from_tells : (p : PlacedView) → IsPlaced p → (k : ℕ) → suc k < length p.net.rows → (v w : Link)
    (a : User (row_of p k) (row_of p (suc k)) v) (b : User (row_of p k) (row_of p (suc k)) w) → v.from ≡ w.from
    → SameUser (row_of p k) (row_of p (suc k)) v w a b
from_tells p known k lt v w a b e =
    to_tells p known k lt v w a b
    (channels.sources_apart p.net.outputs (suc (suc k) == length p.net.rows) (row_of p k) (row_of p (suc k))
    (seated_at p.net.rows p.slots known.seated k (omega arith)) (seated_at p.net.rows p.slots known.seated (suc k) lt)
    (row_above p.net known.net_keeps k lt) v w a b e)

-- short wires, channel by channel
each_short : (reach : ℕ) (lower : PlacedRow) (rows : List PlacedRow) → EachShort reach lower rows
    → (k : ℕ) (a b : PlacedRow)
    → slice_get (lower ∷ rows) k ≡ Some a → slice_get (lower ∷ rows) (suc k) ≡ Some b → IsShort reach a b
each_short reach lower [] all k a b at next = absurd (none-some b next)
each_short reach lower (upper ∷ rows) all zero a b at next =
    subst (λ (x : PlacedRow). IsShort reach x b) (same_Some lower a at)
    (subst (λ (x : PlacedRow). IsShort reach lower x) (same_Some upper b next) all.0)
each_short reach lower (upper ∷ rows) all (suc k) a b at next = each_short reach upper rows all.1 k a b at next

short_at : (reach : ℕ) (rows : List PlacedRow) → AreShort reach rows → (k : ℕ) (a b : PlacedRow)
    → slice_get rows k ≡ Some a → slice_get rows (suc k) ≡ Some b → IsShort reach a b
short_at reach [] all k a b at next = absurd (none-some a at)
short_at reach (row ∷ rows) all k a b at next = each_short reach row rows all k a b at next

each_from : (reach : ℕ) (lower : PlacedRow) (rows : List PlacedRow)
    → ((k : ℕ) (a b : PlacedRow) → slice_get (lower ∷ rows) k ≡ Some a → slice_get (lower ∷ rows) (suc k) ≡ Some b
    → IsShort reach a b) → EachShort reach lower rows
each_from reach lower [] each = tt
each_from reach lower (upper ∷ rows) each =
    (each 0 lower upper refl refl, each_from reach upper rows (λ k a b at next. each (suc k) a b at next))

all_from : (reach : ℕ) (rows : List PlacedRow)
    → ((k : ℕ) (a b : PlacedRow) → slice_get rows k ≡ Some a → slice_get rows (suc k) ≡ Some b → IsShort reach a b)
    → AreShort reach rows
all_from reach [] each = tt
all_from reach (row ∷ rows) each = each_from reach row rows each

pub short_channel : (p : PlacedView) → IsPlaced p → (reach : ℕ) → AreShort reach (placed_rows p) → (k : ℕ)
    → suc k < length p.net.rows → IsShort reach (row_of p k) (row_of p (suc k))
short_channel p known reach short k lt =
    short_at reach (placed_rows p) short k (row_of p k) (row_of p (suc k)) (row_there p known k (omega arith))
    (row_there p known (suc k) lt)

pub short_channels : (p : PlacedView) → IsPlaced p → (reach : ℕ)
    → ((k : ℕ) → suc k < length p.net.rows → IsShort reach (row_of p k) (row_of p (suc k)))
    → AreShort reach (placed_rows p)
short_channels p known reach each = all_from reach (placed_rows p) (λ k a b at next.
    let below : suc k < length p.net.rows =
    omega (arith, slice_get_within (placed_rows p) (suc k) b next, placed_long p known) in
    let first : row_of p k ≡ a = same_Some (row_of p k) a (sym (row_there p known k (omega (arith, below))) ∙ at) in
    let second : row_of p (suc k) ≡ b = same_Some (row_of p (suc k)) b (sym (row_there p known (suc k) below) ∙ next) in
    subst (λ (x : PlacedRow). IsShort reach x b) first
    (subst (λ (x : PlacedRow). IsShort reach (row_of p k) x) second (each k below)))
