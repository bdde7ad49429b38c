-- Steps of the code that counts and makes the rows of the plan: the rows that are done, and those that are left.
use Rattle.std.proofs.Common.{◌≡◌, ℕ, ◌+◌, ◌-◌, ◌*◌, ◌<◌, ◌≤◌, Bool, true, not, List, [], ◌∷◌, ◌++◌, length, drop}
use Rattle.rowed.specs.PlacedNets.{PlacedRow, PlacedView, placed_rows, row_of}
use Rattle.repeater_rows.specs.declared.channel.Channel.{Channel}
use Rattle.repeater_rows.specs.Rounds.{is_far}
use Rattle.repeater_rows.specs.Repeaters.{added, added_rows, source_above, last_source, rows_above, repeated_rows}
use Rattle.rowed.proofs.RowsAboveLaws.{cells_of, slots_in}
use Rattle.rowed.specs.Limits.{cell_limit}
use Rattle.rowed.specs.declared.source.Source.{Source}
use Rattle.repeater_rows.specs.Passes.{cells_past}
use Rattle.repeater_rows.specs.Code.Opening.{AreDestinations}
use Rattle.repeater_rows.specs.Code.Counts.{rounds_left}
use Rattle.repeater_rows.specs.Code.Works.{Listed, is_wired, fed_by, IsTurned, Work, rows_of, last_of}

-- the row that is added to it
abbrev pub added_to : Channel → PlacedRow
added_to channel = added (is_wired channel) (fed_by channel) channel.to.items

-- how many slots the channel has
abbrev pub slots_of : Work → ℕ
slots_of w = length w.channel.sources.items

-- the work after so many rounds, of which the next begins at slot 0 or not
pub record Stage : Type 0 where
  pub done : ℕ
  pub first : Bool
  pub channel : Channel

abbrev pub rounds_ahead : Work → Stage → List (List ℕ)
rounds_ahead w now = rounds_left w.reach (is_wired now.channel) now.done now.first now.channel.to.items

abbrev pub rows_ahead : Work → Stage → List PlacedRow
rows_ahead w now = added_rows (is_wired now.channel) (fed_by now.channel) (rounds_ahead w now)

-- what is known of its channel
pub record IsStage (w : Work) (now : Stage) : Type 0 where
  pub known : AreDestinations (is_wired now.channel) (slots_of w) now.channel.to.items now.channel.carriers.items
  pub wires : is_wired now.channel ≡ is_wired w.channel

-- with those of the rounds that are left the rows become all of these; so do the sources become the last ones
pub record AreMade (w : Work) (below : Listed) (now : Stage) (made : Listed) : Type 0 where
  pub stage : IsStage w now
  pub long : length now.channel.sources.items ≡ slots_of w
  pub rows : made.cells ++ cells_of (rows_ahead w now) ≡ below.cells ++ cells_of (rows_of w)
  pub seats : made.seats ++ slots_in (rows_ahead w now) ≡ below.seats ++ slots_in (rows_of w)
  pub sources : (d : ℕ) → is_wired w.channel d ≡ true
      → last_source (is_wired now.channel) (fed_by now.channel) (rounds_ahead w now) d ≡ last_of w d

-- where so many cells stand before the rounds, so many stand before those that are left, whose wires have these sources
pub record AreCounting (w : Work) (before : ℕ) (now : Stage) (cells : ℕ) : Type 0 where
  pub stage : IsStage w now
  pub few : cells ≤ cell_limit
  pub source : ℕ → Source
  pub ahead : (above : List PlacedRow) → cells_past before (rows_of w ++ above)
      ≡ cells_past cells (added_rows (is_wired now.channel) source (rounds_ahead w now) ++ above)

-- some wire is far, and the next round turns the channel into this one
pub record IsRound (w : Work) (now : Stage) (turned : Channel) : Type 0 where
  pub ahead : now.done < slots_of w * slots_of w
  pub far : is_far w.reach (is_wired now.channel) 0 now.channel.to.items ≡ true
  pub turns : IsTurned w.reach now.first now.channel turned

-- and its row is added
pub record IsNext (now : Stage) (made : Listed) (turned : Channel) (next : Stage) (more : Listed) : Type 0 where
  pub done : next.done ≡ now.done + 1
  pub first : next.first ≡ not now.first
  pub same : next.channel ≡ record turned { sources = next.channel.sources }
  pub long : length next.channel.sources.items ≡ length turned.sources.items
  pub above : (d : ℕ) → is_wired turned d ≡ true → d < length turned.sources.items
      → fed_by next.channel d ≡ source_above (is_wired turned) turned.to.items d
  pub rows : more.cells ≡ made.cells ++ ((added_to turned).cells ∷ [])
  pub seats : more.seats ≡ made.seats ++ ((added_to turned).slots ∷ [])

-- the rows of a placed net with its repeaters from the channel below row k on
abbrev pub rows_left : ℕ → PlacedView → ℕ → List PlacedRow
rows_left reach net k = rows_above reach (row_of net (k - 1)) (drop k (placed_rows net))

-- these rows are made, up to the row before row k of the net
pub record AreMadeTo (reach : ℕ) (net : PlacedView) (k : ℕ) (made : Listed) : Type 0 where
  pub some : 0 < k
  pub rows : made.cells ++ cells_of (rows_left reach net k) ≡ cells_of (repeated_rows reach (placed_rows net))
  pub seats : made.seats ++ slots_in (rows_left reach net k) ≡ slots_in (repeated_rows reach (placed_rows net))

-- so many cells stand in the rows up to row k of the net
pub record AreCountedTo (reach : ℕ) (net : PlacedView) (k cells : ℕ) : Type 0 where
  pub some : 0 < k
  pub few : cells ≤ cell_limit
  pub ahead : cells_past 0 (repeated_rows reach (placed_rows net)) ≡ cells_past cells (rows_left reach net k)
