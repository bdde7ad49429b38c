-- Steps of the code that adds the rows of a channel's rounds: the work on a channel, and what has been made when it is
-- done.
use Rattle.std.specs.Prelude.{◌≡◌, ℕ, Bool, true, List, ◌++◌, map}
use Rattle.circuit.specs.Gates.{valuation}
use Rattle.rowed.specs.declared.source.Source.{Source}
use Rattle.rowed.specs.declared.row_cell.RowCell.{RowCell}
use Rattle.rowed.specs.PlacedNets.{PlacedRow}
use Rattle.repeater_rows.specs.declared.channel.Channel.{Channel}
use Rattle.repeater_rows.specs.declared.rows.Rows.{Rows}
use Rattle.repeater_rows.specs.Rounds.{round, window_size, all_rounds}
use Rattle.repeater_rows.specs.Repeaters.{added_rows, last_source}
use Rattle.repeater_rows.specs.Code.Reading.{source_in}
use Rattle.repeater_rows.specs.Code.Opening.{AreDestinations}

-- rows of cells, and the slots of each
pub record Listed : Type 0 where
  pub cells : List (List RowCell)
  pub seats : List (List ℕ)

abbrev pub listed : Rows → Listed
listed made = record { cells = made.cells.items; seats = made.slots.items }

-- which slots of a channel are wired, and the source of each wire
abbrev pub is_wired : Channel → ℕ → Bool
is_wired channel = valuation channel.wired.items

abbrev pub fed_by : Channel → ℕ → Source
fed_by channel = source_in channel.sources.items

-- a round turns a channel into this one, with the same wires
pub record IsTurned (reach : ℕ) (first : Bool) (old new : Channel) : Type 0 where
  pub gives : new.to.items ≡ round (window_size reach) first old.to.items
  pub known : (slots : ℕ) → AreDestinations (is_wired old) slots old.to.items old.carriers.items
      → AreDestinations (is_wired old) slots new.to.items new.carriers.items
  pub wires : new.wired ≡ old.wired
  pub feeds : new.sources ≡ old.sources

-- the work on a channel, before its first round
pub record Work : Type 0 where
  pub reach : ℕ
  pub channel : Channel

-- its rounds, the rows that they add, and the sources above these
abbrev pub rounds_of : Work → List (List ℕ)
rounds_of w = all_rounds w.reach (is_wired w.channel) w.channel.to.items

abbrev pub rows_of : Work → List PlacedRow
rows_of w = added_rows (is_wired w.channel) (fed_by w.channel) (rounds_of w)

abbrev pub last_of : Work → ℕ → Source
last_of w = last_source (is_wired w.channel) (fed_by w.channel) (rounds_of w)

-- these rows are made, above those below, and this feeds the wires above
pub record AllMade (w : Work) (below : Listed) (feeds : ℕ → Source) (made : Listed) : Type 0 where
  pub rows : made.cells ≡ below.cells ++ map (λ (row : PlacedRow). row.cells) (rows_of w)
  pub seats : made.seats ≡ below.seats ++ map (λ (row : PlacedRow). row.slots) (rows_of w)
  pub sources : (d : ℕ) → is_wired w.channel d ≡ true → feeds d ≡ last_of w d
