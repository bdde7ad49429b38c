-- Skews of rows, found cell by cell.
use Rattle.std.proofs.Common.{◌≡◌, ℕ, ◌<◌, List, length, drop, Some}
use Rattle.std.specs.Prelude.{max, slice_get, slice_index}
use Rattle.circuit_extracted.specs.declared.cells.Feed.{Feed}
use Rattle.circuit_extracted.specs.declared.cells.Feed.TheVariants.{Nothing, Pin, Label}
use Rattle.circuit_extracted.specs.declared.cells.ExCell.{ExCell}
use Rattle.circuit_extracted.specs.Circuits.{CircuitView, feed_at, IsFeedOf, KeepsFacts}
use Rattle.text_report.specs.Skews.{readers_skew}
use Rattle.text_report.specs.Code.Skews.{FeedStands, FeedsStand}

-- the skews of rows but for what the cells from number i on raise
pub record AreSkewsBelow (i rows : ℕ) (near far : ℕ → ℕ) (cells : List ExCell) (skews : List ℕ) : Type 0 where
  pub long : length skews ≡ rows
  pub each : (row : ℕ) → row < length skews
      → max (slice_index skews row) (readers_skew near far row cells i (drop i cells))
      ≡ readers_skew near far row cells 0 cells

-- what feeds the cells of a circuit stands in its rows
pub feeds_stand : (circuit : CircuitView) → KeepsFacts circuit → (c : ℕ) (cell : ExCell)
    → slice_get circuit.cells c ≡ Some cell → FeedsStand circuit.cells circuit.rows cell
feeds_stand circuit facts c cell at i = by_feed (feed_at cell i) ((facts.cells c cell at).each_feed i)
  where
    by_feed : (feed : Feed) → IsFeedOf circuit cell.row feed → FeedStands circuit.cells circuit.rows feed
    by_feed Nothing is = tt
    by_feed (Label n) is = tt
    by_feed (Pin d output) is =
        record { cell = is.cell; cell_is = is.cell_is; within = (facts.cells d is.cell is.cell_is).row_is }
