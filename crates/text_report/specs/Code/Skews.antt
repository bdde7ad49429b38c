-- Skews as they are added up, cell by cell.
use Rattle.std.specs.Prelude.{◌≡◌, ℕ, ◌<◌, max, List, length, Some, slice_get, slice_index}
use Rattle.circuit_extracted.specs.declared.cells.Feed.{Feed}
use Rattle.circuit_extracted.specs.declared.cells.Feed.TheVariants.{Nothing, Pin, Label}
use Rattle.circuit_extracted.specs.declared.cells.ExCell.{ExCell}
use Rattle.circuit_extracted.specs.Circuits.{feed_at}

-- a cell of this number stands in one of the rows
pub record StandsWithin (cells : List ExCell) (rows d : ℕ) : Type 0 where
  pub cell : ExCell
  pub cell_is : slice_get cells d ≡ Some cell
  pub within : cell.row < rows

-- so does the cell that feeds, if one does
abbrev pub FeedStands : List ExCell → ℕ → Feed → Type 0
FeedStands cells rows Nothing = Unit {0}
FeedStands cells rows (Pin d output) = StandsWithin cells rows d
FeedStands cells rows (Label n) = Unit {0}

-- and so do all that feed the cell
abbrev pub FeedsStand : List ExCell → ℕ → ExCell → Type 0
FeedsStand cells rows cell = (i : ℕ) → FeedStands cells rows (feed_at cell i)

-- each entry is raised to this number, where it was less
pub record Raises (number : ℕ → ℕ) (before after : List ℕ) : Type 0 where
  pub long : length after ≡ length before
  pub each : (row : ℕ) → row < length before → slice_index after row ≡ max (slice_index before row) (number row)
