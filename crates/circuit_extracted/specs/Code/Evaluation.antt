-- The values of cells one after the other: each cell is fed by cells before it, and its value is computed from theirs.
use Rattle.std.specs.Prelude.{◌≡◌, ℕ, ◌<◌, Bool, List, Some, slice_get}
use Rattle.circuit.specs.Gates.{valuation}
use Rattle.circuit_extracted.specs.declared.cells.Feed.TheVariants.{Pin}
use Rattle.circuit_extracted.specs.declared.cells.ExCell.{ExCell}
use Rattle.circuit_extracted.specs.Circuits.{feed_at}
use Rattle.circuit_extracted.specs.Answers.{cell_value}

-- each cell that feeds another stands before it
abbrev pub AreFedBefore : List ExCell → Type 0
AreFedBefore cells = (c i d output : ℕ) (cell : ExCell) → slice_get cells c ≡ Some cell
    → feed_at cell i ≡ Pin d output → d < c

-- each cell has the value that its function gives
abbrev pub AreValues : List ExCell → List Bool → List Bool → Type 0
AreValues cells word values = (c : ℕ) (cell : ExCell) → slice_get cells c ≡ Some cell
    → valuation values c ≡ cell_value word (valuation values) cell
