-- The answer of an extracted circuit to a word: the outputs' values under truth values that fit every cell.
use Rattle.std.specs.Prelude.{◌≡◌, ℕ, Bool, false, List, map, slice_index_or}
use Rattle.circuit.specs.Function.{value_of}
use Rattle.rowed.specs.declared.source.Source.{Source}
use Rattle.circuit_extracted.specs.declared.cells.Feed.{Feed}
use Rattle.circuit_extracted.specs.declared.cells.Feed.TheVariants.{Nothing, Pin, Label}
use Rattle.circuit_extracted.specs.declared.cells.ExCell.{ExCell}
use Rattle.circuit_extracted.specs.Circuits.{CircuitView, IsCellAt}

-- the value of a feed, under a word and a value for each cell
abbrev pub feed_value : List Bool → (ℕ → Bool) → Feed → Bool
feed_value word value Nothing = false
feed_value word value (Pin cell output) = value cell
feed_value word value (Label n) = slice_index_or word n false

-- the value that a cell's function gives
abbrev pub cell_value : List Bool → (ℕ → Bool) → ExCell → Bool
cell_value word value cell =
    value_of cell.kind
    (feed_value word value cell.feed0) (feed_value word value cell.feed1) (feed_value word value cell.feed2)

-- each cell has the value that its function gives
abbrev pub IsValuation : CircuitView → List Bool → (ℕ → Bool) → Type 0
IsValuation circuit word value = (c : ℕ) (cell : ExCell) → IsCellAt circuit c cell
    → value c ≡ cell_value word value cell

-- the values at these outputs
abbrev pub values_at : List Source → (ℕ → Bool) → List Bool
values_at sources value = map (λ source. value source.cell) sources

-- some values that fit every cell give the outputs this answer
pub record IsAnswer (circuit : CircuitView) (word answer : List Bool) : Type 0 where
  pub value : ℕ → Bool
  pub fits : IsValuation circuit word value
  pub answer_is : answer ≡ values_at circuit.outputs value
