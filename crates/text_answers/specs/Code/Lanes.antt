-- 128 words at once: bit l of each number is a value under the word of lane l.
use Rattle.std.specs.Prelude.{◌≡◌, ℕ, zero, suc, ◌<◌, Bool, List, [], ◌++◌, map, Some, slice_get, slice_index_or}
use Rattle.truth_tables.specs.Tables.{holds}
use Rattle.circuit_extracted.specs.declared.cells.Feed.{Feed}
use Rattle.circuit_extracted.specs.declared.cells.Feed.TheVariants.{Nothing, Pin, Label}
use Rattle.circuit_extracted.specs.declared.cells.ExCell.{ExCell}
use Rattle.circuit_extracted.specs.Answers.{cell_value}
use Rattle.text_answers.specs.WordLines.{word_line}

-- the values of a lane, one after another
abbrev pub in_lane : ℕ → List ℕ → List Bool
in_lane l numbers = map (λ number. holds number l) numbers

-- the value in a lane of each number, and false past the last
abbrev pub lane_value : ℕ → List ℕ → ℕ → Bool
lane_value l numbers i = holds (slice_index_or numbers i 0) l

-- the number of a feed
abbrev pub feed_number : List ℕ → List ℕ → Feed → ℕ
feed_number words values Nothing = 0
feed_number words values (Pin cell output) = slice_index_or values cell 0
feed_number words values (Label input) = slice_index_or words input 0

-- in each lane each cell has the value that its function gives
abbrev pub AreLaneValues : List ExCell → List ℕ → List ℕ → Type 0
AreLaneValues cells words values = (l : ℕ) → l < 128 → (c : ℕ) (cell : ExCell) → slice_get cells c ≡ Some cell
    → lane_value l values c ≡ cell_value (in_lane l words) (lane_value l values) cell

-- the lines of the first n words
abbrev pub lines_of : (ℕ → List Bool) → ℕ → List ℕ
lines_of word zero = []
lines_of word (suc l) = lines_of word l ++ word_line (word l)
