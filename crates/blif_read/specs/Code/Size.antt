-- The bytes of lines, against which the size of a netlist is measured.
use Rattle.std.specs.Prelude.{ℕ, ◌<◌, ◌≤◌, List, length}
use Rattle.std.specs.List.{AllByRecursion, sum_by}
use Rattle.blif_read.specs.Lines.{Line}

-- the bytes of tokens, the blanks between them left aside
abbrev pub token_bytes : List (List ℕ) → ℕ
token_bytes tokens = sum_by length tokens

-- the bytes of the tokens of lines
abbrev pub bytes_of : List Line → ℕ
bytes_of lines = sum_by (λ line. token_bytes line.tokens) lines

-- a line has tokens, and no token is empty
pub record IsCut (line : Line) : Type 0 where
  pub tokens : 0 < length line.tokens
  pub filled : AllByRecursion (λ t. 0 < length t) line.tokens

-- lines as they are cut from a text of at most so many bytes
pub record AreCut (limit : ℕ) (lines : List Line) : Type 0 where
  pub each : AllByRecursion IsCut lines
  pub fits : bytes_of lines ≤ limit
