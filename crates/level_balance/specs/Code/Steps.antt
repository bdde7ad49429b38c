-- One turn of the walks over gates and signals.
use Rattle.std.specs.Prelude.{ℕ, ◌+◌, ◌&&◌, ◌||◌, max, Bool, true, false, not, ltb, List, [], length, replicate}
use Rattle.std.specs.Prelude.{slice_index_or}
use Rattle.circuit.specs.PlainNets.{is_constant}
use Rattle.circuit.specs.declared.gate.Gate.{Gate}
use Rattle.level_balance.specs.Levels.{depth}
use Rattle.level_balance.specs.Uses.{operands, counts}

-- whether gate i counts, if it is known whether an output needs it
abbrev pub counts_if : ℕ → Bool → ℕ → Bool
counts_if n is_needed i = ltb i n || (is_needed && not (is_constant n i))

-- the operands of gate i, if it counts
abbrev pub counted_operands : ℕ → List Bool → ℕ → Gate → List ℕ
counted_operands n marks i g = elim (counts n marks i) [ true ↦ operands g | false ↦ [] ]

-- the greater of a number and of the row where the tree of a gate ends, if it is no constant
abbrev pub raised_by : ℕ → ℕ → List ℕ → List ℕ → ℕ → ℕ → ℕ
raised_by n b fans done h row = elim (is_constant n h) [
  | true ↦ row
  | false ↦ max (slice_index_or done h 0 + depth b (slice_index_or fans h 0)) row
]

-- the rows of the users of the operands of gate i, if it counts
abbrev pub counted_rows : ℕ → List Bool → List ℕ → ℕ → Gate → List ℕ
counted_rows n marks ls i g = elim (counts n marks i) [
  | true ↦ replicate (length (operands g)) (slice_index_or ls i 0)
  | false ↦ []
]
