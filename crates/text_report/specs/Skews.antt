-- How far apart along the excitation lines the cells are that a wire joins, by the rows that wires leave.
use Rattle.std.specs.Prelude.{ℕ, suc, ◌-◌, ◌==◌, max, Bool, false, List, [], ◌∷◌, None, Some, slice_get, if◌then◌else◌}
use Rattle.circuit_extracted.specs.declared.cells.Feed.{Feed}
use Rattle.circuit_extracted.specs.declared.cells.Feed.TheVariants.{Nothing, Pin, Label}
use Rattle.circuit_extracted.specs.declared.cells.ExCell.{ExCell}
use Rattle.circuit_extracted.specs.Circuits.{CircuitView}
use Rattle.pulse_sim.specs.Travelling.{apart}

-- the cell of this number stands in the row
abbrev pub stands_in_row : List ExCell → ℕ → ℕ → Bool
stands_in_row cells row d = elim (slice_get cells d) [ None ↦ false | Some cell ↦ cell.row == row ]

-- the greatest distance between two points of cell c, and of cell c and cell d, which feeds it
abbrev pub pair_skew : (ℕ → ℕ) → (ℕ → ℕ) → ℕ → ℕ → ℕ
pair_skew near far c d = max (far c - near c) (apart near far c d)

-- that of a wire to cell c where it leaves the row, and otherwise 0
abbrev pub wire_skew : (ℕ → ℕ) → (ℕ → ℕ) → ℕ → List ExCell → ℕ → Feed → ℕ
wire_skew near far row cells c Nothing = 0
wire_skew near far row cells c (Pin d output) = (if stands_in_row cells row d then pair_skew near far c d else 0)
wire_skew near far row cells c (Label n) = 0

-- the greatest of the wires to cell c that leave the row
abbrev pub reader_skew : (ℕ → ℕ) → (ℕ → ℕ) → ℕ → List ExCell → ℕ → ExCell → ℕ
reader_skew near far row cells c cell =
    max (wire_skew near far row cells c cell.feed0)
    (max (wire_skew near far row cells c cell.feed1) (wire_skew near far row cells c cell.feed2))

-- the greatest of the wires to these cells, which are numbered from c
abbrev pub readers_skew : (ℕ → ℕ) → (ℕ → ℕ) → ℕ → List ExCell → ℕ → List ExCell → ℕ
readers_skew near far row cells c [] = 0
readers_skew near far row cells c (cell ∷ rest) =
    max (reader_skew near far row cells c cell) (readers_skew near far row cells (suc c) rest)

-- the greatest of all wires that leave the row, and 0 of none
abbrev pub row_skew : CircuitView → (ℕ → ℕ) → (ℕ → ℕ) → ℕ → ℕ
row_skew circuit near far row = readers_skew near far row circuit.cells 0 circuit.cells
