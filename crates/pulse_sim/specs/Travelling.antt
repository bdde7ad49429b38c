-- Clocks whose excitation takes time to run along the lines: it comes to a cell the later the further along it lies.
use Rattle.std.specs.Prelude.{◌≡◌, ℕ, suc, ◌+◌, ◌-◌, ◌*◌, ◌<◌, ◌≤◌, max, Bool, false, List, [], ◌∷◌, Some, None}
use Rattle.std.specs.Prelude.{zero, ◌%◌, slice_get}
use Rattle.std.specs.Prelude.{slice_index_or}
use Rattle.rowed.specs.declared.source.Source.{Source}
use Rattle.circuit_extracted.specs.declared.cells.Feed.{Feed}
use Rattle.circuit_extracted.specs.declared.cells.Feed.TheVariants.{Nothing, Pin, Label}
use Rattle.circuit_extracted.specs.declared.cells.ExCell.{ExCell}
use Rattle.circuit_extracted.specs.Circuits.{CircuitView, IsCellAt, IsFed}
use Rattle.pulse_sim.specs.declared.flux.Flux.{Flux}
use Rattle.pulse_sim.specs.declared.flux.Flux.TheVariants.{Off}
use Rattle.pulse_sim.specs.Fluxes.{sign}
use Rattle.pulse_sim.specs.Clocked.{Timed, IsClockedRun, HasComeTo, IsInside}

-- each cell lies along its line from distance near c to distance far c
abbrev pub AreSpans : (ℕ → ℕ) → (ℕ → ℕ) → Type 0
AreSpans near far = (c : ℕ) → near c ≤ far c

-- no two points of a cell, and none of a cell and its feed, are further apart along the lines than this
pub record IsSkewAtMost (circuit : CircuitView) (near far : ℕ → ℕ) (skew : ℕ) : Type 0 where
  pub own : (c : ℕ) → far c ≤ near c + skew
  pub up : (c i d output : ℕ) → IsFed circuit c i (Pin d output) → far d ≤ near c + skew
  pub down : (c i d output : ℕ) → IsFed circuit c i (Pin d output) → far c ≤ near d + skew

-- the skew is the least such distance
pub record IsSkew (circuit : CircuitView) (near far : ℕ → ℕ) (skew : ℕ) : Type 0 where
  pub at_most : IsSkewAtMost circuit near far skew
  pub least : (other : ℕ) → IsSkewAtMost circuit near far other → skew ≤ other

-- when the excitation of beat n comes to this place of cell c: it takes `slow` units of time for each unit of distance
abbrev pub arrives : (ℕ → ℕ) → ℕ → (ℕ → ℕ) → ℕ → ℕ → ℕ
arrives beat slow at c n = beat n + slow * at c

-- the same, with what the moments of one beat vary
abbrev pub is_past : (ℕ → ℕ) → ℕ → ℕ → (ℕ → ℕ) → ℕ → ℕ → ℕ
is_past beat slow late at c n = beat n + slow * at c + late

-- beats that are a quarter of the period apart
abbrev pub every_quarter : ℕ → ℕ → ℕ
every_quarter quarter n = quarter * n

-- At every rate at which the excitation runs the skew in less than a quarter of the period, an output has the sign of
-- its bit of answer k at each time that is inside the excitation that is due there at beat 4k + d. Of the windows
-- nothing else is asked.
abbrev pub ShowsAtRates : CircuitView → (ℕ → ℕ) → (ℕ → ℕ) → ℕ → ℕ → List (List Bool) → List (List Bool) → Type 0
ShowsAtRates circuit near far skew d words answers =
    (slow quarter : ℕ) (past : List Timed) (state : List Flux) (time k j : ℕ) (answer : List Bool)
    (source : Source) → slow * skew < quarter
    → IsClockedRun circuit words (arrives (every_quarter quarter) slow near)
    (is_past (every_quarter quarter) slow 0 far) past state
    → HasComeTo circuit (is_past (every_quarter quarter) slow 0 far) past time
    → slice_get answers k ≡ Some answer → slice_get circuit.outputs j ≡ Some source
    → IsInside (arrives (every_quarter quarter) slow near) (is_past (every_quarter quarter) slow 0 far) source.cell
    (4 * k + d) time
    → slice_index_or state source.cell Off ≡ sign (slice_index_or answer j false)

-- the greatest distance between a point of the one cell and a point of the other
abbrev pub apart : (ℕ → ℕ) → (ℕ → ℕ) → ℕ → ℕ → ℕ
apart near far c d = max (far c - near d) (far d - near c)

-- the same of a cell and what feeds it, which is nothing where an input of the circuit does
abbrev pub feed_skew : (ℕ → ℕ) → (ℕ → ℕ) → ℕ → Feed → ℕ
feed_skew near far c Nothing = 0
feed_skew near far c (Pin d output) = apart near far c d
feed_skew near far c (Label n) = 0

-- of a cell with itself and its feeds
abbrev pub cell_skew : (ℕ → ℕ) → (ℕ → ℕ) → ℕ → ExCell → ℕ
cell_skew near far c cell =
    max (far c - near c) (max (feed_skew near far c cell.feed0)
    (max (feed_skew near far c cell.feed1) (feed_skew near far c cell.feed2)))

-- the greatest of cells that are numbered from c
abbrev pub skew_from : (ℕ → ℕ) → (ℕ → ℕ) → ℕ → List ExCell → ℕ
skew_from near far c [] = 0
skew_from near far c (cell ∷ cells) = max (cell_skew near far c cell) (skew_from near far (suc c) cells)

-- the skew of a circuit, as it is computed
abbrev pub skew_of : CircuitView → (ℕ → ℕ) → (ℕ → ℕ) → ℕ
skew_of circuit near far = skew_from near far 0 circuit.cells

-- No point of a cell of an even row is further along its line than `even` beyond a point of a cell that it feeds or
-- that feeds it, and none of an odd row further than `odd`; no cell is wider than either.
pub record AreAheadAtMost (circuit : CircuitView) (near far : ℕ → ℕ) (even odd : ℕ) : Type 0 where
  pub width_even : (c : ℕ) → far c ≤ near c + even
  pub width_odd : (c : ℕ) → far c ≤ near c + odd
  pub in_even : (c i d output : ℕ) (cell : ExCell) → IsCellAt circuit c cell → IsFed circuit c i (Pin d output)
      → cell.row % 2 ≡ 0 → (far c ≤ near d + even) × (far d ≤ near c + odd)
  pub in_odd : (c i d output : ℕ) (cell : ExCell) → IsCellAt circuit c cell → IsFed circuit c i (Pin d output)
      → cell.row % 2 ≡ 1 → (far c ≤ near d + odd) × (far d ≤ near c + even)

-- how much longer the line of this row is before its first bar
abbrev pub lead_of : ℕ → ℕ → ℕ → ℕ
lead_of even_lead odd_lead row = elim (row % 2) [ zero ↦ even_lead | suc n ↦ odd_lead ]

-- the distances where the lines are longer by these lengths before their first bars
abbrev pub led : CircuitView → ℕ → ℕ → (ℕ → ℕ) → ℕ → ℕ
led circuit even_lead odd_lead at c =
    elim (slice_get circuit.cells c) [ None ↦ at c | Some cell ↦ at c + lead_of even_lead odd_lead cell.row ]

-- how far the one of a cell and its feed that stands in an even row is beyond the other
abbrev pub even_beyond : (ℕ → ℕ) → (ℕ → ℕ) → ℕ → ℕ → Feed → ℕ
even_beyond near far row c Nothing = 0
even_beyond near far row c (Pin d output) = elim (row % 2) [ zero ↦ far c - near d | suc n ↦ far d - near c ]
even_beyond near far row c (Label n) = 0

-- and the one in an odd row
abbrev pub odd_beyond : (ℕ → ℕ) → (ℕ → ℕ) → ℕ → ℕ → Feed → ℕ
odd_beyond near far row c Nothing = 0
odd_beyond near far row c (Pin d output) = elim (row % 2) [ zero ↦ far d - near c | suc n ↦ far c - near d ]
odd_beyond near far row c (Label n) = 0

-- the greatest of a cell's own width and of this measure of its feeds
abbrev pub cell_most : (ℕ → ℕ → Feed → ℕ) → (ℕ → ℕ) → (ℕ → ℕ) → ℕ → ExCell → ℕ
cell_most measure near far c cell =
    max (far c - near c) (max (measure cell.row c cell.feed0)
    (max (measure cell.row c cell.feed1) (measure cell.row c cell.feed2)))

-- the greatest of cells that are numbered from c
abbrev pub most_from : (ℕ → ℕ → Feed → ℕ) → (ℕ → ℕ) → (ℕ → ℕ) → ℕ → List ExCell → ℕ
most_from measure near far c [] = 0
most_from measure near far c (cell ∷ cells) =
    max (cell_most measure near far c cell) (most_from measure near far (suc c) cells)

-- how far the even rows are ahead, and the odd ones, as they are computed
abbrev pub even_of : CircuitView → (ℕ → ℕ) → (ℕ → ℕ) → ℕ
even_of circuit near far = most_from (even_beyond near far) near far 0 circuit.cells

abbrev pub odd_of : CircuitView → (ℕ → ℕ) → (ℕ → ℕ) → ℕ
odd_of circuit near far = most_from (odd_beyond near far) near far 0 circuit.cells
