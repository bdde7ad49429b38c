-- The circuit that a layout holds: what contracts see of it, and what every extracted circuit keeps.
use Rattle.std.specs.Prelude.{◌≡◌, ◌≢◌, ◌↔◌, ℕ, zero, suc, ◌+◌, ◌%◌, ◌^◌, ◌<◌, ◌≤◌, List, length, Some, slice_get}
use Rattle.std.specs.List.Sorted.{IsNonDecreasingBy}
use Rattle.circuit.specs.CellKinds.{inputs_of, outputs_of}
use Rattle.rowed.specs.declared.source.Source.{Source}
use Rattle.circuit_extracted.specs.declared.cells.Feed.{Feed}
use Rattle.circuit_extracted.specs.declared.cells.Feed.TheVariants.{Nothing, Pin, Label}
use Rattle.circuit_extracted.specs.declared.cells.ExCell.{ExCell}

-- what a contract sees of an extracted circuit
pub record CircuitView : Type 0 where
  pub cells : List ExCell
  pub inputs : ℕ
  pub outputs : List Source
  pub rows : ℕ
  pub wires : ℕ
  pub nets : List ℕ

-- cell number c is this one
abbrev pub IsCellAt : CircuitView → ℕ → ExCell → Type 0
IsCellAt circuit c cell = slice_get circuit.cells c ≡ Some cell

-- what input number i of a cell takes
abbrev pub feed_at : ExCell → ℕ → Feed
feed_at cell zero = cell.feed0
feed_at cell (suc zero) = cell.feed1
feed_at cell (suc (suc zero)) = cell.feed2
feed_at cell (suc (suc (suc i))) = Nothing

-- input number i of cell number c takes this feed
pub record IsFed (circuit : CircuitView) (c i : ℕ) (feed : Feed) : Type 0 where
  pub cell : ExCell
  pub cell_is : IsCellAt circuit c cell
  pub feed_is : feed_at cell i ≡ feed

-- the source is an output of a cell in the row just below this row
pub record IsOutputBelow (circuit : CircuitView) (row : ℕ) (source : Source) : Type 0 where
  pub cell : ExCell
  pub cell_is : IsCellAt circuit source.cell cell
  pub just_below : cell.row + 1 ≡ row
  pub has_output : source.output < outputs_of cell.kind

-- what a cell of this row may take: outputs of the row just below, and in the lowest row inputs of the circuit
abbrev pub IsFeedOf : CircuitView → ℕ → Feed → Type 0
IsFeedOf circuit row Nothing = Unit {0}
IsFeedOf circuit row (Pin cell output) = IsOutputBelow circuit row (record { cell = cell; output = output })
IsFeedOf circuit row (Label n) = (row ≡ 0) × (n < circuit.inputs)

-- the cell stands in a row of the circuit, in the phase of that row, and has a feed for each input of its kind and no
-- more
pub record IsCellOf (circuit : CircuitView) (cell : ExCell) : Type 0 where
  pub row_is : cell.row < circuit.rows
  pub phase_is : cell.phase ≡ cell.row % 4
  pub feeds : (i : ℕ) → (feed_at cell i ≡ Nothing) ↔ (inputs_of cell.kind ≤ i)
  pub each_feed : (i : ℕ) → IsFeedOf circuit cell.row (feed_at cell i)

-- some cell stands in the row
pub record HasCell (circuit : CircuitView) (row : ℕ) : Type 0 where
  pub number : ℕ
  pub cell : ExCell
  pub cell_is : IsCellAt circuit number cell
  pub row_is : cell.row ≡ row

-- some input of a cell takes input number n of the circuit
pub record IsTaken (circuit : CircuitView) (n : ℕ) : Type 0 where
  pub number : ℕ
  pub input : ℕ
  pub fed : IsFed circuit number input (Label n)

-- some output of the circuit shows the source
pub record IsShown (circuit : CircuitView) (source : Source) : Type 0 where
  pub number : ℕ
  pub shown : slice_get circuit.outputs number ≡ Some source

-- what every extracted circuit keeps
pub record KeepsFacts (circuit : CircuitView) : Type 0 where
  -- there is a row, no row is empty, and the cells stand by rising row
  pub some_row : 1 ≤ circuit.rows
  pub each_row : (row : ℕ) → row < circuit.rows → HasCell circuit row
  pub rising : IsNonDecreasingBy (λ cell. cell.row) circuit.cells
  pub cells : (c : ℕ) (cell : ExCell) → IsCellAt circuit c cell → IsCellOf circuit cell
  -- no output of a cell, and no input of the circuit, feeds two inputs of cells
  pub once : (feed : Feed) (c i d j : ℕ) → feed ≢ Nothing → IsFed circuit c i feed → IsFed circuit d j feed
      → (c ≡ d) × (i ≡ j)
  -- each input of the circuit feeds an input of a cell
  pub each_input : (n : ℕ) → n < circuit.inputs → IsTaken circuit n
  -- the outputs of the circuit are the outputs of the last row, each once
  pub outputs : (k : ℕ) (source : Source) → slice_get circuit.outputs k ≡ Some source
      → IsOutputBelow circuit circuit.rows source
  pub each_output : (source : Source) → IsOutputBelow circuit circuit.rows source → IsShown circuit source
  pub shown_once : (k l : ℕ) (source : Source) → slice_get circuit.outputs k ≡ Some source
      → slice_get circuit.outputs l ≡ Some source → k ≡ l
  -- cells, outputs and shapes are named by 32-bit numbers
  pub few_cells : length circuit.cells < 2 ^ 32
  pub few_outputs : length circuit.outputs < 2 ^ 32
  pub few_shapes : length circuit.nets < 2 ^ 32
