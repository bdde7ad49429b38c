-- An extracted circuit as gates: one for each input, and then one for each cell.
use Rattle.std.specs.Prelude.{ℕ, zero, suc, ◌+◌, ◌<◌, ◌^◌, List, [], ◌∷◌, ◌++◌, map}
use Rattle.circuit.specs.PlainNets.{PlainView}
use Rattle.circuit.specs.declared.gate.Gate.{Gate}
use Rattle.circuit.specs.declared.gate.Gate.TheVariants as gate
use Rattle.circuit.specs.declared.cell_kind.CellKind.{CellKind}
use Rattle.circuit.specs.declared.cell_kind.CellKind.TheVariants.{Buffer, Inverter, Zero, One, Split2, Split3, Majority}
use Rattle.circuit_extracted.specs.declared.cells.Feed.{Feed}
use Rattle.circuit_extracted.specs.declared.cells.Feed.TheVariants.{Nothing, Pin, Label}
use Rattle.circuit_extracted.specs.declared.cells.ExCell.{ExCell}
use Rattle.circuit_extracted.specs.Circuits.{CircuitView}

-- the gate that a feed names, of n inputs: that of an input of the circuit, or that of the cell whose output it is
abbrev pub feed_gate : ℕ → Feed → ℕ
feed_gate n Nothing = 0
feed_gate n (Pin cell output) = n + cell
feed_gate n (Label input) = input

-- the gate of a kind of cell whose inputs are these gates: each output of a splitter shows what it takes
abbrev pub gate_by : CellKind → ℕ → ℕ → ℕ → Gate
gate_by Buffer x y z = gate.Buf x
gate_by Inverter x y z = gate.Inv x
gate_by Zero x y z = gate.Zero
gate_by One x y z = gate.One
gate_by Split2 x y z = gate.Buf x
gate_by Split3 x y z = gate.Buf x
gate_by Majority x y z = gate.Maj x y z

-- the gate of a cell
abbrev pub gate_of : ℕ → ExCell → Gate
gate_of n cell = gate_by cell.kind (feed_gate n cell.feed0) (feed_gate n cell.feed1) (feed_gate n cell.feed2)

-- the gates of n inputs, in order
abbrev pub inputs_to : ℕ → List Gate
inputs_to zero = []
inputs_to (suc n) = inputs_to n ++ gate.Input n ∷ []

-- the circuit of these gates
abbrev pub cells_of : CircuitView → PlainView
cells_of circuit = record {
  inputs = circuit.inputs;
  gates = inputs_to circuit.inputs ++ map (gate_of circuit.inputs) circuit.cells;
  outputs = map (λ source. circuit.inputs + source.cell) circuit.outputs;
}

-- the gates that a cell's feeds name have 32-bit numbers
pub record FeedsFit (n : ℕ) (cell : ExCell) : Type 0 where
  pub first : feed_gate n cell.feed0 < 2 ^ 32
  pub second : feed_gate n cell.feed1 < 2 ^ 32
  pub third : feed_gate n cell.feed2 < 2 ^ 32
