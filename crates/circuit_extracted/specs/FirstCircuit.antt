-- The circuit of the first chip: a buffer that takes the chip's input, and above it one that shows the chip's output.
use Rattle.std.specs.Prelude.{ℕ, List, [], ◌∷◌}
use Rattle.circuit.specs.declared.cell_kind.CellKind.TheVariants.{Buffer}
use Rattle.rowed.specs.declared.source.Source.{Source}
use Rattle.circuit_extracted.specs.declared.cells.Feed.TheVariants.{Nothing, Pin, Label}
use Rattle.circuit_extracted.specs.declared.cells.ExCell.{ExCell}
use Rattle.circuit_extracted.specs.Circuits.{CircuitView}

-- the buffer of the lowest row, which takes input 0
abbrev pub lower_buffer : ExCell
lower_buffer = record { kind = Buffer; row = 0; phase = 0; feed0 = Label 0; feed1 = Nothing; feed2 = Nothing }

-- the buffer above it, which takes the lower one's output
abbrev pub upper_buffer : ExCell
upper_buffer = record { kind = Buffer; row = 1; phase = 1; feed0 = Pin 0 0; feed1 = Nothing; feed2 = Nothing }

-- the output of the upper buffer
abbrev pub upper_output : Source
upper_output = record { cell = 1; output = 0 }

-- the wire and the pins that it joins are one net, which goes by the lower buffer's output pin
abbrev pub first_nets : List ℕ
first_nets = 0 ∷ 1 ∷ 2 ∷ 3 ∷ 4 ∷ 2 ∷ 2 ∷ 2 ∷ 2 ∷ 2 ∷ 10 ∷ 2 ∷ 12 ∷ 13 ∷ 14 ∷ []

-- the two buffers, in two rows with one wire between them
unfoldable pub first_circuit : CircuitView
first_circuit = record {
  cells = lower_buffer ∷ upper_buffer ∷ [];
  inputs = 1;
  outputs = upper_output ∷ [];
  rows = 2;
  wires = 1;
  nets = first_nets;
}
