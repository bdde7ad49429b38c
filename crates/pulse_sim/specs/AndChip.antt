-- The circuit of the chip of an and, a majority of two inputs and a zero, and where its cells lie along their lines.
use Rattle.std.specs.Prelude.{ℕ, [], ◌∷◌, slice_index_or}
use Rattle.circuit.specs.declared.cell_kind.CellKind.TheVariants.{Buffer, Zero, Majority}
use Rattle.rowed.specs.declared.source.Source.{Source}
use Rattle.circuit_extracted.specs.declared.cells.Feed.TheVariants.{Nothing, Pin, Label}
use Rattle.circuit_extracted.specs.declared.cells.ExCell.{ExCell}
use Rattle.circuit_extracted.specs.Circuits.{CircuitView}

abbrev pub first_input : ExCell
first_input = record { kind = Buffer; row = 0; phase = 0; feed0 = Label 0; feed1 = Nothing; feed2 = Nothing }

abbrev pub zero_between : ExCell
zero_between = record { kind = Zero; row = 0; phase = 0; feed0 = Nothing; feed1 = Nothing; feed2 = Nothing }

abbrev pub second_input : ExCell
second_input = record { kind = Buffer; row = 0; phase = 0; feed0 = Label 1; feed1 = Nothing; feed2 = Nothing }

abbrev pub and_of_both : ExCell
and_of_both = record { kind = Majority; row = 1; phase = 1; feed0 = Pin 0 0; feed1 = Pin 1 0; feed2 = Pin 2 0 }

abbrev pub and_shown : ExCell
and_shown = record { kind = Buffer; row = 2; phase = 2; feed0 = Pin 3 0; feed1 = Nothing; feed2 = Nothing }

abbrev pub and_output : Source
and_output = record { cell = 4; output = 0 }

unfoldable pub and_circuit : CircuitView
and_circuit = record {
  cells = first_input ∷ zero_between ∷ second_input ∷ and_of_both ∷ and_shown ∷ [];
  inputs = 2;
  outputs = and_output ∷ [];
  rows = 3;
  wires = 4;
  nets = [];
}

-- The even line runs the bar of the lowest row, of 24,000 nanometres, to the right, then a link of 38,000, and then the
-- bar of the last row to the left, at whose end the last cell stands. The odd line's one bar is below the majority.
abbrev pub and_near : ℕ → ℕ
and_near c = slice_index_or (0 ∷ 8000 ∷ 16000 ∷ 0 ∷ 78000 ∷ []) c 0

abbrev pub and_far : ℕ → ℕ
and_far c = slice_index_or (8000 ∷ 16000 ∷ 24000 ∷ 24000 ∷ 86000 ∷ []) c 0
