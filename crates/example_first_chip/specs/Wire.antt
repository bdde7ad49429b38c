-- What the plan makes of the first chip's netlist, from step to step: one input that is the only output.
use Rattle.std.specs.Prelude.{[], ◌∷◌, codes}
use Rattle.circuit.specs.declared.gate.Gate.TheVariants.{Input, Zero, One}
use Rattle.circuit.specs.PlainNets.{PlainView}
use Rattle.rowed.specs.MadeCells.{source, input_cell, output_cell}
use Rattle.rowed.specs.RowNets.{RowView}
use Rattle.blif_read.specs.Parts.{NetView}

-- the netlist: signal 0, which is an input and no definition, is the output
abbrev pub wire : NetView
wire = record { inputs = 1; names = codes "a" ∷ []; defs = []; outputs = 0 ∷ [] }

-- its gates: the input and the two constants; the input is the output
abbrev pub wire_gates : PlainView
wire_gates = record { inputs = 1; gates = Input 0 ∷ Zero ∷ One ∷ []; outputs = 0 ∷ [] }

-- its rows: a buffer that shows the input, and above it one that shows the output
abbrev pub wire_rows : RowView
wire_rows = record {
  inputs = 1;
  outputs = 1;
  rows = (input_cell 0 ∷ []) ∷ (output_cell (source 0 0) 0 ∷ []) ∷ [];
}
