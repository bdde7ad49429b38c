-- Nets that are drawn by the tests alone.
use Rattle.std.specs.Prelude.{[], ◌∷◌}
use Rattle.circuit.specs.declared.cell_kind.CellKind.TheVariants.{Buffer, Zero}
use Rattle.rowed.specs.MadeCells.{source, bare_cell, fed_cell, input_cell, output_cell}
use Rattle.rowed.specs.PlacedNets.{PlacedView}

-- crossing wires, slots between cells, and a constant that feeds nothing
abbrev pub crossing_placed : PlacedView
crossing_placed = record {
  net = record {
    inputs = 2;
    outputs = 2;
    rows = (input_cell 0 ∷ bare_cell Zero ∷ input_cell 1 ∷ [])
        ∷ (output_cell (source 2 0) 1 ∷ output_cell (source 0 0) 0 ∷ [])
        ∷ [];
  };
  slots = (0 ∷ 1 ∷ 6 ∷ []) ∷ (0 ∷ 7 ∷ []) ∷ [];
  lag = 0;
}

-- five rows of one buffer
abbrev pub column_placed : PlacedView
column_placed = record {
  net = record {
    inputs = 1;
    outputs = 1;
    rows = (input_cell 0 ∷ [])
        ∷ (fed_cell Buffer (source 0 0) ∷ [])
        ∷ (fed_cell Buffer (source 0 0) ∷ [])
        ∷ (fed_cell Buffer (source 0 0) ∷ [])
        ∷ (output_cell (source 0 0) 0 ∷ [])
        ∷ [];
  };
  slots = (0 ∷ []) ∷ (0 ∷ []) ∷ (0 ∷ []) ∷ (0 ∷ []) ∷ (0 ∷ []) ∷ [];
  lag = 0;
}
