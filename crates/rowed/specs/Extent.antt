-- How far the rows reach, in slots, before they are placed and after.
use Rattle.std.specs.Prelude.{ℕ, ◌+◌, max, List, [], ◌∷◌}
use Rattle.circuit.specs.CellKinds.{slots_of}
use Rattle.rowed.specs.declared.row_cell.RowCell.{RowCell}
use Rattle.rowed.specs.Slots.{span_of}
use Rattle.rowed.specs.PlacedNets.{PlacedRow}

-- the span of a row whose cells are packed without gaps, whatever their order
abbrev pub packed_span : List RowCell → ℕ
packed_span [] = 0
packed_span (cell ∷ cells) = slots_of cell.kind + packed_span cells

-- the greatest of these spans
abbrev pub widest_packed : List (List RowCell) → ℕ
widest_packed [] = 0
widest_packed (row ∷ rows) = max (packed_span row) (widest_packed rows)

-- the greatest span of rows that are placed
abbrev pub widest : List PlacedRow → ℕ
widest [] = 0
widest (row ∷ rows) = max (span_of row.cells row.slots) (widest rows)
