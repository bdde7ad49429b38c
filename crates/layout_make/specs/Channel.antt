-- The wires of the channel between two neighbouring rows: one for each pin of the upper row that is fed, by rising
-- column of the output where they begin.
use Rattle.std.specs.Prelude.{ℕ, suc, ◌+◌, ◌*◌, List, [], ◌∷◌, Option, Some, None, slice_get}
use Rattle.rowed.specs.declared.source.Source.{Source}
use Rattle.rowed.specs.declared.wire.Wire.{Wire}
use Rattle.rowed.specs.PlacedNets.{PlacedView}
use Rattle.sorting.specs.Sorting.{by_key}
use Rattle.cell_library.specs.Library.{LibraryView, input_column_of, output_column_of}
use Rattle.layout_make.specs.Spots.{Spot, spots}

-- the column of an input pin, and of an output pin, counted from the left edge of the rows
abbrev pub in_column : LibraryView → Spot → ℕ → ℕ
in_column l x i = x.slot * l.columns + input_column_of l x.cell.kind i

-- the same of an output pin
abbrev pub out_column : LibraryView → Spot → ℕ → ℕ
out_column l y o = y.slot * l.columns + output_column_of l y.cell.kind o

-- the slot and the column of an output pin of the cell, if there is one
abbrev pub slot_from : Option Spot → ℕ → ℕ
slot_from None o = 0
slot_from (Some y) o = y.slot + o

-- the column of an output pin of the cell, if there is one
abbrev pub column_from : LibraryView → Option Spot → ℕ → ℕ
column_from l None o = 0
column_from l (Some y) o = out_column l y o

-- the wire from an output pin to input pin i of a cell
abbrev pub wire_to : LibraryView → Option Spot → ℕ → Spot → ℕ → Wire
wire_to l lower o x i = record {
  from_slot = slot_from lower o;
  to_slot = x.slot + i;
  from_column = column_from l lower o;
  to_column = in_column l x i;
}

-- the wire that ends at input pin i of a cell, if the pin is fed, before other wires
abbrev pub pin_wire : LibraryView → List Spot → Spot → ℕ → Option Source → List Wire → List Wire
pin_wire l lower x i None more = more
pin_wire l lower x i (Some s) more = wire_to l (slice_get lower s.cell) s.output x i ∷ more

-- the wires from a lower row, by the cells of the upper row and their pins
abbrev pub wires_into : LibraryView → List Spot → List Spot → List Wire
wires_into l lower [] = []
wires_into l lower (x ∷ xs) =
    pin_wire l lower x 0 x.cell.source0
    (pin_wire l lower x 1 x.cell.source1 (pin_wire l lower x 2 x.cell.source2 (wires_into l lower xs)))

-- the column where a wire begins
abbrev pub from_of : Wire → ℕ
from_of w = w.from_column

-- the wires of the channel above row r
abbrev pub channel : PlacedView → LibraryView → ℕ → List Wire
channel p l r = by_key from_of (wires_into l (spots p r) (spots p (suc r)))
