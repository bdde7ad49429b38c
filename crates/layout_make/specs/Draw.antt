-- The drawing of a placed net, its layout generation: a structure for each kind of cell that it uses, and then the top.
use Rattle.std.specs.Prelude.{ℕ, ◌+◌, ◌-◌, ◌*◌, ◌/◌, ◌==◌, Bool, true, false, List, [], ◌∷◌, ◌++◌, length, map, pos}
use Rattle.std.specs.Prelude.{codes}
use Rattle.std.specs.List.{flat_map, filter, list_any}
use Rattle.std.specs.Fmt.{decimal}
use Rattle.circuit.specs.CellKinds.{number_of}
use Rattle.circuit.specs.declared.cell_kind.CellKind.{CellKind}
use Rattle.circuit.specs.declared.cell_kind.CellKind.TheVariants.{Buffer, Inverter, Zero, One, Split2, Split3, Majority}
use Rattle.geom.specs.declared.shapes.Label.{Label}
use Rattle.geom.specs.declared.layout.Element.{Element}
use Rattle.geom.specs.declared.layout.Element.TheVariants.{Box, Place, Text}
use Rattle.geom.specs.declared.layout.Structure.{Structure}
use Rattle.geom.specs.declared.layout.Layout.{Layout}
use Rattle.layout_rules.specs.declared.layers.TheConstants.{LABELS}
use Rattle.layout_rules.specs.Labels.{letter_i, letter_o}
use Rattle.rowed.specs.declared.row_cell.RowCell.{RowCell}
use Rattle.sorting.specs.Numbers.{numbers, place_of}
use Rattle.rowed.specs.RowNets.{last_of}
use Rattle.rowed.specs.PlacedNets.{PlacedView}
use Rattle.cell_library.specs.Kinds.{all_kinds}
use Rattle.cell_library.specs.Library.{LibraryView, input_column_of, output_column_of}
use Rattle.layout_make.specs.Sheet.{Sheet, Tag, shape_of, centre, lower_edge}
use Rattle.layout_make.specs.Spots.{Spot, spots, has_port, input_port, output_port}
use Rattle.layout_make.specs.Channel.{channel}
use Rattle.layout_make.specs.Tags.{sheet, cell_tags, wire_tags, line_tags, lag_tags}

-- the name of a kind's structure
abbrev pub kind_name : CellKind → List ℕ
kind_name Buffer = codes "BUF"
kind_name Inverter = codes "INV"
kind_name Zero = codes "ZERO"
kind_name One = codes "ONE"
kind_name Split2 = codes "SPL2"
kind_name Split3 = codes "SPL3"
kind_name Majority = codes "MAJ"

-- a sheet without rows and wires
abbrev pub alone : LibraryView → Sheet
alone l = record {
  library = l;
  rows = 0;
  right = 0;
  lag = 0;
  used = λ r. 0;
  wired = λ r c. false;
  to = λ r c. 0;
  track = λ r c. 0;
}

-- shapes as elements, by their tags
abbrev pub boxes : Sheet → List Tag → List Element
boxes s ts = map (λ t. Box (shape_of s t)) ts

-- the structure of a kind: a cell by itself, at the left end of the first row
abbrev pub cell_structure : LibraryView → CellKind → Structure
cell_structure l k = record { name = kind_name k; elements = boxes (alone l) (cell_tags l 0 0 k) }

-- the kinds have one number
abbrev pub same_kind : CellKind → CellKind → Bool
same_kind a b = number_of a == number_of b

-- a cell of the kind stands in the row
abbrev pub row_has : CellKind → List RowCell → Bool
row_has k cells = list_any (λ (cell : RowCell). same_kind k cell.kind) cells

-- a cell of the kind stands in some row
abbrev pub uses : PlacedView → CellKind → Bool
uses p k = list_any (row_has k) p.net.rows

-- the kinds that the net uses, by rising number
abbrev pub used_kinds : PlacedView → List CellKind
used_kinds p = filter (uses p) all_kinds

-- the place of a kind's structure
abbrev pub kind_place : CellKind → List CellKind → ℕ
kind_place k ks = place_of (map number_of ks) (number_of k)

-- a reference to the structure of a cell's kind, where the cell stands
abbrev pub place_of_spot : PlacedView → LibraryView → ℕ → Spot → Element
place_of_spot p l r x = Place (kind_place x.cell.kind (used_kinds p)) (pos (x.slot * (l.columns * l.pitch)))
    (pos (lower_edge (sheet p l) r))

-- a row: its cells, its lead, its bar, and the wires of the channel above it
abbrev pub row_elements : PlacedView → LibraryView → ℕ → List Element
row_elements p l r = map (place_of_spot p l r) (spots p r)
    ++ boxes (sheet p l) (line_tags r ++ flat_map (wire_tags r) (channel p l r))

-- Labels stand at the centres of their pins.

-- the slot of the first cell that passes
abbrev pub slot_where : (RowCell → Bool) → List Spot → ℕ
slot_where test [] = 0
slot_where test (x ∷ xs) = elim (test x.cell) [ true ↦ x.slot | false ↦ slot_where test xs ]

-- the label of input n, in the first row
abbrev pub input_label : PlacedView → LibraryView → ℕ → Label
input_label p l n = record {
  layer = LABELS;
  x = pos (centre l (slot_where (λ c. has_port (input_port c) n) (spots p 0) * l.columns + input_column_of l Buffer 0));
  y = pos (l.pin / 2);
  text = letter_i ∷ decimal n;
}

-- the number of the last row
abbrev pub last_row : PlacedView → ℕ
last_row p = last_of p.net.rows

-- the label of output n, in the last row
abbrev pub output_label : PlacedView → LibraryView → ℕ → Label
output_label p l n = record {
  layer = LABELS;
  x = pos (centre l (slot_where (λ c. has_port (output_port c) n) (spots p (last_row p)) * l.columns
      + output_column_of l Buffer 0));
  y = pos (lower_edge (sheet p l) (last_row p) + l.height - l.pin / 2);
  text = letter_o ∷ decimal n;
}

-- the labels, inputs first
abbrev pub labels : PlacedView → LibraryView → List Label
labels p l = map (input_label p l) (numbers 0 p.net.inputs) ++ map (output_label p l) (numbers 0 p.net.outputs)

-- the rows from the lowest on, and the delay
abbrev pub shape_elements : PlacedView → LibraryView → List Element
shape_elements p l = flat_map (row_elements p l) (numbers 0 (length p.net.rows)) ++ boxes (sheet p l) (lag_tags p.lag)

-- the elements of the top: those, and the labels
abbrev pub top_elements : PlacedView → LibraryView → List Element
top_elements p l = shape_elements p l ++ map (λ b. Text b) (labels p l)

-- the top structure
abbrev pub top_of : PlacedView → LibraryView → Structure
top_of p l = record { name = codes "TOP"; elements = top_elements p l }

-- the layout: the structures of the kinds, and then the top
unfoldable pub draw : PlacedView → LibraryView → Layout
draw p l = record { structures = map (cell_structure l) (used_kinds p) ++ top_of p l ∷ []; top = length (used_kinds p) }
