-- The labels of a drawing as the code makes them.
use Rattle.std.specs.Prelude.{ℕ, ◌+◌, ◌*◌, List, ◌∷◌, map, pos, Option}
use Rattle.std.specs.Fmt.{decimal}
use Rattle.geom.specs.declared.shapes.Label.{Label}
use Rattle.geom.specs.declared.layout.Element.{Element}
use Rattle.geom.specs.declared.layout.Element.TheVariants.{Text}
use Rattle.layout_rules.specs.declared.layers.TheConstants.{LABELS}
use Rattle.layout_rules.specs.Labels.{letter_i, letter_o}
use Rattle.rowed.specs.declared.row_cell.RowCell.{RowCell}
use Rattle.sorting.specs.Numbers.{numbers}
use Rattle.cell_library.specs.Library.{LibraryView}
use Rattle.layout_make.specs.declared.marks.Ports.{Ports}
use Rattle.layout_make.specs.declared.marks.Ports.TheVariants.{Inputs, Outputs}
use Rattle.layout_make.specs.Sheet.{centre}
use Rattle.layout_make.specs.Spots.{Spot, has_port}
use Rattle.layout_make.specs.Draw.{slot_where}

-- the number of the output, or of the input, that a cell shows
abbrev pub port_of : Ports → RowCell → Option ℕ
port_of Outputs c = c.output
port_of Inputs c = c.input

-- the slot of the first cell that shows a port
abbrev pub port_slot : Ports → List Spot → ℕ → ℕ
port_slot ports xs n = slot_where (λ c. has_port (port_of ports c) n) xs

-- the slots of the ports below a count
abbrev pub port_slots : Ports → List Spot → ℕ → List ℕ
port_slots ports xs count = map (port_slot ports xs) (numbers 0 count)

-- the letter of a label
abbrev pub letter_of : Ports → ℕ
letter_of Outputs = letter_o
letter_of Inputs = letter_i

-- a label with its centre
abbrev pub label_at : Ports → ℕ → ℕ → ℕ → Label
label_at ports n x y = record { layer = LABELS; x = pos x; y = pos y; text = letter_of ports ∷ decimal n }

-- the label of a port, in this column of its slot and at this height
abbrev pub port_text : LibraryView → Ports → List Spot → ℕ → ℕ → ℕ → Element
port_text l ports xs column y n =
    Text (label_at ports n (centre l (port_slot ports xs n * l.columns + column)) y)

-- the labels of the ports below a count
abbrev pub port_texts : LibraryView → Ports → List Spot → ℕ → ℕ → ℕ → List Element
port_texts l ports xs column y count = map (port_text l ports xs column y) (numbers 0 count)
