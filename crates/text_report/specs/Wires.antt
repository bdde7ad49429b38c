-- The wires of a chip: input pins that other cells feed, the rows that they leave, and their lengths.
use Rattle.std.specs.Prelude.{ℕ, zero, suc, ◌+◌, ◌==◌, ◌&&◌, Bool, List, length, map, filter, fold, max, zip}
use Rattle.std.specs.List.{list_any}
use Rattle.geom.specs.declared.shapes.Shape.{Shape}
use Rattle.geom.specs.declared.shapes.Flat.{Flat}
use Rattle.layout_rules.specs.declared.layers.TheConstants.{OUTPUT_PIN}
use Rattle.layout_rules.specs.LengthRule.{net_length}
use Rattle.layout_rules.specs.Pins.{stands_in}
use Rattle.circuit_extracted.specs.Circuits.{CircuitView}
use Rattle.shape_extract.specs.Extraction.{is_wired}

-- the shapes, each with its net
abbrev pub shapes_in_nets : Flat → CircuitView → List (Shape × ℕ)
shapes_in_nets flat circuit = zip flat.shapes circuit.nets

-- the wires: the input pins without label, each with its net
abbrev pub wires : Flat → CircuitView → List (Shape × ℕ)
wires flat circuit = filter (λ wire. is_wired flat wire.0) (shapes_in_nets flat circuit)

-- the shape is an output pin of the net, and its cell stands in the row
abbrev pub feeds : Flat → ℕ → ℕ → Shape × ℕ → Bool
feeds flat row net source = source.0.layer == OUTPUT_PIN && source.1 == net && stands_in flat.shapes row source.0

-- the wire leaves the row: its source stands there
abbrev pub leaves : Flat → CircuitView → ℕ → Shape × ℕ → Bool
leaves flat circuit row wire = list_any (feeds flat row wire.1) (shapes_in_nets flat circuit)

-- the wires that leave the row
abbrev pub wires_from : Flat → CircuitView → ℕ → List (Shape × ℕ)
wires_from flat circuit row = filter (leaves flat circuit row) (wires flat circuit)

-- how many wires leave the first n rows, counted row by row
abbrev pub wires_of_rows : Flat → CircuitView → ℕ → ℕ
wires_of_rows flat circuit zero = 0
wires_of_rows flat circuit (suc row) = wires_of_rows flat circuit row + length (wires_from flat circuit row)

-- the length of a wire, in nanometres: that of its net's metal, as the rule of lengths has it
abbrev pub wire_length : Flat → CircuitView → Shape × ℕ → ℕ
wire_length flat circuit wire = net_length flat.shapes circuit.nets wire.1

-- the greatest of these numbers, and 0 of none
abbrev pub greatest : List ℕ → ℕ
greatest numbers = fold max 0 numbers

-- the length of the longest of these wires
abbrev pub longest_of : Flat → CircuitView → List (Shape × ℕ) → ℕ
longest_of flat circuit some = greatest (map (wire_length flat circuit) some)
