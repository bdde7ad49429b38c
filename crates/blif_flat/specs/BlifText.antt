-- The netlist that a circuit is written as, in the Berkeley Logic Interchange Format: line by line, and in a line token
-- by token.
use Rattle.std.specs.Prelude.{ℕ, ◌+◌, List, [], ◌∷◌, ◌++◌, codes, map, length}
use Rattle.std.specs.Fmt.{decimal}
use Rattle.std.specs.List.{flat_map, range_with_len}
use Rattle.circuit.specs.declared.cell_kind.CellKind.{CellKind}
use Rattle.circuit.specs.declared.cell_kind.CellKind.TheVariants.{Buffer, Inverter, Zero, One, Split2, Split3, Majority}
use Rattle.rowed.specs.declared.source.Source.{Source}
use Rattle.circuit_extracted.specs.declared.cells.Feed.{Feed}
use Rattle.circuit_extracted.specs.declared.cells.Feed.TheVariants.{Nothing, Pin, Label}
use Rattle.circuit_extracted.specs.declared.cells.ExCell.{ExCell}
use Rattle.circuit_extracted.specs.Circuits.{CircuitView}

-- the names of inputs, cells and outputs: a letter and a number
abbrev pub input_name : ℕ → List ℕ
input_name i = 73 ∷ decimal i

-- the signal of cell c: `n` and the number
abbrev pub cell_name : ℕ → List ℕ
cell_name c = 110 ∷ decimal c

-- output k of the circuit: `O` and the number
abbrev pub output_name : ℕ → List ℕ
output_name k = 79 ∷ decimal k

-- what an input of a cell takes: an input of the circuit, or the signal of a cell, whichever of its outputs it is
abbrev pub feed_names : Feed → List (List ℕ)
feed_names Nothing = []
feed_names (Pin cell output) = cell_name cell ∷ []
feed_names (Label n) = input_name n ∷ []

-- the signals that a cell's inputs take, in the order of the inputs
abbrev pub names_of_feeds : ExCell → List (List ℕ)
names_of_feeds cell = feed_names cell.feed0 ++ feed_names cell.feed1 ++ feed_names cell.feed2

-- a row of a cover: its plane, and that the signal is true there
abbrev pub row : List ℕ → List (List ℕ)
row plane = plane ∷ codes "1" ∷ []

-- the rows of a cell, by its kind
abbrev pub rows_of : CellKind → List (List (List ℕ))
rows_of Buffer = row (codes "1") ∷ []
rows_of Inverter = row (codes "0") ∷ []
rows_of Zero = []
rows_of One = (codes "1" ∷ []) ∷ []
rows_of Split2 = row (codes "1") ∷ []
rows_of Split3 = row (codes "1") ∷ []
rows_of Majority = row (codes "11-") ∷ row (codes "1-1") ∷ row (codes "-11") ∷ []

-- the line that defines a signal by others
abbrev pub names_line : List (List ℕ) → List ℕ → List (List ℕ)
names_line feeds name = codes ".names" ∷ feeds ++ name ∷ []

-- the lines of cell number c, and of output number k
abbrev pub cell_lines : ℕ → ExCell → List (List (List ℕ))
cell_lines c cell = names_line (names_of_feeds cell) (cell_name c) ∷ rows_of cell.kind

-- the lines of output k: it has the value of the cell that it comes from
abbrev pub output_lines : ℕ → Source → List (List (List ℕ))
output_lines k source = names_line (cell_name source.cell ∷ []) (output_name k) ∷ row (codes "1") ∷ []

-- the lines of cells of which the first has number c, and of outputs of which the first has number k
abbrev pub cells_from : ℕ → List ExCell → List (List (List ℕ))
cells_from c [] = []
cells_from c (cell ∷ cells) = cell_lines c cell ++ cells_from (c + 1) cells

-- the lines of outputs of which the first has number k
abbrev pub outputs_from : ℕ → List Source → List (List (List ℕ))
outputs_from k [] = []
outputs_from k (source ∷ sources) = output_lines k source ++ outputs_from (k + 1) sources

-- the lines that name the model, so many inputs and so many outputs
abbrev pub model_line : List (List ℕ)
model_line = codes ".model" ∷ codes "aqfp" ∷ []

-- the line that names so many inputs, numbered from 0
abbrev pub inputs_line : ℕ → List (List ℕ)
inputs_line count = codes ".inputs" ∷ map input_name (range_with_len 0 count)

-- the line that names so many outputs, numbered from 0
abbrev pub outputs_line : ℕ → List (List ℕ)
outputs_line count = codes ".outputs" ∷ map output_name (range_with_len 0 count)

-- the line that ends the model
abbrev pub end_line : List (List ℕ)
end_line = codes ".end" ∷ []

-- the lines before the cells, those of the cells and outputs with the last one, and all
abbrev pub head_lines : CircuitView → List (List (List ℕ))
head_lines circuit = model_line ∷ inputs_line circuit.inputs ∷ outputs_line (length circuit.outputs) ∷ []

-- the lines behind the head: of the cells, of the outputs, and the last one
abbrev pub body_lines : CircuitView → List (List (List ℕ))
body_lines circuit = cells_from 0 circuit.cells ++ outputs_from 0 circuit.outputs ++ end_line ∷ []

-- all lines of a circuit's netlist, in order
abbrev pub netlist_lines : CircuitView → List (List (List ℕ))
netlist_lines circuit = head_lines circuit ++ body_lines circuit

-- a line in bytes: a blank between two tokens, and a line feed behind the last
abbrev pub spaced : List (List ℕ) → List ℕ
spaced tokens = flat_map (λ token. 32 ∷ token) tokens

-- the bytes of a line, with its line feed
abbrev pub line_text : List (List ℕ) → List ℕ
line_text [] = 10 ∷ []
line_text (token ∷ tokens) = token ++ spaced tokens ++ 10 ∷ []

-- the netlist in bytes
unfoldable pub blif_text : CircuitView → List ℕ
blif_text circuit = flat_map line_text (netlist_lines circuit)
