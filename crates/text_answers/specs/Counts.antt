-- The counts line: how many rows, cells and wires a chip's circuit has, and after how many phases a word leaves it.
use Rattle.std.specs.Prelude.{ℕ, ◌-◌, List, ◌++◌, codes, length}
use Rattle.std.specs.Fmt.{decimal}
use Rattle.circuit_extracted.specs.Circuits.{CircuitView}

-- phases from a word's entry to its answer: one for each row but the lowest
abbrev pub delay_of : CircuitView → ℕ
delay_of circuit = circuit.rows - 1

-- the line of so many rows, cells and wires
abbrev pub counts_text : ℕ → ℕ → ℕ → List ℕ
counts_text rows cells wires =
    codes "rows " ++ decimal rows
    ++ codes " cells " ++ decimal cells
    ++ codes " wires " ++ decimal wires
    ++ codes " delay " ++ decimal (rows - 1) ++ codes "\n"

-- the counts line of a circuit: its rows, its cells, its wires, and its delay in phases
unfoldable pub counts_line : CircuitView → List ℕ
counts_line circuit = counts_text circuit.rows (length circuit.cells) circuit.wires
