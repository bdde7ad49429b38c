-- The report of a chip: its counts, its cells by kind, junctions, size, longest wire and skew, and its rows.
-- The excitation comes to cell c when it has run `near c` nanometres along its line, and has passed it after `far c`.
use Rattle.std.specs.Prelude.{ℕ, zero, suc, ◌%◌, List, [], ◌++◌, codes, length}
use Rattle.std.specs.Fmt.{decimal}
use Rattle.geom.specs.declared.shapes.Flat.{Flat}
use Rattle.circuit_extracted.specs.Circuits.{CircuitView}
use Rattle.pulse_sim.specs.Travelling.{skew_of, even_of, odd_of}
use Rattle.text_answers.specs.Counts.{counts_line}
use Rattle.text_report.specs.declared.kinds.Kinds.{Kinds}
use Rattle.text_report.specs.Kinds.{kinds_of, junction_count, cells_in}
use Rattle.text_report.specs.Outline.{chip_width, chip_height}
use Rattle.text_report.specs.Skews.{row_skew}
use Rattle.text_report.specs.Wires.{wires, wires_from, longest_of}

-- buffers, inverters and constants
unfoldable pub small_cells : Kinds → List ℕ
small_cells kinds =
    codes "buffers " ++ decimal kinds.buffers
    ++ codes " inverters " ++ decimal kinds.inverters
    ++ codes " zeros " ++ decimal kinds.zeros
    ++ codes " ones " ++ decimal kinds.ones

-- splitters of two, before the number of those of three
unfoldable pub splitters_head : ℕ → List ℕ
splitters_head of_two = codes " splitters " ++ decimal of_two ++ codes " "

unfoldable pub majorities_end : Kinds → List ℕ
majorities_end kinds = codes " majorities " ++ decimal kinds.majorities ++ codes "\n"

-- how many cells there are of each kind
unfoldable pub kinds_line : Kinds → List ℕ
kinds_line kinds =
    small_cells kinds ++ splitters_head kinds.splitters_of_two ++ decimal kinds.splitters_of_three
    ++ majorities_end kinds

unfoldable pub junctions_line : ℕ → List ℕ
junctions_line junctions = codes "junctions " ++ decimal junctions ++ codes "\n"

-- the width and the height of the chip, in nanometres
unfoldable pub size_line : ℕ → ℕ → List ℕ
size_line width height = codes "width " ++ decimal width ++ codes " height " ++ decimal height ++ codes "\n"

-- the length of the longest wire, and the greatest that is allowed, in nanometres
unfoldable pub longest_line : ℕ → ℕ → List ℕ
longest_line longest limit = codes "longest " ++ decimal longest ++ codes " of " ++ decimal limit ++ codes "\n"

-- the skew, and how far the even rows and the odd ones are ahead, in nanometres
unfoldable pub skew_line : ℕ → ℕ → ℕ → List ℕ
skew_line skew even odd =
    codes "skew " ++ decimal skew ++ codes " even " ++ decimal even ++ codes " odd " ++ decimal odd ++ codes "\n"

-- the row and its phase
unfoldable pub row_head : ℕ → List ℕ
row_head row = codes "row " ++ decimal row ++ codes " phase " ++ decimal (row % 4)

-- how many cells stand in the row, how many wires leave it, and the length of the longest of these
unfoldable pub row_counts : ℕ → ℕ → ℕ → List ℕ
row_counts cells wires longest =
    codes " cells " ++ decimal cells ++ codes " wires " ++ decimal wires ++ codes " longest " ++ decimal longest

-- the greatest skew of these wires
unfoldable pub row_end : ℕ → List ℕ
row_end skew = codes " skew " ++ decimal skew ++ codes "\n"

unfoldable pub row_text : ℕ → ℕ → ℕ → ℕ → ℕ → List ℕ
row_text row cells wires longest skew = row_head row ++ row_counts cells wires longest ++ row_end skew

abbrev pub row_line : Flat → CircuitView → (ℕ → ℕ) → (ℕ → ℕ) → ℕ → List ℕ
row_line flat circuit near far row = row_text row (cells_in row circuit.cells) (length (wires_from flat circuit row))
    (longest_of flat circuit (wires_from flat circuit row)) (row_skew circuit near far row)

-- the lines of the first n rows
abbrev pub row_lines : Flat → CircuitView → (ℕ → ℕ) → (ℕ → ℕ) → ℕ → List ℕ
row_lines flat circuit near far zero = []
row_lines flat circuit near far (suc row) =
    row_lines flat circuit near far row ++ row_line flat circuit near far row

-- what stands between the counts line and the rows, where wires may have this length
unfoldable pub head_text : Flat → CircuitView → (ℕ → ℕ) → (ℕ → ℕ) → ℕ → List ℕ
head_text flat circuit near far limit =
    kinds_line (kinds_of circuit.cells)
    ++ junctions_line (junction_count circuit.cells)
    ++ size_line (chip_width flat.shapes) (chip_height flat.shapes)
    ++ longest_line (longest_of flat circuit (wires flat circuit)) limit
    ++ skew_line (skew_of circuit near far) (even_of circuit near far) (odd_of circuit near far)

-- what follows the counts line
abbrev pub figures_text : Flat → CircuitView → (ℕ → ℕ) → (ℕ → ℕ) → ℕ → List ℕ
figures_text flat circuit near far limit =
    head_text flat circuit near far limit ++ row_lines flat circuit near far circuit.rows

-- the report of a chip, where wires may have this length
unfoldable pub report_text : Flat → CircuitView → (ℕ → ℕ) → (ℕ → ℕ) → ℕ → List ℕ
report_text flat circuit near far limit = counts_line circuit ++ figures_text flat circuit near far limit
