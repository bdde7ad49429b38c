-- The numbers of a report, and the text that they make.
use Rattle.std.specs.Prelude.{◌≡◌, ℕ, zero, suc, max, List, [], ◌++◌, slice_index}
use Rattle.geom.specs.declared.shapes.Flat.{Flat}
use Rattle.circuit_extracted.specs.Circuits.{CircuitView}
use Rattle.pulse_sim.specs.Travelling.{even_of, odd_of}
use Rattle.text_report.specs.declared.figures.Figures.{Figures}
use Rattle.text_report.specs.declared.tables.RowTable.{RowTable}
use Rattle.text_report.specs.Kinds.{kinds_of, junction_count}
use Rattle.text_report.specs.Outline.{chip_width, chip_height}
use Rattle.text_report.specs.Wires.{wires, longest_of}
use Rattle.text_report.specs.ReportText.{kinds_line, junctions_line, size_line, longest_line, skew_line, row_text}
use Rattle.text_report.specs.Code.Tables.{IsRowTable}

-- the numbers are those of the layout and its circuit
pub record AreFigures (flat : Flat) (circuit : CircuitView) (near far : ℕ → ℕ) (figures : Figures) : Type 0 where
  pub kinds_are : figures.kinds ≡ kinds_of circuit.cells
  pub junctions_are : figures.junctions ≡ junction_count circuit.cells
  pub width_is : figures.width ≡ chip_width flat.shapes
  pub height_is : figures.height ≡ chip_height flat.shapes
  pub longest_is : figures.longest ≡ longest_of flat circuit (wires flat circuit)
  pub even_is : figures.even ≡ even_of circuit near far
  pub odd_is : figures.odd ≡ odd_of circuit near far
  pub rows_are : IsRowTable flat circuit near far figures.rows

-- the lines before those of the rows
unfoldable pub head_of : Figures → ℕ → List ℕ
head_of figures limit =
    kinds_line figures.kinds
    ++ junctions_line figures.junctions
    ++ size_line figures.width figures.height
    ++ longest_line figures.longest limit
    ++ skew_line (max figures.even figures.odd) figures.even figures.odd

-- the line of a row
abbrev pub row_of_table : RowTable → ℕ → List ℕ
row_of_table table row = row_text row (slice_index table.cells.items row) (slice_index table.wires.items row)
    (slice_index table.longest.items row) (slice_index table.skews.items row)

-- the lines of the first rows
abbrev pub rows_of_table : RowTable → ℕ → List ℕ
rows_of_table table zero = []
rows_of_table table (suc row) = rows_of_table table row ++ row_of_table table row

-- all lines but the counts line
abbrev pub text_of : Figures → ℕ → ℕ → List ℕ
text_of figures limit rows = head_of figures limit ++ rows_of_table figures.rows rows
