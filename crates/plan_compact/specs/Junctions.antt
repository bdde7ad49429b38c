-- The Josephson junctions of cells, as in the minimalist design of Takeuchi and others (2015).
use Rattle.std.specs.Prelude.{ℕ, ◌+◌, List, [], ◌∷◌}
use Rattle.circuit.specs.declared.cell_kind.CellKind.{CellKind}
use Rattle.circuit.specs.declared.cell_kind.CellKind.TheVariants.{Majority}
use Rattle.rowed.specs.declared.row_cell.RowCell.{RowCell}

-- two of a cell, and six of a majority, which is three cells
abbrev pub kind_junctions : CellKind → ℕ
kind_junctions Majority = 6
kind_junctions kind = 2

-- those of the cells of a row
abbrev pub row_junctions : List RowCell → ℕ
row_junctions [] = 0
row_junctions (cell ∷ cells) = kind_junctions cell.kind + row_junctions cells

-- those of the cells of all rows
abbrev pub junctions_in : List (List RowCell) → ℕ
junctions_in [] = 0
junctions_in (row ∷ rows) = row_junctions row + junctions_in rows
