-- The tests of rows, and of a net.
use Rattle.std.specs.Prelude.{ℕ, ◌+◌, ◌*◌, ◌==◌, Bool, true, ◌&&◌, cond, ltb, nat_le, List, [], ◌∷◌, length, map}
use Rattle.rowed.specs.declared.row_cell.RowCell.{RowCell}
use Rattle.rowed.specs.SeatTests.{each_seated}
use Rattle.mig.specs.Graphs.{GraphView}
use Rattle.rowed.specs.RowNets.{RowView}
use Rattle.placement_check.specs.Labels.{rows_fit}
use Rattle.placement_check.specs.Wider.{is_widened}
use Rattle.placement_check.specs.declared.marks.Mark.{Mark}
use Rattle.placement_check.specs.declared.marks.Place.{Place}
use Rattle.placement_check.specs.Code.Cells.{are_first, are_above, pins_of}
use Rattle.placement_check.specs.Code.Numbering.{are_distinct, is_numbering}

-- how many cells a row may have, and how many rows there may be
abbrev pub row_limit : ℕ
row_limit = 4294967295

-- the row is not empty, and has not too many cells
abbrev pub has_size : List RowCell → Bool
has_size cells = ltb 0 (length cells) && nat_le (length cells) row_limit

-- the row may be the first, and shows each input once
abbrev pub is_first_row : ℕ → List RowCell → Bool
is_first_row inputs cells =
    has_size cells && are_first cells && is_numbering inputs (map (λ (cell : RowCell). cell.input) cells)

-- the last row shows each output once
abbrev pub is_end : ℕ → Bool → List RowCell → Bool
is_end outputs last cells = cond last (is_numbering outputs (map (λ (cell : RowCell). cell.output) cells)) true

-- the row may stand over another, and no output feeds two of its pins
abbrev pub is_row_above : ℕ → Bool → List RowCell → List RowCell → Bool
is_row_above outputs last below cells =
    has_size cells && are_above below last cells && are_distinct (3 * length below) (pins_of cells)
    && is_end outputs last cells

-- the row may be row n of so many
abbrev pub is_row : ℕ → ℕ → ℕ → ℕ → List RowCell → List RowCell → Bool
is_row inputs outputs count n below cells =
    cond (n == 0) (is_first_row inputs cells) (is_row_above outputs (n + 1 == count) below cells)

-- so may be these rows, from row n on
abbrev pub are_rows : ℕ → ℕ → ℕ → ℕ → List RowCell → List (List RowCell) → Bool
are_rows inputs outputs count n below [] = true
are_rows inputs outputs count n below (row ∷ rows) =
    is_row inputs outputs count n below row && are_rows inputs outputs count (n + 1) row rows

-- the rows are those of a net
abbrev pub is_net : ℕ → ℕ → List (List RowCell) → Bool
is_net inputs outputs rows =
    ltb 1 (length rows) && nat_le (length rows) row_limit && are_rows inputs outputs (length rows) 0 [] rows

-- the rows pass all tests
abbrev pub is_sound : GraphView → List (List RowCell) → List (List ℕ) → List (List ℕ) → Bool
is_sound g rows labels slots =
    rows_fit g rows labels && each_seated rows slots && is_net g.inputs (length g.outputs) rows

-- the rows pass all tests of a wider net
abbrev pub is_wide : RowView → List (List RowCell) → List (List ℕ) → List ℕ → List (List Place) → List (List Mark)
    → Bool
is_wide net rows slots became places marks =
    is_widened net.rows rows became places marks && each_seated rows slots && is_net net.inputs net.outputs rows
