-- Nets in rows whose cells were given slots by a search: each row in the order of these slots, its sources named by the
-- new numbers of the row before.
use Rattle.std.specs.Prelude.{◌≡◌, ℕ, ◌==◌, Bool, true, false, ◌&&◌, List, [], ◌∷◌, length, map, slice_index_or}
use Rattle.circuit.specs.SameAnswers.{SameAnswers}
use Rattle.rowed.specs.declared.row_cell.RowCell.{RowCell}
use Rattle.rowed.specs.RowNets.{RowView, IsAnswer}
use Rattle.rowed.specs.PlacedNets.{PlacedRow, PlacedView, IsPlaced, placed_of}
use Rattle.sorting.specs.Numbers.{numbers}
use Rattle.sorting.specs.Sorting.{by_key}
use Rattle.row_place.specs.Places.{renumbered_cell, picked}

-- there is a list of slots for each row, with one for each cell
abbrev pub one_each : List (List RowCell) → List (List ℕ) → Bool
one_each [] [] = true
one_each [] (slots ∷ more) = false
one_each (row ∷ rows) [] = false
one_each (row ∷ rows) (slots ∷ more) = (length row == length slots) && one_each rows more

-- the slot of the cell of this number
abbrev pub slot_at : List ℕ → ℕ → ℕ
slot_at slots c = slice_index_or slots c 0

-- the numbers of a row's cells by their slots
abbrev pub slot_order : List ℕ → List ℕ
slot_order slots = by_key (slot_at slots) (numbers 0 (length slots))

-- a row in the order of its slots, where the row before has this order
abbrev pub arranged_row : List ℕ → List RowCell → List ℕ → PlacedRow
arranged_row below row slots = record {
  cells = map (renumbered_cell below) (picked row (slot_order slots));
  slots = map (slot_at slots) (slot_order slots);
}

-- all rows, from the first one up
abbrev pub arranged_rows : List ℕ → List (List RowCell) → List (List ℕ) → List PlacedRow
arranged_rows below [] slots = []
arranged_rows below (row ∷ rows) [] = []
arranged_rows below (row ∷ rows) (slots ∷ more) =
    arranged_row below row slots ∷ arranged_rows (slot_order slots) rows more

-- the net with its cells at these slots
unfoldable pub arranged : RowView → List (List ℕ) → PlacedView
arranged net slots = placed_of net.inputs net.outputs (arranged_rows [] net.rows slots)

-- this is the net with its cells at these slots, one for each; it answers every word as the net does
pub record IsArranged (net : RowView) (slots : List (List ℕ)) (placed : PlacedView) : Type 0 where
  pub one_each_is : one_each net.rows slots ≡ true
  pub arranged_is : placed ≡ arranged net slots
  pub keeps : IsPlaced placed
  pub same : SameAnswers net.inputs placed.net.inputs net.outputs placed.net.outputs (IsAnswer net)
      (IsAnswer placed.net)
