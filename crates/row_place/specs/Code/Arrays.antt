-- The plan by arrays: a placed row is told by the new numbers of its cells, listed by their old ones, and by its slots.
use Rattle.std.specs.Prelude.{ℕ, ◌+◌, ◌-◌, ◌/◌, List, [], length, slice_index_or, Option, Some, None, map, cond}
use Rattle.std.specs.Prelude.{◌&&◌, slice_set}
use Rattle.std.specs.Option.{option_or}
use Rattle.rowed.specs.declared.source.Source.{Source}
use Rattle.rowed.specs.declared.row_cell.RowCell.{RowCell}
use Rattle.rowed.specs.PlacedNets.{PlacedRow}
use Rattle.rowed.specs.Channels.{source_slot}
use Rattle.sorting.specs.Sorting.{by_key}
use Rattle.row_place.specs.Keys.{Partners, signal_at, key}
use Rattle.sorting.specs.Numbers.{numbers, place_in}

-- a source, a pin and a cell by new numbers
abbrev pub moved : List ℕ → Source → Source
moved places s = record s { cell = place_in places s.cell }

abbrev pub moved_pin : List ℕ → Option Source → Option Source
moved_pin places None = None
moved_pin places (Some s) = Some (moved places s)

abbrev pub moved_cell : List ℕ → RowCell → RowCell
moved_cell places cell = record cell {
  source0 = moved_pin places cell.source0;
  source1 = moved_pin places cell.source1;
  source2 = moved_pin places cell.source2;
}

-- the slot of a source
abbrev pub slot_in : List ℕ → List ℕ → Source → ℕ
slot_in places slots s = source_slot slots (moved places s)

-- the mean of two keys, by the keys of all cells of the row
abbrev pub mean_in : List ℕ → ℕ → ℕ → ℕ
mean_in keys one other = (slice_index_or keys one 0 + slice_index_or keys other 0) / 2

abbrev pub mean_of : List ℕ → Option Partners → Option ℕ
mean_of keys None = None
mean_of keys (Some p) = Some (mean_in keys p.one p.other)

-- the mean of the keys of two cells, if they are signals
abbrev pub mean_of_signals : List RowCell → List ℕ → ℕ → ℕ → Option ℕ
mean_of_signals row keys one other =
    cond (signal_at row one && signal_at row other) (Some (mean_in keys one other)) None

-- a key put at a cell that has none
abbrev pub told_at : List (Option ℕ) → ℕ → Option ℕ → List (Option ℕ)
told_at found cell key = slice_set found cell (option_or (slice_index_or found cell None) key)

-- the order of a row
abbrev pub order_in : List ℕ → List ℕ → List RowCell → List RowCell → List ℕ
order_in places slots row next = by_key (key (slot_in places slots) row next) (numbers 0 (length row))

-- the cells of placed rows
abbrev pub row_cells : List PlacedRow → List (List RowCell)
row_cells rows = map (λ (row : PlacedRow). row.cells) rows

-- their slots
abbrev pub row_slots : List PlacedRow → List (List ℕ)
row_slots rows = map (λ (row : PlacedRow). row.slots) rows

-- the last of some lists; the empty list, where there is none
abbrev pub last_row : List (List ℕ) → List ℕ
last_row rows = slice_index_or rows (length rows - 1) []
