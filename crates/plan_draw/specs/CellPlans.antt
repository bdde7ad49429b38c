-- The plan of a netlist of cells with a library: its rows as they stand, packed from slot 0, with rows of repeaters.
use Rattle.std.specs.Prelude.{◌≡◌, ℕ, ◌≤◌, List, length, None}
use Rattle.blif_read.specs.Parts.{NetView}
use Rattle.rowed.specs.RowNets.{RowView}
use Rattle.rowed.specs.PlacedNets.{PlacedView, placed_rows}
use Rattle.rowed.specs.Extent.{widest_packed}
use Rattle.rowed.specs.Limits.{KeepsWidth, height_limit, element_limit}
use Rattle.cell_rows.specs.Laws.{AreRowsOf}
use Rattle.plan_draw.specs.Packs.{pack}
use Rattle.repeater_rows.specs.Repeaters.{repeated}
use Rattle.repeater_rows.specs.Passes.{cells_past}
use Rattle.cell_library.specs.Library.{LibraryView}
use Rattle.cell_library.specs.Reach.{reach_of, slot_width_of}
use Rattle.layout_make.specs.Size.{element_number}
use Rattle.plan_build.specs.Plans.{three_of, rows_height}

-- these are the rows of a netlist of cells, by the levels of its cells
pub record AreCellRows (l : LibraryView) (net : NetView) (rows : RowView) : Type 0 where
  pub levels : List ℕ
  pub last : ℕ
  pub rows_are : AreRowsOf net (three_of l) levels last rows

-- the chip of such rows: packed, with the rows of repeaters that the library's reach calls for
abbrev pub chip_of_rows : LibraryView → RowView → PlacedView
chip_of_rows l rows = repeated (pack rows) (reach_of l)

-- it keeps all limits
pub record KeepsSize (l : LibraryView) (rows : RowView) : Type 0 where
  pub narrow : KeepsWidth (widest_packed rows.rows) (slot_width_of l)
  pub few_cells : cells_past 0 (placed_rows (chip_of_rows l rows)) ≡ None
  pub low : rows_height l (length (chip_of_rows l rows).net.rows) ≤ height_limit
  pub few_elements : element_number (chip_of_rows l rows) ≤ element_limit

-- this is the chip of a netlist of cells, which keeps all limits
pub record IsCellChip (l : LibraryView) (net : NetView) (chip : PlacedView) : Type 0 where
  pub rows : RowView
  pub of_net : AreCellRows l net rows
  pub is_chip : chip ≡ chip_of_rows l rows
  pub within : KeepsSize l rows
