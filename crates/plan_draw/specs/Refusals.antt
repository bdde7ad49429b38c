-- Which netlists have no chip of their own cells with a library, each limit before those that are tested after it.
use Rattle.std.specs.Prelude.{◌≡◌, ◌<◌, ◌≤◌, length, Some, None}
use Rattle.blif_read.specs.Parts.{NetView}
use Rattle.rowed.specs.RowNets.{RowView}
use Rattle.rowed.specs.PlacedNets.{placed_rows}
use Rattle.rowed.specs.Extent.{widest_packed}
use Rattle.rowed.specs.Limits.{KeepsWidth, PassesWidth, height_limit, element_limit}
use Rattle.row_place.specs.declared.pass.PlaceRefusal.{PlaceRefusal}
use Rattle.row_place.specs.declared.pass.PlaceRefusal.TheVariants as places
use Rattle.repeater_rows.specs.Passes.{cells_past}
use Rattle.repeater_rows.specs.declared.pass.RepeatRefusal.{RepeatRefusal}
use Rattle.repeater_rows.specs.declared.pass.RepeatRefusal.TheVariants as repeats
use Rattle.cell_netlist.specs.Told.{HasFirstFault}
use Rattle.cell_netlist.specs.declared.fault.CellsRefusal.{CellsRefusal}
use Rattle.cell_netlist.specs.declared.fault.CellsRefusal.TheVariants as cells
use Rattle.cell_library.specs.Library.{LibraryView}
use Rattle.cell_library.specs.Reach.{slot_width_of}
use Rattle.layout_make.specs.Size.{element_number}
use Rattle.plan_build.specs.Plans.{three_of, rows_height}
use Rattle.plan_draw.specs.CellPlans.{AreCellRows, chip_of_rows}
use Rattle.plan_draw.specs.declared.refusal.CellPlanRefusal.{CellPlanRefusal}
use Rattle.plan_draw.specs.declared.refusal.CellPlanRefusal.TheVariants.{NotCells, Slots, Cells, Rows, Elements, Memory}

-- the refusal of a netlist that is none of cells: its first fault, or want of memory
abbrev pub of_cells : CellsRefusal → CellPlanRefusal
of_cells (cells.NotCells line kind) = NotCells line kind
of_cells cells.Memory = Memory

-- the refusal of packed rows: the span of the widest row in slots, or want of memory
abbrev pub of_places : PlaceRefusal → CellPlanRefusal
of_places (places.TooWide span) = Slots span
of_places places.Memory = Memory

-- the refusal of repeaters: too many cells with them, too many rows for the height limit, or want of memory
abbrev pub of_repeats : RepeatRefusal → CellPlanRefusal
of_repeats (repeats.TooManyCells count) = Cells count
of_repeats (repeats.TooTall count) = Rows count
of_repeats repeats.Memory = Memory

-- the chip of these rows passes a limit, and no limit that is tested before, and the refusal has its number
abbrev pub PassesSize : LibraryView → RowView → CellPlanRefusal → Type 0
PassesSize l rows (Slots span) =
    PassesWidth (widest_packed rows.rows) (slot_width_of l) × (span ≡ widest_packed rows.rows)
PassesSize l rows (Cells count) =
    KeepsWidth (widest_packed rows.rows) (slot_width_of l)
    × (cells_past 0 (placed_rows (chip_of_rows l rows)) ≡ Some count)
PassesSize l rows (Rows count) =
    KeepsWidth (widest_packed rows.rows) (slot_width_of l)
    × (cells_past 0 (placed_rows (chip_of_rows l rows)) ≡ None)
    × (height_limit < rows_height l count) × (count ≡ length (chip_of_rows l rows).net.rows)
PassesSize l rows (Elements count) =
    KeepsWidth (widest_packed rows.rows) (slot_width_of l)
    × (cells_past 0 (placed_rows (chip_of_rows l rows)) ≡ None)
    × (rows_height l (length (chip_of_rows l rows).net.rows) ≤ height_limit)
    × (element_limit < count) × (count ≡ element_number (chip_of_rows l rows))
PassesSize l rows (NotCells line kind) = ⊥
PassesSize l rows Memory = ⊥

-- the netlist is one of cells, and the chip of its rows passes a limit
pub record IsTooMuch (l : LibraryView) (net : NetView) (refusal : CellPlanRefusal) : Type 0 where
  pub rows : RowView
  pub of_net : AreCellRows l net rows
  pub passes : PassesSize l rows refusal

-- what is refused: a netlist that is none of cells, with its first fault, or one whose chip passes a limit
abbrev pub RefusesCells : LibraryView → NetView → CellPlanRefusal → Type 0
RefusesCells l net (NotCells line kind) = HasFirstFault net (three_of l) line kind
RefusesCells l net (Slots span) = IsTooMuch l net (Slots span)
RefusesCells l net (Cells count) = IsTooMuch l net (Cells count)
RefusesCells l net (Rows count) = IsTooMuch l net (Rows count)
RefusesCells l net (Elements count) = IsTooMuch l net (Elements count)
RefusesCells l net Memory = Unit {0}
