-- The plan of a chip: what the passes make of a netlist with a library, one after the other.
use Rattle.std.specs.Prelude.{◌≡◌, ℕ, ◌+◌, ◌*◌, ◌≤◌, Bool, length, None, is_some}
use Rattle.circuit.specs.declared.cell_kind.CellKind.TheVariants.{Split3}
use Rattle.blif_read.specs.Parts.{NetView}
use Rattle.rowed.specs.RowNets.{RowView}
use Rattle.rowed.specs.PlacedNets.{PlacedView, placed_rows}
use Rattle.maj_mapping.specs.Plan.{map_net}
use Rattle.level_balance.specs.Plan.{level_net}
use Rattle.level_balance.specs.Counts.{cell_count}
use Rattle.row_place.specs.Places.{place}
use Rattle.rowed.specs.Extent.{widest_packed}
use Rattle.rowed.specs.Limits.{cell_limit, KeepsWidth, height_limit}
use Rattle.repeater_rows.specs.Repeaters.{repeated}
use Rattle.repeater_rows.specs.Passes.{cells_past, height_of}
use Rattle.cell_library.specs.Library.{LibraryView, pins_of}
use Rattle.cell_library.specs.Reach.{reach_of, slot_width_of}
use Rattle.circuit.specs.declared.pass.Then.{Then}
use Rattle.maj_mapping.specs.declared.pass.MapPass.{MapPass}
use Rattle.level_balance.specs.declared.pass.LevelPass.{LevelPass}
use Rattle.row_place.specs.declared.pass.PlacePass.{PlacePass}
use Rattle.repeater_rows.specs.declared.pass.RepeatPass.{RepeatPass}

-- whether the library has splitters of three
abbrev pub three_of : LibraryView → Bool
three_of l = is_some (pins_of l Split3)

-- the height of a channel with wires on all its tracks
abbrev pub channel_of : LibraryView → ℕ
channel_of l = (l.capacity + 1) * l.pitch

-- the rows of a netlist, their places, and the chip with its repeaters
abbrev pub rows_of : LibraryView → NetView → RowView
rows_of l net = level_net (map_net net) (three_of l)

-- the netlist's rows with a slot for each cell, before repeaters
abbrev pub places_of : LibraryView → NetView → PlacedView
places_of l net = place (rows_of l net)

-- the chip: the placed rows, with the rows of repeaters that the library's reach calls for
abbrev pub chip_of : LibraryView → NetView → PlacedView
chip_of l net = repeated (places_of l net) (reach_of l)

-- the four passes
abbrev pub ChipPlan : Type 0
ChipPlan = Then (Then (Then MapPass LevelPass) PlacePass) RepeatPass

-- the passes have the library's numbers
pub record IsMadeFor (l : LibraryView) (plan : ChipPlan) : Type 0 where
  pub three : plan.first.first.second.three ≡ three_of l
  pub width : plan.first.second.slot_width ≡ slot_width_of l
  pub reach : plan.second.reach ≡ reach_of l
  pub height : plan.second.height ≡ l.height
  pub channel : plan.second.channel ≡ channel_of l

-- how many cells the rows have before they get repeaters
abbrev pub cells_before : LibraryView → NetView → ℕ
cells_before l net = cell_count (map_net net) (three_of l)

-- the span of the widest row before they get repeaters, in slots
abbrev pub span_before : LibraryView → NetView → ℕ
span_before l net = widest_packed (rows_of l net).rows

-- the greatest height in nanometres of so many rows and the channels between them, all tracks in use
abbrev pub rows_height : LibraryView → ℕ → ℕ
rows_height l rows = height_of l.height (channel_of l) rows

-- the chip keeps all limits
pub record IsWithin (l : LibraryView) (net : NetView) : Type 0 where
  pub few_before : cells_before l net ≤ cell_limit
  pub narrow : KeepsWidth (span_before l net) (slot_width_of l)
  pub few_cells : cells_past 0 (placed_rows (chip_of l net)) ≡ None
  pub low : rows_height l (length (chip_of l net).net.rows) ≤ height_limit
