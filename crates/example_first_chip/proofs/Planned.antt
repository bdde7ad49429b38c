-- The passes over the first chip's netlist, computed.
use Rattle.std.proofs.Common.{◌≡◌, ◌*◌, refl, true, length}
use Rattle.std.proofs.lemmas.Bool.{leb-true}
use Rattle.rowed.specs.Limits.{cell_limit, height_limit}
use Rattle.maj_mapping.specs.Plan.{start, leave_by, visit, mapped, map_net}
use Rattle.level_balance.specs.Counts.{cell_count}
use Rattle.level_balance.specs.Plan.{frame, laid, level_net}
use Rattle.row_place.specs.Places.{place}
use Rattle.repeater_rows.specs.Repeaters.{repeated}
use Rattle.cell_library.specs.LibraryA.{library_a_view}
use Rattle.cell_library.specs.Reach.{slot_width_of}
use Rattle.plan_build.specs.Plans.{chip_of, cells_before, span_before, rows_height, IsWithin}
use Rattle.layout_make.specs.Chips.{first_placed}
use Rattle.example_first_chip.specs.Wire.{wire, wire_gates, wire_rows}

pub gates_made : map_net wire ≡ wire_gates
unfolding start leave_by visit mapped map_net
gates_made = refl

pub rows_made : level_net wire_gates true ≡ wire_rows
unfolding frame laid level_net
rows_made = refl

pub places_made : place wire_rows ≡ first_placed
unfolding place
places_made = refl

pub repeaters_made : repeated first_placed 14 ≡ first_placed
unfolding repeated
repeaters_made = refl

pub chip_made : chip_of library_a_view wire ≡ first_placed
unfolding start leave_by visit mapped map_net frame laid level_net place repeated
chip_made = refl

pub kept_within : IsWithin library_a_view wire
unfolding start leave_by visit mapped map_net frame laid level_net cell_count place repeated
kept_within = record {
  few_before = leb-true (cells_before library_a_view wire) cell_limit refl;
  narrow = leb-true (span_before library_a_view wire * slot_width_of library_a_view) _ refl;
  few_cells = refl;
  low = leb-true (rows_height library_a_view (length (chip_of library_a_view wire).net.rows)) height_limit refl;
}
