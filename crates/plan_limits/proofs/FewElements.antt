-- A chip with few cells has few elements.
use Rattle.std.proofs.Common.{◌*◌, ◌<◌, ◌≤◌, ◌^◌, length, arith}
use Rattle.std.proofs.Common.{mul-le-mul, le_refl}
use Rattle.blif_read.specs.Parts.{NetView}
use Rattle.blif_read.specs.Netlist.{IsNetlist}
use Rattle.rowed.specs.PlacedNets.{PlacedView, placed_rows}
use Rattle.rowed.specs.Counts.{cells_in}
use Rattle.rowed.specs.Extent.{widest}
use Rattle.rowed.specs.Limits.{KeepsWidth, element_limit}
use Rattle.cell_library.specs.Library.{LibraryView}
use Rattle.cell_library.specs.Laws.{IsLibrary}
use Rattle.cell_library.specs.Reach.{slot_width_of}
use Rattle.layout_make.specs.MayDraw.{GivesKinds}
use Rattle.layout_make.specs.Size.{element_number}
use Rattle.layout_make.proofs.SizeBounds.{wires_most, lag_few}
use Rattle.plan_limits.specs.Code.Limits.{IsShortened, KeepsLimits}

pub few_elements : (l : LibraryView) (net : NetView) (placed chip : PlacedView) → IsLibrary l → IsNetlist net
    → IsShortened l net placed chip → element_number chip < 2 ^ 63
few_elements l net placed chip known keeps short =
    let wires = wires_most chip.net.rows in
    let cells = short.few_cells in
    let some : 1 ≤ l.height = known.draft.ranges.height_some in
    let rows : length chip.net.rows * 1 ≤ length chip.net.rows * l.height =
    mul-le-mul (le_refl (length chip.net.rows)) some in
    let low = short.low in
    let inputs = short.answers.same_inputs in
    let outputs = short.answers.same_outputs in
    omega (arith, wires, cells, rows, low, inputs, outputs, keeps.count, keeps.small, lag_few chip.lag)

pub keeps_limits : (l : LibraryView) (chip : PlacedView) → GivesKinds l chip.net.rows
    → KeepsWidth (widest (placed_rows chip)) (slot_width_of l) → element_number chip ≤ element_limit
    → KeepsLimits l chip
keeps_limits l chip given narrow few = record { given = given; narrow = narrow; few = few }

pub ruleset drawable = (few_elements, keeps_limits)
