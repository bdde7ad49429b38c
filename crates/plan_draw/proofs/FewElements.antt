-- The chip of a netlist of cells with few cells and rows: the number of its elements fits in 63 bits.
use Rattle.std.proofs.Common.{◌*◌, ◌<◌, ◌≤◌, ◌^◌, length, None, arith}
use Rattle.std.proofs.Common.{◌≡◌, mul-le-mul, le_refl, sym, ap, subst, ◌∙◌}
use Rattle.blif_read.specs.Parts.{NetView}
use Rattle.blif_read.specs.Netlist.{IsNetlist}
use Rattle.rowed.specs.PlacedNets.{PlacedView, placed_rows}
use Rattle.rowed.specs.Counts.{cells_in}
use Rattle.repeater_rows.specs.Passes.{cells_past}
use Rattle.cell_library.specs.Library.{LibraryView}
use Rattle.cell_library.specs.Laws.{IsLibrary}
use Rattle.layout_make.specs.Size.{element_number}
use Rattle.layout_make.proofs.SizeBounds.{wires_most, lag_few}
use Rattle.plan_build.specs.Laws.{AnswersAs}
use Rattle.plan_draw.specs.CellPlans.{chip_of_rows}
use Rattle.plan_draw.specs.Code.Steps.{IsShortCells}
use Rattle.plan_draw.proofs.Chips.{chip_answers}

pub few_elements : (l : LibraryView) (net : NetView) (chip : PlacedView) → IsLibrary l → IsNetlist net
    → IsShortCells l net chip → element_number chip < 2 ^ 63
few_elements l net chip known keeps short =
    let few : cells_past 0 (placed_rows (chip_of_rows l short.rows)) ≡ None =
    ap (λ (p : PlacedView). cells_past 0 (placed_rows p)) (sym short.is_chip) ∙ short.few_cells in
    let answers : AnswersAs net chip =
    subst (AnswersAs net) (sym short.is_chip) (chip_answers l net short.rows known short.of_net short.narrow few) in
    let wires = wires_most chip.net.rows in
    let cells = short.few in
    let rows : length chip.net.rows * 1 ≤ length chip.net.rows * l.height =
    mul-le-mul (le_refl (length chip.net.rows)) known.draft.ranges.height_some in
    let low = short.low in
    let inputs = answers.same_inputs in
    let outputs = answers.same_outputs in
    omega (arith, wires, cells, rows, low, inputs, outputs, keeps.count, keeps.small, lag_few chip.lag)
