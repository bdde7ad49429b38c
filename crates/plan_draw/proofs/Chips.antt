-- The chip of a netlist of cells that keeps the limits: it can be drawn, and answers every word as the netlist does.
use Rattle.std.proofs.Common.{◌≡◌, ℕ, ◌+◌, ◌≤◌, List, [], ◌∷◌, length, map, refl, sym, ap, subst, ◌∙◌, arith}
use Rattle.std.proofs.Common.{mul-le-mul, le_refl, None}
use Rattle.std.proofs.lemmas.List.{length-map}
use Rattle.circuit.specs.CellKinds.{slots_of}
use Rattle.circuit.specs.declared.cell_kind.CellKind.TheVariants.{Buffer}
use Rattle.blif_read.specs.Parts.{NetView}
use Rattle.blif_read.specs.Netlist.{IsNetlist}
use Rattle.rowed.specs.declared.row_cell.RowCell.{RowCell}
use Rattle.rowed.specs.RowNets.{RowView, IsRowNet}
use Rattle.rowed.specs.Slots.{span_of}
use Rattle.rowed.specs.PlacedNets.{PlacedRow, PlacedView, IsPlaced, paired, placed_rows}
use Rattle.rowed.specs.Short.{AreShort}
use Rattle.rowed.specs.Extent.{packed_span, widest, widest_packed}
use Rattle.rowed.specs.Limits.{KeepsWidth}
use Rattle.rowed.proofs.RowsAboveLaws.{placed_rows_of}
use Rattle.row_place.specs.Places.{packed}
use Rattle.plan_draw.specs.Packs.{pack}
use Rattle.plan_draw.proofs.Packed.{packed_given}
use Rattle.repeater_rows.specs.Repeaters.{repeated, repeated_rows}
use Rattle.repeater_rows.specs.Passes.{cells_past}
use Rattle.repeater_rows.specs.Inserted.{AreNarrow}
use Rattle.repeater_rows.proofs.KeptLaws.{repeaters_keep, no_lag}
use Rattle.repeater_rows.proofs.AnswerLaws.{repeaters_answer}
use Rattle.repeater_rows.proofs.InsertedLaws.{repeaters_add, repeaters_narrow}
use Rattle.repeater_rows.proofs.ShortLaws.{repeaters_short}
use Rattle.cell_netlist.specs.Uses.{with_gates}
use Rattle.cell_rows.proofs.Netted.{row_net}
use Rattle.cell_rows.proofs.Answered.{same_answers}
use Rattle.cell_library.specs.Library.{LibraryView, IsGiven}
use Rattle.cell_library.specs.Laws.{IsLibrary}
use Rattle.cell_library.specs.Reach.{reach_of, slot_width_of}
use Rattle.cell_library.proofs.PinCounts.{two_reach}
use Rattle.layout_make.specs.MayDraw.{MayDraw, GivesKinds}
use Rattle.plan_build.specs.Plans.{three_of}
use Rattle.plan_build.specs.Laws.{AnswersAs}
use Rattle.plan_build.proofs.SameThen.{same_then}
use Rattle.plan_build.proofs.CellSizes.{some_width}
use Rattle.plan_build.proofs.KeptKinds.{repeaters_keep_kinds}
use Rattle.plan_build.proofs.ChipLaws.{narrow_widest}
use Rattle.plan_draw.specs.CellPlans.{AreCellRows, chip_of_rows, KeepsSize, IsCellChip}
use Rattle.plan_draw.proofs.GivenKinds.{kinds_given}

-- packed rows span what their cells take
span_from : (b : ℕ) (cells : List RowCell) → span_of cells (packed b cells) ≤ b + packed_span cells
span_from b [] = omega arith
span_from b (cell ∷ cells) = omega (arith, span_from (b + slots_of cell.kind) cells)

narrow_packed : (width : ℕ) (rows : List (List RowCell)) → widest_packed rows ≤ width
    → AreNarrow width (paired rows (map (packed 0) rows))
narrow_packed width [] le = tt
narrow_packed width (row ∷ rows) le =
    ((omega (arith, span_from 0 row, le)), narrow_packed width rows (omega (arith, le)))

-- the chip has the rows that its limits speak of
pub same_placed : (l : LibraryView) (rows : RowView)
    → placed_rows (chip_of_rows l rows) ≡ repeated_rows (reach_of l) (placed_rows (pack rows))
unfolding repeated
same_placed l rows = placed_rows_of rows.inputs rows.outputs (repeated_rows (reach_of l) (placed_rows (pack rows)))

pub same_height : (l : LibraryView) (rows : RowView)
    → length (chip_of_rows l rows).net.rows ≡ length (repeated_rows (reach_of l) (placed_rows (pack rows)))
unfolding repeated
same_height l rows =
    length-map (repeated_rows (reach_of l) (placed_rows (pack rows))) (λ (row : PlacedRow). row.cells)

-- the rows of a netlist of cells
module _ (l : LibraryView) (net : NetView) (rows : RowView) (known : IsLibrary l)
    (of_net : AreCellRows l net rows) where
  pub rows_keep : IsRowNet rows
  rows_keep = subst IsRowNet (sym of_net.rows_are.rows_are) (row_net of_net.rows_are.cells)

  rows_kinds : GivesKinds l rows.rows
  rows_kinds =
      subst (λ (r : RowView). GivesKinds l r.rows) (sym of_net.rows_are.rows_are)
      (kinds_given l known (with_gates net of_net.rows_are.gates (three_of l)) of_net.levels of_net.last
      of_net.rows_are.cells refl)

  -- packed, and with repeaters
  module _ (narrow : KeepsWidth (widest_packed rows.rows) (slot_width_of l))
      (few : cells_past 0 (placed_rows (chip_of_rows l rows)) ≡ None) where
    places_keep : IsPlaced (pack rows)
    places_keep = (packed_given rows (slot_width_of l) rows_keep (some_width l known) narrow).placed_keeps

    least_reach : 2 ≤ reach_of l
    least_reach = two_reach l (reach_of l) known refl

    pub chip_keeps : IsPlaced (chip_of_rows l rows)
    chip_keeps =
        repeaters_keep (pack rows) (reach_of l) places_keep least_reach
        (sym (ap (cells_past 0) (same_placed l rows)) ∙ few)

    pub chip_answers : AnswersAs net (chip_of_rows l rows)
    chip_answers =
        let cells =
        subst (AnswersAs net) (sym (ap pack of_net.rows_are.rows_are)) (same_answers of_net.rows_are.cells) in
        let raised = repeaters_answer (pack rows) (reach_of l) places_keep chip_keeps in
        same_then _ _ _ _ _ _ _ _ _ cells raised

    -- no wider than its widest row
    chip_narrow : widest (placed_rows (chip_of_rows l rows)) ≤ widest_packed rows.rows
    chip_narrow =
        let width = widest_packed rows.rows in
        narrow_widest width (placed_rows (chip_of_rows l rows))
        (repeaters_narrow (pack rows) (reach_of l) width places_keep
        (narrow_packed width rows.rows (le_refl (widest_packed rows.rows))))

    chip_kinds : GivesKinds l (chip_of_rows l rows).net.rows
    chip_kinds =
        let buffer = known.given Buffer (λ e. absurd cc) in
        repeaters_keep_kinds (IsGiven l) buffer (pack rows) (chip_of_rows l rows) chip_keeps.seated
        (repeaters_add (pack rows) (reach_of l)) rows_kinds

    chip_short : AreShort (reach_of l) (placed_rows (chip_of_rows l rows))
    chip_short = repeaters_short (pack rows) (reach_of l) places_keep least_reach

-- of the chip itself
may_draw_rows : (l : LibraryView) (net : NetView) (rows : RowView) → IsLibrary l → IsNetlist net
    → AreCellRows l net rows → KeepsSize l rows → MayDraw (chip_of_rows l rows) l
may_draw_rows l net rows known keeps of_net within =
    let wide =
    mul-le-mul (chip_narrow l net rows known of_net within.narrow within.few_cells) (le_refl (slot_width_of l)) in
    let answers = chip_answers l net rows known of_net within.narrow within.few_cells in
    record {
      placed = chip_keeps l net rows known of_net within.narrow within.few_cells;
      library = known;
      given = chip_kinds l net rows known of_net within.narrow within.few_cells;
      short = chip_short l net rows known of_net within.narrow within.few_cells;
      narrow = omega (arith, wide, within.narrow);
      low = within.low;
      lag = omega (arith, no_lag (pack rows) (reach_of l));
      few_inputs = omega (arith, answers.same_inputs, keeps.count, keeps.small);
      few_outputs = omega (arith, answers.same_outputs, keeps.small);
    }

pub cells_may_draw : (l : LibraryView) (net : NetView) (chip : PlacedView) → IsLibrary l → IsNetlist net
    → IsCellChip l net chip → MayDraw chip l
cells_may_draw l net chip known keeps is =
    subst (λ (p : PlacedView). MayDraw p l) (sym is.is_chip)
    (may_draw_rows l net is.rows known keeps is.of_net is.within)

pub cells_answer : (l : LibraryView) (net : NetView) (chip : PlacedView) → IsLibrary l → IsNetlist net
    → IsCellChip l net chip → AnswersAs net chip
cells_answer l net chip known keeps is =
    subst (AnswersAs net) (sym is.is_chip)
    (chip_answers l net is.rows known is.of_net is.within.narrow is.within.few_cells)
