-- The chip of a netlist, within the limits: it can be drawn, and answers every word as the netlist does.
use Rattle.std.specs.Prelude.{◌≡◌, ℕ, ◌≤◌, suc, List, [], ◌∷◌, length, slice_index_or}
use Rattle.std.proofs.Common.{refl, sym, ap, ◌∙◌, arith, mul-le-mul, le_refl}
use Rattle.std.proofs.lemmas.List.{length-map}
use Rattle.circuit.specs.declared.cell_kind.CellKind.TheVariants.{Buffer}
use Rattle.circuit.specs.PlainNets.{IsPlainNet}
use Rattle.plan_build.proofs.SameThen.{same_then}
use Rattle.blif_read.specs.Parts.{NetView}
use Rattle.blif_read.specs.Netlist.{IsNetlist}
use Rattle.rowed.specs.declared.row_cell.RowCell.{RowCell}
use Rattle.rowed.specs.RowNets.{row_at, IsRowNet}
use Rattle.rowed.specs.Slots.{span_of}
use Rattle.rowed.specs.PlacedNets.{PlacedRow, IsPlaced, paired, placed_rows}
use Rattle.rowed.specs.Short.{AreShort}
use Rattle.rowed.specs.Extent.{widest}
use Rattle.maj_mapping.specs.Plan.{map_net}
use Rattle.maj_mapping.proofs.FewGates.{few_gates}
use Rattle.maj_mapping.proofs.MappedNets.{is_plain, keeps as mapping_keeps}
use Rattle.level_balance.proofs.Counted.{plan_count}
use Rattle.level_balance.proofs.KeptNet.{plan_is_row_net}
use Rattle.level_balance.proofs.SameAnswers.{same_answers}
use Rattle.row_place.proofs.PlanGiven.{plan_given}
use Rattle.row_place.proofs.PlanLaws.{places_answer}
use Rattle.row_place.proofs.PlanSpans.{widest_is}
use Rattle.repeater_rows.specs.Repeaters.{repeated, repeated_rows}
use Rattle.rowed.proofs.RowsAboveLaws.{placed_rows_of}
use Rattle.repeater_rows.specs.Passes.{cells_past}
use Rattle.repeater_rows.proofs.KeptLaws.{repeaters_keep, no_lag}
use Rattle.repeater_rows.proofs.AnswerLaws.{repeaters_answer}
use Rattle.repeater_rows.specs.Inserted.{AreNarrow}
use Rattle.repeater_rows.proofs.InsertedLaws.{repeaters_add, repeaters_narrow}
use Rattle.repeater_rows.proofs.ShortLaws.{repeaters_short}
use Rattle.cell_library.specs.Library.{LibraryView, IsGiven}
use Rattle.cell_library.specs.Laws.{IsLibrary}
use Rattle.cell_library.proofs.PinCounts.{two_reach}
use Rattle.cell_library.specs.Reach.{reach_of, slot_width_of}
use Rattle.layout_make.specs.MayDraw.{MayDraw, GivesKinds}
use Rattle.plan_build.specs.Laws.{AnswersAs}
use Rattle.plan_build.specs.Plans.{three_of, rows_of, places_of, chip_of, span_before, IsWithin}
use Rattle.plan_build.proofs.CellSizes.{some_width}
use Rattle.plan_build.proofs.KeptKinds.{levels_give_kinds, places_keep_kinds, repeaters_keep_kinds}

-- the greatest span of rows of which none spans more
narrow_from : (width : ℕ) (rows : List (List RowCell)) (slots : List (List ℕ))
    → ((r : ℕ) → span_of (row_at rows r) (slice_index_or slots r []) ≤ width)
    → AreNarrow width (paired rows slots)
narrow_from width [] slots at = tt
narrow_from width (row ∷ rows) [] at = tt
narrow_from width (row ∷ rows) (s ∷ slots) at = (at 0, narrow_from width rows slots (λ r. at (suc r)))

pub narrow_widest : (width : ℕ) (rows : List PlacedRow) → AreNarrow width rows → widest rows ≤ width
narrow_widest width [] narrow = omega arith
narrow_widest width (row ∷ rows) narrow = omega (arith, narrow.0, narrow_widest width rows narrow.1)

-- the plan of repeaters has the rows that its limits speak of
pub same_placed : (l : LibraryView) (net : NetView)
    → placed_rows (chip_of l net) ≡ repeated_rows (reach_of l) (placed_rows (places_of l net))
unfolding repeated
same_placed l net =
    let rows = repeated_rows (reach_of l) (placed_rows (places_of l net)) in
    placed_rows_of (places_of l net).net.inputs (places_of l net).net.outputs rows

pub same_height : (l : LibraryView) (net : NetView)
    → length (chip_of l net).net.rows ≡ length (repeated_rows (reach_of l) (placed_rows (places_of l net)))
unfolding repeated
same_height l net =
    length-map (repeated_rows (reach_of l) (placed_rows (places_of l net))) (λ (row : PlacedRow). row.cells)

-- the nets on the way
module _ (l : LibraryView) (net : NetView) (cells : IsLibrary l) (known : IsNetlist net) (within : IsWithin l net) where
  gates_keep : IsPlainNet (map_net net)
  gates_keep = is_plain net known (few_gates net known)

  rows_keep : IsRowNet (rows_of l net)
  rows_keep =
      let count = plan_count (map_net net) (three_of l) gates_keep in
      plan_is_row_net (map_net net) (three_of l) gates_keep (omega (arith, count, within.few_before))

  places_keep : IsPlaced (places_of l net)
  places_keep = (plan_given (rows_of l net) (slot_width_of l) rows_keep (some_width l cells) within.narrow).placed_keeps

  least_reach : 2 ≤ reach_of l
  least_reach = two_reach l (reach_of l) cells refl

  chip_keeps : IsPlaced (chip_of l net)
  chip_keeps =
      let few = sym (ap (cells_past 0) (same_placed l net)) ∙ within.few_cells in
      repeaters_keep (places_of l net) (reach_of l) places_keep least_reach few

  -- it answers as the netlist
  pub chip_answers : AnswersAs net (chip_of l net)
  chip_answers =
      let mapped = mapping_keeps net (map_net net) known refl in
      let levelled = same_answers (map_net net) (three_of l) gates_keep rows_keep in
      let placed = places_answer (rows_of l net) rows_keep in
      let raised = repeaters_answer (places_of l net) (reach_of l) places_keep chip_keeps in
      same_then _ _ _ _ _ _ _ _ _
      (same_then _ _ _ _ _ _ _ _ _ (same_then _ _ _ _ _ _ _ _ _ mapped levelled) placed) raised

  -- its kinds are given
  chip_kinds : GivesKinds l (chip_of l net).net.rows
  chip_kinds =
      let levelled = levels_give_kinds l cells (map_net net) in
      let placed = places_keep_kinds (IsGiven l) (rows_of l net) levelled in
      let buffer = cells.given Buffer (λ e. absurd cc) in
      repeaters_keep_kinds (IsGiven l) buffer (places_of l net) (chip_of l net) chip_keeps.seated
      (repeaters_add (places_of l net) (reach_of l)) placed

  -- its wires are short
  chip_short : AreShort (reach_of l) (placed_rows (chip_of l net))
  chip_short = repeaters_short (places_of l net) (reach_of l) places_keep least_reach

  -- it is no wider than its widest row
  chip_narrow : widest (placed_rows (chip_of l net)) ≤ span_before l net
  chip_narrow =
      let width = span_before l net in
      let spans = widest_is (rows_of l net) in
      let before : AreNarrow width (placed_rows (places_of l net)) =
      narrow_from width (places_of l net).net.rows (places_of l net).slots spans.none_wider in
      narrow_widest width (placed_rows (chip_of l net))
      (repeaters_narrow (places_of l net) (reach_of l) width places_keep before)

  -- it can be drawn
  pub chip_may_draw : MayDraw (chip_of l net) l
  chip_may_draw =
      let wide = mul-le-mul chip_narrow (le_refl (slot_width_of l)) in
      record {
        placed = chip_keeps;
        library = cells;
        given = chip_kinds;
        short = chip_short;
        narrow = omega (arith, wide, within.narrow);
        low = within.low;
        lag = omega (arith, no_lag (places_of l net) (reach_of l));
        few_inputs = omega (arith, chip_answers.same_inputs, known.count, known.small);
        few_outputs = omega (arith, chip_answers.same_outputs, known.small);
      }
