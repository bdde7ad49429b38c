use Rattle.std.proofs.Common.{◌≡◌, ◌∙◌, List, Some, sym, ap, arith}
use Rattle.std.specs.Prelude.{slice_get}
use Rattle.circuit_extracted.specs.declared.cells.ExCell.{ExCell}
use Rattle.circuit_extracted.specs.Circuits.{CircuitView}
use Rattle.text_report.proofs.tables.cells_by_row.Goals as goal

pub count_cells-requires-clause-rows : goal.count_cells-requires-clause-rows
count_cells-requires-clause-rows c number cell at =
    let cells : c.as_slice.result.now ≡ c.args.circuit.now.cells =
    c.as_slice.ensures ∙ ap (λ (v : CircuitView). v.cells) c.circuit.view_is in
    let is : slice_get c.args.circuit.now.cells number ≡ Some cell =
    ap (λ (l : List ExCell). slice_get l number) (sym cells) ∙ at in
    omega (
      arith,
      (c.known.ensures.cells number cell is).row_is,
      ap (λ (v : CircuitView). v.rows) c.circuit.view_is,
      c.deref_mut.ensures.len,
      c.in_ok-counts.ensures.len,
    )
