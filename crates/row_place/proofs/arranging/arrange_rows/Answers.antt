use Rattle.std.proofs.Common.{arith, ◌<◌, ◌^◌, ◌∷◌, [], ◌++◌, List, ℕ, length, ap, sym, ◌∙◌}
use Rattle.std.proofs.lemmas.List.Elements.{All-from_recursion}
use Rattle.rowed.specs.declared.row_cell.RowCell.{RowCell}
use Rattle.row_place.proofs.ArrangedRows.{as_many, row_long_at}
use Rattle.row_place.proofs.AllRows.{one_row, row_here}
use Rattle.row_place.proofs.ArrangingRows.{one_arranged}
use Rattle.row_place.proofs.arranging.arrange_rows.Goals as goal

pub bounds-slots-number : goal.bounds-slots-number
bounds-slots-number c =
    omega (arith, as_many c.args.rows.now c.args.slots.now c.requires.each, c.loop-number-test.true)

pub arrange_row-requires-clause-each : goal.arrange_row-requires-clause-each
arrange_row-requires-clause-each c =
    ap length (c.as_slice-in-loop-number.ensures ∙ c.index-slots-number.is)
    ∙ row_long_at c.args.rows.now c.args.slots.now c.requires.each c.loop-number.number _ _ c.loop-number-test.true
    ∙ sym (ap length (c.as_slice.ensures ∙ c.index-rows-number.is))

pub loop-number-preserved : goal.loop-number-preserved
loop-number-preserved c =
    let below = as_many c.args.rows.now c.args.slots.now c.requires.each in
    let few = All-from_recursion (λ row. length row < 2 ^ 32) c.args.rows.now c.requires.few c.loop-number.number
    _ c.loop-number-test.true in
    let is_row = c.as_slice.ensures ∙ c.index-rows-number.is in
    one_row (record {
      cells = c.in_ok-made.made.cells.items;
      slots = c.in_ok-made.made.slots.items;
      places = c.in_ok-made.made.places.items;
      few = rw is_row few;
      cells_are = c.in_ok-made.ensures.cells;
      inverse = c.in_ok-made.ensures.places;
      long = c.in_ok-made.ensures.long;
    }) c.loop-number.invariant c.deref.ensures.value
    (one_arranged c.loop-number.invariant.old
    (row_here c.args.rows.now c.loop-number.number _ c.loop-number-test.true is_row)
    (row_here c.args.slots.now c.loop-number.number _ (omega (arith, below, c.loop-number-test.true))
    (c.as_slice-in-loop-number.ensures ∙ c.index-slots-number.is)) c.in_ok-made.ensures.slots)
    (c.in_ok-push.ensures.items
    ∙ ap (λ (row : List RowCell). c.loop-number.placed.items ++ row ∷ []) c.from_vec.ensures)
    (c.in_ok-push-2.ensures.items
    ∙ ap (λ (row : List ℕ). c.loop-number.lists.items ++ row ∷ []) c.from_vec-in-loop-number.ensures)
