use Rattle.std.proofs.Common.{rules, ◌≡◌, List, [], true, false, sym, ap, subst, ◌∙◌}
use Rattle.rowed.specs.declared.row_cell.RowCell.{RowCell}
use Rattle.rowed.specs.RowNets.{RowView, IsRowNet}
use Rattle.rowed.specs.PlacedNets.{PlacedView}
use Rattle.rowed.specs.SeatTests.{each_seated}
use Rattle.row_place.specs.Arranged.{one_each, IsArranged, arranged_rows}
use Rattle.row_place.specs.Code.Arrays.{row_cells, row_slots}
use Rattle.row_place.proofs.Placing.{few_cells}
use Rattle.row_place.proofs.ArrangingRows.{given_arranged, not_seated}
use Rattle.row_place.proofs.arranging.arrange.Goals as goal
use Rattle.row_place.proofs.arranging.arrange.Goals.{After-from_vec-2}

pub arrange_rows-requires-clause-few : goal.arrange_rows-requires-clause-few
arrange_rows-requires-clause-few c =
    let rows : c.as_slice-rows.result.now ≡ c.args.net.now.rows = search rules in
    rw rows (few_cells c.args.net.now.rows c.known.ensures.few_cells)

pub returns-then-not-each_seated-clause-taken : goal.returns-then-not-each_seated-clause-taken
returns-then-not-each_seated-clause-taken c each seated =
    let rows : c.as_slice-rows.result.now ≡ c.args.net.now.rows = search rules in
    let not : each_seated c.in_ok-made.made.rows.items c.in_ok-made.made.slots.items ≡ false = search rules in
    not_seated c.args.net.now c.args.slots.now c.in_ok-made.made.rows.items c.in_ok-made.made.slots.items
    (c.in_ok-made.ensures.cells
    ∙ ap (λ (l : List (List RowCell)). row_cells (arranged_rows [] l c.args.slots.now)) rows)
    (c.in_ok-made.ensures.slots
    ∙ ap (λ (l : List (List RowCell)). row_slots (arranged_rows [] l c.args.slots.now)) rows) not seated

-- the placed net is the net with its cells at these slots
is_arranged : (c : After-from_vec-2) → IsArranged c.args.net.now c.args.slots.now (record {
  net = record { inputs = c.net.inside.inputs; outputs = c.net.inside.outputs; rows = c.from_vec.result };
  slots = c.from_vec-2.result;
  lag = 0;
})
is_arranged c =
    let net : RowView = record {
      inputs = c.net.inside.inputs;
      outputs = c.net.inside.outputs;
      rows = c.as_slice-rows.result.now;
    } in
    let placed : PlacedView = record {
      net = record { inputs = net.inputs; outputs = net.outputs; rows = c.from_vec.result };
      slots = c.from_vec-2.result;
      lag = 0;
    } in
    let same : net ≡ c.args.net.now = search rules in
    let each : one_each c.as_slice-rows.result.now c.args.slots.now ≡ true = search rules in
    let seated : each_seated c.from_vec.result c.from_vec-2.result ≡ true = search rules in
    subst (λ (n : RowView). IsArranged n c.args.slots.now placed) same
    (given_arranged net c.args.slots.now c.from_vec.result c.from_vec-2.result
    (subst IsRowNet (sym same) c.known.ensures) each
    (c.from_vec.ensures ∙ c.in_ok-made.ensures.cells) (c.from_vec-2.ensures ∙ c.in_ok-made.ensures.slots) seated)

pub invariant_of-result : goal.invariant_of-result
invariant_of-result c = (is_arranged (goal.at.invariant_of-result c).After-from_vec-2).keeps.net_keeps

pub invariant_of-result-2 : goal.invariant_of-result-2
invariant_of-result-2 c = (is_arranged (goal.at.invariant_of-result-2 c).After-from_vec-2).keeps

pub returns-clause-arranged : goal.returns-clause-arranged
returns-clause-arranged c = is_arranged (goal.at.returns-clause-arranged c).After-from_vec-2
