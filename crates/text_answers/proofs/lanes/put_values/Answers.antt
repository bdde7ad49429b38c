use Rattle.text_answers.proofs.InLanes.{lanes_more, lanes_all}
use Rattle.text_answers.proofs.lanes.put_values.Goals as goal

pub loop-cell-preserved : goal.loop-cell-preserved
loop-cell-preserved c =
    lanes_more c.args.cells.now c.args.words.now c.loop-cell.values.items _ c.loop-cell.cell-index
    c.cell_lanes-value.result _ c.requires c.loop-cell-test.true
    (rw c.deref.ensures.value at c.cell_lanes-value.ensures) c.in_ok-push.ensures.items c.loop-cell.invariant

pub returns : goal.returns
returns c = lanes_all c.args.cells.now c.args.words.now c.loop-cell.values.items c.loop-cell.cell-index
    c.loop-cell-test.false c.loop-cell.invariant
