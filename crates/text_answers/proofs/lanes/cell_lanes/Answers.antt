use Rattle.std.proofs.Common.{◌∙◌}
use Rattle.text_answers.proofs.InLanes.{lane_cell}
use Rattle.text_answers.proofs.lanes.cell_lanes.Goals as goal

pub returns : goal.returns
returns c = λ l lane. c.kind_lanes.ensures l lane
    ∙ lane_cell l c.args.words.now c.args.values.now c.args.cell.now _ _ _ c.feed_lanes.ensures
    c.feed_lanes-2.ensures c.feed_lanes-3.ensures
