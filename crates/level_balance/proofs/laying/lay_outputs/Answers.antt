use Rattle.level_balance.specs.Code.Outlines.{frame_of}
use Rattle.level_balance.proofs.Rooms.{outputs_room}
use Rattle.level_balance.proofs.laying.lay_outputs.Goals as goal

pub lay_output-requires-clause-few_cells : goal.lay_output-requires-clause-few_cells
lay_output-requires-clause-few_cells c =
    outputs_room _ (frame_of c.args.outline.now) c.loop-number.number c.args.outputs.now 0
    (record { rows = c.loop-number.rows.items; ends = c.args.ends.now; use_at = c.loop-number.use_at })
    c.loop-number-test.true c.loop-number.invariant.same c.requires.few_cells
