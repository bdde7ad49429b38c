use Rattle.level_balance.specs.Code.Arrays.{led_of}
use Rattle.level_balance.proofs.Rooms.{lead_room}
use Rattle.level_balance.proofs.rows.lead.Goals as goal

pub lead_one-requires-clause-few : goal.lead_one-requires-clause-few
lead_one-requires-clause-few c =
    lead_room _ c.args.user_rows.now c.args.next.now c.args.leaf c.loop-signal.signal-index
    (led_of c.loop-signal.laid c.loop-signal.number)
    c.args.leaves.now _
    c.loop-signal-test.true c.loop-signal.invariant c.requires.few
