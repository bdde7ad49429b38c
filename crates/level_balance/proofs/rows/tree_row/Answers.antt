use Rattle.level_balance.proofs.Rooms.{tree_row_room}
use Rattle.level_balance.proofs.rows.tree_row.Goals as goal

pub put-requires : goal.put-requires
put-requires c = tree_row_room _ c.args.base c.args.row c.loop-signal.signal-index c.loop-signal.left
    c.loop-signal.rows.items c.loop-signal.made.items c.args.signals.now c.loop-signal-test.true
    c.loop-signal.invariant c.requires.few
