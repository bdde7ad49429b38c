use Rattle.level_balance.proofs.Rooms.{chain_room}
use Rattle.level_balance.proofs.rows.chain.Goals as goal

pub put-requires : goal.put-requires
put-requires c = chain_room _ c.loop-left.left c.loop-left.at c.loop-left.rows.items c.loop-left.end
    c.loop-left-test.true c.loop-left.invariant.same c.requires.few
