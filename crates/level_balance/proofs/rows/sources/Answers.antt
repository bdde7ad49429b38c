use Rattle.level_balance.proofs.Rooms.{sources_room}
use Rattle.level_balance.proofs.rows.sources.Goals as goal

pub source_of-requires : goal.source_of-requires
source_of-requires c =
    sources_room _ c.args.below.now.inputs c.args.below.now.row c.loop-gate.gate-index c.loop-gate.number
    c.args.below.now.ends.now c.loop-gate.rows.items c.loop-gate.taken.items c.args.gates.now 0 c.loop-gate-test.true
    c.loop-gate.invariant.so c.requires.few
