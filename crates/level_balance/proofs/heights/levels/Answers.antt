use Rattle.level_balance.proofs.AtMost.{levels_turn}
use Rattle.level_balance.proofs.heights.levels.Goals as goal

pub loop-gate-preserved : goal.loop-gate-preserved
loop-gate-preserved c =
    levels_turn c.args.inputs c.args.base c.args.fans.now c.args.gates.now _ c.loop-gate.gate-index
    c.loop-gate.levels.items c.deref.result.now _ _ c.requires.low c.requires.high
    c.requires.fans c.loop-gate-test.true
    c.deref.ensures.value c.level_of-level.ensures c.in_ok-push.ensures.items c.loop-gate.invariant
