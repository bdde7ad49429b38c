use Rattle.level_balance.proofs.AtMost.{fans_begin, fans_turn}
use Rattle.level_balance.proofs.count.gate_fans.Goals as goal

pub loop-left-init : goal.loop-left-init
loop-left-init c = fans_begin c.args.inputs c.args.gates.now c.args.outputs.now _ _ c.in_ok-fans.ensures
    c.in_ok-add_outputs.ensures.uses c.in_ok-add_outputs.ensures.few

pub loop-left-preserved : goal.loop-left-preserved
loop-left-preserved c = fans_turn c.args.inputs c.args.gates.now c.args.outputs.now _ c.loop-left.left c.loop-left.fans
    _ c.loop-left-test.true c.in_ok-add_counted.ensures c.loop-left.invariant
