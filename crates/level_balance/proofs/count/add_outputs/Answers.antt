use Rattle.level_balance.proofs.AtMost.{output_turn}
use Rattle.level_balance.proofs.count.add_outputs.Goals as goal

pub loop-output-preserved : goal.loop-output-preserved
loop-output-preserved c = output_turn c.args.outputs.now c.loop-output.fans _ c.loop-output.output-index 0 _
    c.loop-output-test.true c.in_ok-add_use.ensures c.loop-output.invariant.0 c.loop-output.invariant.1
