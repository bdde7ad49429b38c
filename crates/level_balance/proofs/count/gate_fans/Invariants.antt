use Rattle.level_balance.proofs.AtMost.{FansSo}
use Rattle.level_balance.proofs.count.gate_fans.Given as goal

abbrev pub invariant-loop-left : goal.invariant-loop-left
invariant-loop-left l = FansSo l.inputs l.gates l.outputs l.left l.fans

abbrev pub decreases-loop-left : goal.decreases-loop-left
decreases-loop-left l = l.left
