use Rattle.std.proofs.Common.{arith}
use Rattle.shape_extract.proofs.rules.net_rule.first_other.Goals as goal

pub returns : goal.returns
returns c = λ k lt. c.loop-number.invariant k (omega arith)
