use Rattle.std.proofs.Common.{arith}
use Rattle.level_balance.proofs.PagesJoined.{zeros_are}
use Rattle.level_balance.proofs.numbers.Numbers.zeros.Goals as goal

pub invariant_of-result : goal.invariant_of-result
invariant_of-result c = (zeros_are _ _ _ 4096 c.args.count
    (omega arith) c.in_ok-pages.ensures c.in_ok-zeros.ensures c.in_ok-push.ensures.items).0

pub returns : goal.returns
returns c = (zeros_are _ _ _ 4096 c.args.count
    (omega arith) c.in_ok-pages.ensures c.in_ok-zeros.ensures c.in_ok-push.ensures.items).1
