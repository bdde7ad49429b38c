use Rattle.std.proofs.Common.{arith}
use Rattle.blif_read.proofs.SeenEnds.{last_again, last_added}
use Rattle.blif_read.proofs.faults.add_last.Goals as goal

pub returns-clause-again : goal.returns-clause-again
returns-clause-again c = last_again _ c.args.line.now.tokens _ _
    (let many = c.if-count-lt2.false in let is = c.count-count.ensures in λ few. omega arith)
    c.last.ensures c.in_ok-new.ensures.new

pub returns-clause-keys : goal.returns-clause-keys
returns-clause-keys c f = last_added _ c.args.line.now.tokens _ _
    (let many = c.if-count-lt2.false in let is = c.count-count.ensures in λ few. omega arith) c.last.ensures
    c.in_ok-new.ensures.new _ c.in_ok-new.ensures.keys f
