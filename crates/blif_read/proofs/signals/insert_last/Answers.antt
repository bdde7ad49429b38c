use Rattle.std.proofs.Common.{◌∙◌, arith}
use Rattle.blif_read.proofs.SeenEnds.{one_inserted}
use Rattle.blif_read.proofs.signals.insert_last.Goals as goal

pub returns : goal.returns
returns c = one_inserted _ c.args.line.now.tokens _
    (let many = c.if-count-lt2.false in let is = c.count-count.ensures in λ few. omega arith) (c.in_ok-copy.ensures
    ∙ c.last.ensures) _ c.in_ok-insert.ensures.keys
