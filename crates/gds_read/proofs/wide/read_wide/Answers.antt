use Rattle.std.proofs.Common.{arith}
use Rattle.gds_read.proofs.WideReads.{wide_read}
use Rattle.gds_read.proofs.wide.read_wide.Goals as goal

pub returns-clause-ok : goal.returns-clause-ok
returns-clause-ok c =
    wide_read c.args.bytes.now c.in_ok-end.end c.split_at.result.0.now c.in_ok-layout.layout c.within_size.result
    (λ i. omega (arith, c.type_inv.bytes i)) c.in_ok-end.ensures.ok c.split_at.ensures.front
    c.in_ok-layout.ensures.layout c.in_ok-layout.ensures.none c.in_ok-layout.ensures.outlined c.within_size.ensures.same
    c.within_size.ensures.within
