use Rattle.std.proofs.Common.{sym, arith}
use Rattle.gds_read.proofs.Trims.{found_zero, none_more, none_whole}
use Rattle.gds_read.proofs.values.holds_zero.Goals as goal

pub returns-then-b-eq0 : goal.returns-then-b-eq0
returns-then-b-eq0 c = sym (found_zero c.args.text.now c.loop-b.b-index (omega arith) c.if-b-eq0.true)

pub loop-b-preserved : goal.loop-b-preserved
loop-b-preserved c = none_more c.args.text.now c.loop-b.b-index (omega arith) c.if-b-eq0.false c.loop-b.invariant

pub returns : goal.returns
returns c = sym (none_whole c.args.text.now c.loop-b.b-index (omega arith) c.loop-b.invariant)
