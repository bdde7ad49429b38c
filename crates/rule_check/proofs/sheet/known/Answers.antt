use Rattle.std.proofs.Common.{arith}
use Rattle.rule_check.proofs.Geometry.{sides_more, sides_all}
use Rattle.rule_check.proofs.sheet.known.Goals as goal

pub loop-place-preserved : goal.loop-place-preserved
loop-place-preserved c = sides_more c.loop-place.place c.args.kinds.now c.get.result.now c.loop-place.invariant
    c.get.ensures c.known.ensures

pub returns : goal.returns
returns c = sides_all c.loop-place.place c.args.kinds.now (omega (arith, c.count-place-end.ensures))
    c.loop-place.invariant
