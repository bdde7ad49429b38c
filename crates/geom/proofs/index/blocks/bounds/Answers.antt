use Rattle.std.proofs.Common.{arith}
use Rattle.geom.proofs.Finding.{around_more}
use Rattle.geom.proofs.index.blocks.bounds.Goals as goal

pub loop-place-preserved : goal.loop-place-preserved
loop-place-preserved c = around_more _ _ _ _ _ _ c.loop-place.invariant
    c.at.ensures c.around-bounds.ensures.first
    c.around-bounds.ensures.second

pub returns : goal.returns
returns c p s le lt is = c.loop-place.invariant p s le (omega (arith, c.loop-place-test.false)) is
