use Rattle.std.proofs.Common.{◌/◌, arith}
use Rattle.geom.proofs.Filing.{read_at}
use Rattle.geom.proofs.Finding.{around_block}
use Rattle.geom.proofs.index.blocks.block_at.Goals as goal

pub loop-past-preserved : goal.loop-past-preserved
loop-past-preserved c = around_block _ _ _ _ _ _ _ c.requires.blocks
    (read_at c.args.blocks.now (c.loop-past.past / 8) c.index-blocks-past.result
    (omega (arith, c.loop-past-test.true, c.past_block-most.ensures.within, c.requires.long)) c.index-blocks-past.is)
    c.loop-past.invariant c.around-bounds.ensures.first c.around-bounds.ensures.second
