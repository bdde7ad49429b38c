use Rattle.std.proofs.Common.{◌-◌, arith}
use Rattle.std.proofs.lemmas.List.{length-set}
use Rattle.geom.proofs.Finding.{blocks_set}
use Rattle.geom.proofs.index.blocks.blocks.Goals as goal

pub loop-number-preserved : goal.loop-number-preserved
loop-number-preserved c = record {
  within = omega (
    arith,
    c.loop-number.invariant.within,
    length-set c.loop-number.blocks.items
        (c.loop-number.number - 1) c.block_at-block.result,
  );
  long = omega (
    arith,
    c.loop-number.invariant.long,
    length-set c.loop-number.blocks.items
        (c.loop-number.number - 1) c.block_at-block.result,
  );
  few = omega (
    arith,
    c.loop-number.invariant.few,
    length-set c.loop-number.blocks.items
        (c.loop-number.number - 1) c.block_at-block.result,
  );
  so_far = blocks_set _ _ _ _ c.loop-number.invariant.so_far c.block_at-block.ensures;
}

pub block_at-block-requires-clause-blocks : goal.block_at-block-requires-clause-blocks
block_at-block-requires-clause-blocks c = rw c.as_slice.ensures.value c.loop-number.invariant.so_far
