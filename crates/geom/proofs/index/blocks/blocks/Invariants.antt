use Rattle.std.proofs.Common.{◌≤◌, ◌+◌, ◌*◌, ◌<◌, length}
use Rattle.geom.specs.Code.Bounds.{AreBlocks}
use Rattle.geom.proofs.index.blocks.blocks.Given as goal

abbrev pub invariant-loop-number : goal.invariant-loop-number
invariant-loop-number l = record {
  within : l.number ≤ length l.blocks.items;
  long : length l.spots ≤ length l.blocks.items * 8;
  few : length l.blocks.items * 8 < length l.spots + 8;
  so_far : AreBlocks l.spots l.blocks.items;
}

abbrev pub decreases-loop-number : goal.decreases-loop-number
decreases-loop-number l = l.number
