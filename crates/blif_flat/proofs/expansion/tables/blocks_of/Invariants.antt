use Rattle.std.proofs.Common.{◌≡◌, length, reverse, take}
use Rattle.blif_flat.specs.Code.Blocks.{HasBlocks}
use Rattle.blif_flat.proofs.Tabling.{Outlined}
use Rattle.blif_flat.proofs.expansion.tables.blocks_of.Given as goal

abbrev pub invariant-loop-number : goal.invariant-loop-number
invariant-loop-number l = record {
  many : length l.outlines ≡ length l.models;
  known : Outlined l.models (reverse (take l.number-index l.order)) l.outlines;
  has : HasBlocks l.models (reverse (take l.number-index l.order)) l.blocks;
}
