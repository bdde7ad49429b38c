use Rattle.std.proofs.Common.{◌≡◌, [], replicate}
use Rattle.blif_flat.proofs.expansion.tables.empty_blocks.Given as goal

abbrev pub invariant-loop-number : goal.invariant-loop-number
invariant-loop-number l = l.blocks ≡ replicate l._number []
