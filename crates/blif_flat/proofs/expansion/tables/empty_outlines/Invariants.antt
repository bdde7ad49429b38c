use Rattle.std.proofs.Common.{◌≡◌, length}
use Rattle.blif_flat.proofs.expansion.tables.empty_outlines.Given as goal

abbrev pub invariant-loop-number : goal.invariant-loop-number
invariant-loop-number l = length l.outlines ≡ l._number
