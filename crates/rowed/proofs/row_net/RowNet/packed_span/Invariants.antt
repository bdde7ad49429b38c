use Rattle.std.proofs.Common.{◌≡◌, drop, max}
use Rattle.rowed.specs.Extent.{widest_packed}
use Rattle.rowed.proofs.row_net.RowNet.packed_span.Given as goal

abbrev pub invariant-loop-row : goal.invariant-loop-row
invariant-loop-row l = max l.widest (widest_packed (drop l.row-index l.rows)) ≡ widest_packed l.rows
