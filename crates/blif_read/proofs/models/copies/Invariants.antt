use Rattle.std.proofs.Common.{◌≡◌, ◌++◌, length}
use Rattle.blif_read.proofs.models.copies.Given as goal

abbrev pub invariant-names : goal.invariant-names
invariant-names l = l.copies ++ l.rest ≡ l.fn.names

abbrev pub decreases-names : goal.decreases-names
decreases-names l = length l.rest
