use Rattle.std.proofs.Common.{◌+◌, ◌<◌, ◌^◌, length}
use Rattle.blif_read.proofs.cover.row_count.Given as goal

abbrev pub invariant-lines : goal.invariant-lines
invariant-lines l = l.count + length l.rest < 2 ^ 63

abbrev pub decreases-lines : goal.decreases-lines
decreases-lines l = length l.rest
