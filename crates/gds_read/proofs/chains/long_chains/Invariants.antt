use Rattle.std.proofs.Common.{◌-◌, ◌≤◌}
use Rattle.gds_read.proofs.Graphs.{Marked}
use Rattle.gds_read.proofs.chains.long_chains.Given as goal

abbrev pub invariant-lengths : goal.invariant-lengths
invariant-lengths l = record { marked : Marked l.marks.items l.length l.graph; within : l.length ≤ 65 }

abbrev pub decreases-lengths : goal.decreases-lengths
decreases-lengths l = 65 - l.length
