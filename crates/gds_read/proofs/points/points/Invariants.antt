use Rattle.std.proofs.Common.{◌≡◌, ◌++◌, length}
use Rattle.gds_records.specs.WideValues.{points}
use Rattle.gds_read.proofs.points.points.Given as goal

abbrev pub invariant-points : goal.invariant-points
invariant-points l = l.found.items ++ points l.rest ≡ points l.xy

abbrev pub decreases-points : goal.decreases-points
decreases-points l = length l.rest
