use Rattle.std.proofs.Common.{◌≡◌, length}
use Rattle.gds_records.specs.WideValues.{goes_on, Still}
use Rattle.gds_read.specs.Code.Ways.{way_of}
use Rattle.gds_read.proofs.ways.goes_on.Given as goal

abbrev pub invariant-steps : goal.invariant-steps
invariant-steps l = goes_on Still l.first l.points ≡ goes_on (way_of l.came) l.last l.rest

abbrev pub decreases-steps : goal.decreases-steps
decreases-steps l = length l.rest
