use Rattle.std.proofs.Common.{◌≡◌, length}
use Rattle.gds_records.specs.WideValues.{is_round, is_round_to}
use Rattle.gds_read.proofs.ways.is_round.Given as goal

abbrev pub invariant-steps : goal.invariant-steps
invariant-steps l = is_round l.points ≡ is_round_to l.first l.last l.rest

abbrev pub decreases-steps : goal.decreases-steps
decreases-steps l = length l.rest
