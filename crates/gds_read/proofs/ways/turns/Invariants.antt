use Rattle.std.proofs.Common.{◌≡◌, ◌++◌, length}
use Rattle.gds_records.specs.WideValues.{turns, turns_from}
use Rattle.gds_read.specs.Code.Ways.{way_of}
use Rattle.gds_read.proofs.ways.turns.Given as goal

abbrev pub invariant-steps : goal.invariant-steps
invariant-steps l = l.kept.items ++ turns_from (way_of l.came) l.last l.rest ≡ turns l.points

abbrev pub decreases-steps : goal.decreases-steps
decreases-steps l = length l.rest
