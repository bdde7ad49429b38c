use Rattle.std.proofs.Common.{◌-◌}
use Rattle.geom.specs.Code.Spots.{ListsAmong}
use Rattle.geom.proofs.index.buckets.list_among.Given as goal

abbrev pub invariant-loop-place : goal.invariant-loop-place
invariant-loop-place l = ListsAmong l.spots l.from l.place l.zone.rect l.zone.margin l.fn.found.items l.found.items

abbrev pub decreases-loop-place : goal.decreases-loop-place
decreases-loop-place l = l.to - l.place
