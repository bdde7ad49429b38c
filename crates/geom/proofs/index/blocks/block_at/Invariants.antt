use Rattle.std.proofs.Common.{◌*◌, ◌-◌}
use Rattle.geom.specs.Code.Bounds.{HoldsSpots}
use Rattle.geom.proofs.index.blocks.block_at.Given as goal

abbrev pub invariant-loop-past : goal.invariant-loop-past
invariant-loop-past l = HoldsSpots l.spots (l.number * 8) l.past l.bounds

abbrev pub decreases-loop-past : goal.decreases-loop-past
decreases-loop-past l = l.most - l.past
