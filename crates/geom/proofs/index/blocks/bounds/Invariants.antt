use Rattle.geom.specs.Code.Bounds.{HoldsSpots}
use Rattle.geom.proofs.index.blocks.bounds.Given as goal

abbrev pub invariant-loop-place : goal.invariant-loop-place
invariant-loop-place l = HoldsSpots l.spots l.from l.place l.bounds
