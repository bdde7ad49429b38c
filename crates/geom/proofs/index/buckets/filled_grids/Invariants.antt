use Rattle.geom.specs.Code.Spots.{KeepsFilled}
use Rattle.geom.proofs.index.buckets.filled_grids.Given as goal

abbrev pub invariant-loop-grid : goal.invariant-loop-grid
invariant-loop-grid l = KeepsFilled l.grids l.starts l.grid-index l.kept.items
