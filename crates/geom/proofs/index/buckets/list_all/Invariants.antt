use Rattle.geom.specs.Code.Spots.{ListsGrids}
use Rattle.geom.proofs.index.buckets.list_all.Given as goal

abbrev pub invariant-loop-grid : goal.invariant-loop-grid
invariant-loop-grid l = ListsGrids l.spots l.starts l.grids l.grid-index l.zone.rect l.zone.margin l.found.items
