use Rattle.geom.proofs.Finding.{ListsRows}
use Rattle.geom.proofs.index.buckets.list_in.Given as goal

abbrev pub invariant-loop-row : goal.invariant-loop-row
invariant-loop-row l = ListsRows l.spots l.starts l.grid l.row l.zone.rect l.zone.margin l.fn.found.items l.found.items
