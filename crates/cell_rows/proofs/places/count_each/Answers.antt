use Rattle.cell_rows.specs.Code.Laying.{view_of}
use Rattle.cell_rows.proofs.Laid.{places_more}
use Rattle.cell_rows.proofs.places.count_each.Goals as goal

pub loop-j-preserved : goal.loop-j-preserved
loop-j-preserved c = (
  c.counted-place.ensures.counts,
  rw c.in_ok-push.ensures.items
      (places_more (view_of c.args.cells.now) c.args.cells.now.levels.now.levels
      c.loop-j.places.items c.loop-j.j c.counted-place.result c.loop-j.invariant.1 c.counted-place.ensures.place),
)
