use Rattle.geom.proofs.Filing.{read_at}
use Rattle.geom.proofs.Finding.{grids_more}
use Rattle.geom.proofs.index.buckets.list_all.Goals as goal

pub loop-grid-preserved : goal.loop-grid-preserved
loop-grid-preserved c = grids_more _ _ _ _ _ _ _ _ _
    (read_at _ _ _ c.loop-grid-test.true c.grid-item.is) c.loop-grid.invariant c.in_ok-list_in.ensures
