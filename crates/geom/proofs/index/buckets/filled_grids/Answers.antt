use Rattle.std.proofs.Common.{◌≡◌, Some, slice_get}
use Rattle.geom.proofs.Filing.{read_at}
use Rattle.geom.proofs.Placing.{filled_bare, filled_more}
use Rattle.geom.proofs.index.buckets.filled_grids.Goals as goal
use Rattle.geom.proofs.index.buckets.filled_grids.Goals.{then-not-is_bare+in_ok-push, else-not-is_bare}

pub loop-grid-preserved : goal.loop-grid-preserved
loop-grid-preserved c =
    let here : slice_get c.args.grids.now c.loop-grid.grid-index ≡ Some c.grid-item.result =
    read_at c.args.grids.now c.loop-grid.grid-index c.grid-item.result c.loop-grid-test.true c.grid-item.is in
    elim c.if-not-is_bare.branch [
      | then-not-is_bare+in_ok-push w ↦ rw (w.kept-is, w.in_ok-push.ensures.items)
          (filled_more _ _ _ _ _ here
          (rw c.grid-item.is (c.requires c.loop-grid.grid-index c.grid-item.result c.loop-grid-test.true))
          c.loop-grid.invariant)
      | else-not-is_bare w ↦ rw w.kept-is
          (filled_bare _ _ _ _ _ here (c.is_bare.ensures.0 w.if-not-is_bare.false) c.loop-grid.invariant)
    ]
