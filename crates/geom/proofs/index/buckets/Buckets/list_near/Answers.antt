use Rattle.geom.proofs.Finding.{near_listed}
use Rattle.geom.proofs.index.buckets.Buckets.list_near.Goals as goal

pub returns : goal.returns
returns c =
    rw (← c.self.view_is) (near_listed _ _ _ _ _ _ _ _ c.self.invariant.placed
    (rw (
      c.as_slice-2.ensures.value,
      c.as_slice-3.ensures.value,
      c.around-zone.ensures.rect,
      c.around-zone.ensures.margin,
    ) at c.in_ok-list_all.ensures) c.make_rising.ensures.rising
    c.make_rising.ensures.same)

pub list_all-requires-clause-blocks : goal.list_all-requires-clause-blocks
list_all-requires-clause-blocks c = rw c.as_slice.ensures.value c.self.invariant.blocks_so
