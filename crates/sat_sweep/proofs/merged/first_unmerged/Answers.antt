use Rattle.std.proofs.Common.{below_more}
use Rattle.sat_sweep.proofs.Merging.{one_for_both}
use Rattle.sat_sweep.proofs.merged.first_unmerged.Goals as goal

pub loop-place-preserved : goal.loop-place-preserved
loop-place-preserved c =
    below_more _ _ c.loop-place.invariant
    (one_for_both _ _ _ _ _ c.resolved.ensures c.resolved-in-loop-place.ensures c.if-resolved.false)
