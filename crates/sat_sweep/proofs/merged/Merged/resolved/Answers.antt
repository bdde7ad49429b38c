use Rattle.sat_sweep.proofs.Merging.{stands_then, representative_stands}
use Rattle.sat_sweep.proofs.merged.Merged.resolved.Goals as goal

pub loop-preserved : goal.loop-preserved
loop-preserved c =
    let own = c.representative.ensures c.in-Some.next c.in-Some.is in
    stands_then c.self.inside.builder c.args.literal c.loop.now c.in-Some.next c.loop.invariant
    (representative_stands c.self.inside.builder c.deref.result.now c.loop.now own.0 c.in-Some.next
    (rw c.deref.ensures.value c.self.invariant.are_merged) own.1 own.2)
