use Rattle.mig_replace.proofs.Carrying.{carries_later}
use Rattle.mig_replace.proofs.growing.all_prepared.Goals as goal

pub prepared-requires : goal.prepared-requires
prepared-requires g c =
    carries_later c.args.graph.now c.args.builder.now c.loop-turn.builder c.args.found.now c.loop-turn.invariant
    c.requires
