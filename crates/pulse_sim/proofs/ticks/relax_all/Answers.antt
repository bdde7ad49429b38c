use Rattle.pulse_sim.proofs.InPlace.{relaxed_more}
use Rattle.pulse_sim.proofs.ticks.relax_all.Goals as goal

pub loop-number-preserved : goal.loop-number-preserved
loop-number-preserved c = relaxed_more _ _ _ _ c.loop-number.invariant
    (c.requires c.loop-number.number-index c.loop-number-test.true)
