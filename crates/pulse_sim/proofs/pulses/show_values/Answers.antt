use Rattle.std.proofs.Common.{ap, ◌∙◌}
use Rattle.pulse_sim.specs.Pulsing.{is_plus}
use Rattle.pulse_sim.proofs.Readings.{shown_none, shown_more, shown_all}
use Rattle.pulse_sim.proofs.pulses.show_values.Goals as goal

pub loop-place-init : goal.loop-place-init
loop-place-init c = shown_none _ _ _ c.requires

pub loop-place-preserved : goal.loop-place-preserved
loop-place-preserved c = rw c.set.ensures
    (shown_more _ _ _ _ _ _ c.loop-place.invariant c.loop-place-test.true (c.shows_true-value.ensures
    ∙ ap is_plus c.flux_at.ensures))

pub returns : goal.returns
returns c = shown_all _ _ _ _ c.loop-place-test.false c.loop-place.invariant
