use Rattle.std.proofs.Common.{◌≡◌, [], ◌∷◌, ◌++◌, arith}
use Rattle.pulse_sim.proofs.InPlace.{phases_more}
use Rattle.pulse_sim.proofs.pulses.cells_by_phase.Goals as goal

pub loop-phase-preserved : goal.loop-phase-preserved
loop-phase-preserved c =
    let longer : c.push.new.self.items ≡ c.loop-phase.phases.items ++ (c.in_ok-cells_in_phase.field-0 ∷ []) =
    c.in_ok-push.ensures.items in
    rw longer (phases_more _ _ _ _ c.loop-phase.invariant c.in_ok-cells_in_phase.ensures)

pub returns : goal.returns
returns c = record { four = omega (arith, c.loop-phase.invariant.long); each_phase = c.loop-phase.invariant.each_phase }
