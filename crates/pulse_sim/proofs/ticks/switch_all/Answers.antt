use Rattle.std.proofs.Common.{◌<◌, length, arith, slice_index}
use Rattle.pulse_sim.proofs.InPlace.{switched_at}
use Rattle.pulse_sim.proofs.ticks.switch_all.Goals as goal

pub loop-number-preserved : goal.loop-number-preserved
loop-number-preserved c =
    let within : slice_index c.args.numbers.now c.loop-number.number-index < length c.args.cells.now =
    c.requires.within c.loop-number.number-index c.loop-number-test.true in
    rw c.taken_by-flux.ensures
    (switched_at _ _ _ c.requires.quiet _ _ _ c.loop-number.invariant c.loop-number-test.true _ within
    (omega (arith, c.requires.long)))
