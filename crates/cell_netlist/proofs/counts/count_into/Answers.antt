use Rattle.std.proofs.Common.{arith, refl, length}
use Rattle.cell_netlist.proofs.Gated.{counted, bump_fits}
use Rattle.cell_netlist.proofs.counts.count_into.Goals as goal

pub loop-number-preserved : goal.loop-number-preserved
loop-number-preserved c =
    counted c.loop-number.counts c.bump.new.counts _ c.loop-number.number-index _ c.args.numbers.now
    c.loop-number.invariant c.bump.ensures refl c.loop-number-test.true

pub bump-requires : goal.bump-requires
bump-requires c = λ s lt.
    bump_fits c.loop-number.counts c.args.numbers.now (length c.args.counts.now) c.loop-number.number-index s
    c.loop-number.invariant (let long = c.loop-number.auto.counts in omega (arith, long)) c.loop-number-test.true
    c.requires.few
