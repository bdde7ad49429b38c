use Rattle.blif_flat.proofs.OutputNumbers.{own_more}
use Rattle.blif_flat.proofs.expansion.ends.own_numbers.Goals as goal

pub loop-number-preserved : goal.loop-number-preserved
loop-number-preserved c = own_more c.args.places.now c.loop-number.number _ c.loop-number.numbers.entries
    c.add_own.new.numbers.entries c.narrow.result c.loop-number-test.true c.narrow.ensures
    c.loop-number.invariant c.in_ok-add_own.ensures
