use Rattle.std.proofs.Common.{refl}
use Rattle.gds_read.proofs.Numbering.{numbered_at}
use Rattle.gds_read.proofs.numbers.numbers.Goals as goal

pub loop-number-preserved : goal.loop-number-preserved
loop-number-preserved c =
    numbered_at c.args.outlines.now c.loop-number.number c.index-outlines-number.result c.loop-number.numbers.entries
    c.add.new.numbers.entries _ c.requires c.loop-number-test.true c.index-outlines-number.is refl
    c.loop-number.invariant c.in_ok-add.ensures
