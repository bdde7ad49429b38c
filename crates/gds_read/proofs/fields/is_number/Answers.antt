use Rattle.gds_read.proofs.WideFields.{too_great}
use Rattle.gds_read.proofs.fields.is_number.Goals as goal

pub returns-then-so_far-number : goal.returns-then-so_far-number
returns-then-so_far-number c =
    too_great c.args.bytes.now c.loop-b.so_far c.loop-b.b-index c.args.number c.loop-b-test.true c.if-so_far-number.true
    c.loop-b.invariant
