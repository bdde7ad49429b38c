use Rattle.std.proofs.Common.{arith}
use Rattle.plan_limits.proofs.Given.{gives_kinds}
use Rattle.plan_limits.proofs.limits.gives_kinds.Goals as goal

pub returns : goal.returns
returns c = λ _.
    gives_kinds c.args.library.now c.args.chip.now (λ r x cell within at.
    c.loop-number.invariant r x cell
    (omega (arith, within, c.loop-number-test.false, c.row_count-number-end.ensures)) at)
