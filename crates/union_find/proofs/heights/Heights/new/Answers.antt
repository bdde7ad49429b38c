use Rattle.std.proofs.Common.{arith}
use Rattle.union_find.proofs.Fresh.{made_tables, made_obeys}
use Rattle.union_find.proofs.heights.Heights.new.Goals as goal

pub invariant_of-result : goal.invariant_of-result
invariant_of-result c =
    rw (c.in_ok-above.ensures, c.in_ok-height.ensures, c.in_ok-size.ensures)
    (made_tables c.in_ok-parent.parent.items c.args.count c.in_ok-parent.ensures.long c.in_ok-parent.ensures.each
    c.requires (omega arith))

pub returns-clause-free : goal.returns-clause-free
returns-clause-free c =
    rw (c.in_ok-above.ensures, c.in_ok-height.ensures, c.in_ok-size.ensures)
    (made_obeys c.in_ok-parent.parent.items c.args.count c.in_ok-parent.ensures.long c.in_ok-parent.ensures.each
    c.requires)
