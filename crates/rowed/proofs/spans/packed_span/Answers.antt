use Rattle.std.proofs.Common.{◌≤◌, arith}
use Rattle.rowed.proofs.SpanLaws.{at_most_three, packed_few}
use Rattle.rowed.proofs.spans.packed_span.Goals as goal

pub overflow_add-span : goal.overflow_add-span
overflow_add-span c =
    let small : c.slots.result ≤ 3 = rw c.slots.ensures (at_most_three _) in
    omega (arith, packed_few c.args.cells.now)
