use Rattle.std.proofs.Common.{arith, ap, length, length-append, [], ◌∷◌}
use Rattle.poly_cut.proofs.Readying.{entered}
use Rattle.poly_cut.proofs.ready.ready_table.Goals as goal

pub loop-number-preserved : goal.loop-number-preserved
loop-number-preserved c =
    let longer = ap length c.in_ok-push.ensures.items in
    let by_one = length-append c.loop-number.table.items (c.in_ok-entry.field-0 ∷ []) in
    let size = c.loop-number.invariant.size in
    record {
      size = omega arith;
      kept = entered c.args.structures.now c.loop-number.table.items c.push.new.self.items c.loop-number.number
          c.index-structures-number.result c.in_ok-entry.field-0 c.in_ok-push.ensures.items size c.loop-number-test.true
          c.index-structures-number.is c.loop-number.invariant.kept c.in_ok-entry.ensures;
    }
