use Rattle.poly_cut.proofs.Readying.{more_at}
use Rattle.poly_cut.proofs.ready.ready_items.Goals as goal

pub loop-item-preserved : goal.loop-item-preserved
loop-item-preserved c =
    more_at c.args.structures.now c.args.items.now c.loop-item.item-index c.item-item.result c.loop-item.ready
    c.add_ready.new.ready
    c.loop-item-test.true c.item-item.is c.loop-item.invariant c.in_ok-add_ready.ensures
