use Rattle.std.proofs.Common.{◌∙◌}
use Rattle.poly_cut.proofs.Counting.{one_more}
use Rattle.poly_cut.proofs.counts.items_count.Goals as goal

pub loop-item-preserved : goal.loop-item-preserved
loop-item-preserved c = λ of tell.
    c.saturating_add-count.ensures ∙ one_more c.args.kinds of c.args.items.now c.loop-item.item-index c.item-item.result
    c.loop-item.count c.item_count.result c.loop-item-test.true c.item-item.is (c.loop-item.invariant of tell)
    (c.item_count.ensures of tell)
