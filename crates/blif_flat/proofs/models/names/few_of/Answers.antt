use Rattle.blif_flat.proofs.Indexes.{next_named}
use Rattle.blif_flat.proofs.models.names.few_of.Goals as goal

pub loop-item-preserved : goal.loop-item-preserved
loop-item-preserved c = next_named c.loop-item.few.items c.add.new.few.items c.args.named.now
    c.loop-item.item-index c.item-item.result c.as_slice.result _ c.loop-item-test.true c.item-item.is
    c.as_slice.ensures c.in_ok-add.ensures c.loop-item.invariant
