use Rattle.blif_flat.proofs.Sizing.{size_told}
use Rattle.blif_flat.proofs.models.sizes.design_size.Goals as goal

pub returns : goal.returns
returns c = size_told c.args.models.now c.args.order.now c.in_ok-table.table.items _ c.index-models-0.result _
    c.requires.order c.requires.some c.in_ok-table.ensures c.deref.ensures.value c.index-models-0.is
    (c.model_size.ensures c.args.models.now c.requires.numbers)
