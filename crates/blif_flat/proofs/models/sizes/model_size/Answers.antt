use Rattle.std.specs.List.{sum_by}
use Rattle.blif_flat.specs.Designs.{model_number}
use Rattle.blif_flat.specs.DesignSize.{definition_size}
use Rattle.blif_flat.specs.Code.Sizes.{told_at}
use Rattle.blif_flat.proofs.Sizing.{sized_more, sized_all}
use Rattle.blif_flat.proofs.models.sizes.model_size.Goals as goal

pub loop-call-preserved : goal.loop-call-preserved
loop-call-preserved c = λ models is.
    sized_more (λ call. told_at c.args.table.now (model_number models call.model))
    (sum_by definition_size c.args.model.now.defs) c.loop-call.call-index c.args.model.now.calls
    _ c.call-item.result _ _ _
    c.as_slice-call-items.ensures c.loop-call-test.true c.call-item.is (c.loop-call.invariant models is)
    (c.call_size.ensures models is) c.saturating_add-size.ensures

pub returns : goal.returns
returns c = λ models is.
    sized_all (λ call. told_at c.args.table.now (model_number models call.model))
    (sum_by definition_size c.args.model.now.defs) c.loop-call.call-index c.args.model.now.calls _ _
    c.as_slice-call-items.ensures c.loop-call-test.false (c.loop-call.invariant models is)
