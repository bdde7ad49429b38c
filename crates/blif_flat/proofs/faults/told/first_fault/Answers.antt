use Rattle.std.proofs.Common.{◌∙◌, ap}
use Rattle.blif_flat.specs.Code.Joining.{model_told}
use Rattle.blif_flat.proofs.Ported.{told_models, told_end}
use Rattle.blif_flat.proofs.LineFaults.{told_first}
use Rattle.blif_flat.proofs.faults.told.first_fault.Goals as goal

pub loop-model-preserved : goal.loop-model-preserved
loop-model-preserved c = told_models c.args.models.now c.loop-model.best c.in_ok-best.best _ c.args.models.now
    c.loop-model.model-index c.model-item.result c.loop-model-test.true c.model-item.is
    (c.in_ok-best.ensures ∙ ap (λ models. model_told models c.loop-model.best c.model-item.result)
    c.requires) c.loop-model.invariant

pub returns : goal.returns
returns c = told_first c.args.models.now c.loop-model.best
    (told_end c.args.models.now c.loop-model.best _ c.args.models.now c.loop-model.model-index
    c.loop-model-test.false c.loop-model.invariant)
