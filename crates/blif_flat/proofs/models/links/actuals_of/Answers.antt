use Rattle.std.proofs.Common.{◌∙◌, ap}
use Rattle.std.proofs.lemmas.List.{take_all}
use Rattle.blif_flat.specs.Code.Joins.{actuals_in}
use Rattle.blif_flat.proofs.Joining.{outputs_actuals}
use Rattle.blif_flat.proofs.models.links.actuals_of.Goals as goal

pub returns : goal.returns
returns c = c.loop-port.invariant
    ∙ ap (actuals_in c.args.call.now)
    (take_all c.loop-port.port-index c.deref-port-items.result.now c.loop-port-test.false
    ∙ c.deref-port-items.ensures.value ∙ c.in_ok-ports.ensures)
    ∙ outputs_actuals c.args.call.now c.args.outputs.now
