use Rattle.std.proofs.Common.{List, ℕ, Bool, map, sym, ap, ◌∙◌, subst}
use Rattle.mig.specs.Code.Needed.{AreNeeded}
use Rattle.mig.specs.Code.Rebuilding.{carried}
use Rattle.mig.proofs.RebuiltGraphs.{outputs_below, is_rebuilt}
use Rattle.mig.proofs.rebuilt.rebuilt.Goals as goal

pub finish-requires-clause-below : goal.finish-requires-clause-below
finish-requires-clause-below c =
    let graph = c.args.graph.now in
    outputs_below graph c.known.ensures _ _ c.known-2.ensures c.in_ok-found.found.items c.in_ok-found.ensures.carried
    c.in_ok-found.ensures.all
    (subst (λ (ms : List Bool). AreNeeded graph.inputs graph.nodes graph.outputs ms)
    (sym c.deref.ensures.value) c.in_ok-marks.ensures).of_outputs c.in_ok-outputs.outputs.items
    (c.in_ok-outputs.ensures ∙ ap (λ (ls : List ℕ). map (carried ls) c.outputs.result.now) c.deref-2.ensures.value
    ∙ ap (map (carried c.in_ok-found.found.items)) c.outputs.ensures)

pub returns-clause-made : goal.returns-clause-made
returns-clause-made c =
    let graph = c.args.graph.now in
    is_rebuilt graph c.known.ensures _ _ c.known-2.ensures c.in_ok-found.found.items c.in_ok-found.ensures.carried
    c.in_ok-found.ensures.all
    (subst (λ (ms : List Bool). AreNeeded graph.inputs graph.nodes graph.outputs ms)
    (sym c.deref.ensures.value) c.in_ok-marks.ensures).of_outputs c.in_ok-outputs.outputs.items c.finish.result
    (c.in_ok-outputs.ensures ∙ ap (λ (ls : List ℕ). map (carried ls) c.outputs.result.now) c.deref-2.ensures.value
    ∙ ap (map (carried c.in_ok-found.found.items)) c.outputs.ensures)
    c.finish.ensures
