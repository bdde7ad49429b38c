use Rattle.std.proofs.Common.{List, ℕ, map, ap, ◌∙◌}
use Rattle.mig_replace.specs.Code.Cones.{carried}
use Rattle.mig_replace.proofs.Carrying.{outputs_below, is_rebuilt}
use Rattle.mig_merge.proofs.merged.merged.Goals as goal

pub finish-requires-clause-below : goal.finish-requires-clause-below
finish-requires-clause-below c =
    outputs_below c.args.graph.now c.known.ensures _ c.known-2.ensures c.in_ok-found.found.items
    c.in_ok-found.ensures.carried c.in_ok-found.ensures.whole c.in_ok-outputs.outputs.items
    (c.in_ok-outputs.ensures ∙ ap (λ (ls : List ℕ). map (carried ls) c.outputs.result.now) c.as_slice.ensures.value
    ∙ ap (map (carried c.in_ok-found.found.items)) c.outputs.ensures)

pub returns : goal.returns
returns c =
    is_rebuilt c.args.graph.now c.known.ensures _ c.known-2.ensures c.in_ok-found.found.items
    c.in_ok-found.ensures.carried c.in_ok-found.ensures.whole c.in_ok-outputs.outputs.items c.finish.result
    (c.in_ok-outputs.ensures ∙ ap (λ (ls : List ℕ). map (carried ls) c.outputs.result.now) c.as_slice.ensures.value
    ∙ ap (map (carried c.in_ok-found.found.items)) c.outputs.ensures)
    c.finish.ensures
