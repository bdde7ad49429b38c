use Rattle.std.proofs.Common.{map, ap, ◌∙◌}
use Rattle.mig_replace.specs.Code.Cones.{carried}
use Rattle.mig_replace.proofs.Carrying.{outputs_below, is_rebuilt}
use Rattle.mig_replace.proofs.replaced.finished.Goals as goal

pub finish-requires-clause-below : goal.finish-requires-clause-below
finish-requires-clause-below c =
    outputs_below c.args.graph.now c.known.ensures _ c.known-2.ensures c.args.found.now
    c.requires.carried c.requires.whole c.in_ok-outputs.outputs.items
    (c.in_ok-outputs.ensures ∙ ap (map (carried c.args.found.now)) c.outputs.ensures)

pub returns : goal.returns
returns c =
    is_rebuilt c.args.graph.now c.known.ensures _ c.known-2.ensures c.args.found.now
    c.requires.carried c.requires.whole c.in_ok-outputs.outputs.items c.finish.result
    (c.in_ok-outputs.ensures ∙ ap (map (carried c.args.found.now)) c.outputs.ensures)
    c.finish.ensures
