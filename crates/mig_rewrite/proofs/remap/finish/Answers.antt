use Rattle.mig_rewrite.proofs.Carrying.{carried_there, is_rebuilt}
use Rattle.mig_rewrite.proofs.remap.finish.Goals as goal

pub finish-made-requires-clause-below : goal.finish-made-requires-clause-below
finish-made-requires-clause-below c =
    carried_there c.args.graph.now c.args.builder c.args.found.now c.requires c.outputs.result.now
    c.in-Some.outputs.items (rw c.in-Some.is at c.in_ok-outputs.ensures)

pub returns : goal.returns
returns c =
    is_rebuilt c.args.graph.now c.args.builder c.args.found.now c.requires c.outputs.result.now c.in-Some.outputs.items
    _ c.known.ensures c.outputs.ensures (rw c.in-Some.is at c.in_ok-outputs.ensures)
    c.finish-made.ensures c.known-2.ensures
