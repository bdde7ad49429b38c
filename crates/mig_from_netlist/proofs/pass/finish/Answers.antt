use Rattle.std.proofs.Common.{◌∙◌}
use Rattle.mig_from_netlist.proofs.Signals.{literals_there, is_graph_of}
use Rattle.mig_from_netlist.proofs.pass.finish.Goals as goal

pub finish-graph-requires-clause-below : goal.finish-graph-requires-clause-below
finish-graph-requires-clause-below c =
    literals_there c.args.net.now c.args.builder c.args.literal_of.now c.requires.mapped c.as_slice.result.now
    c.in-Some.outputs.items (rw c.in-Some.is at c.in_ok-outputs.ensures)

pub returns-in-Some : goal.returns-in-Some
returns-in-Some c =
    is_graph_of c.args.net.now c.args.builder c.args.literal_of.now c.as_slice.result.now c.in-Some.outputs.items _
    c.requires.net c.requires.mapped (c.as_slice.ensures ∙ c.outputs.ensures)
    (rw c.in-Some.is at c.in_ok-outputs.ensures) c.finish-graph.ensures c.known.ensures
