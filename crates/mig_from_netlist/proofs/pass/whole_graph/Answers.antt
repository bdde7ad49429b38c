use Rattle.std.proofs.Common.{ap, ◌∙◌, length}
use Rattle.mig_from_netlist.proofs.Signals.{first_mapped}
use Rattle.mig_from_netlist.proofs.pass.whole_graph.Goals as goal

pub walk-requires-clause-mapped : goal.walk-requires-clause-mapped
walk-requires-clause-mapped c =
    first_mapped c.args.net.now c.in_ok-builder.builder c.in_ok-literal_of.literal_of c.input_count-inputs.result
    c.len.result c.input_count-inputs.ensures.count
    (c.len.ensures ∙ ap length c.defs.ensures) c.in_ok-builder.ensures.empty c.in_ok-literal_of.ensures
