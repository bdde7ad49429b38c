use Rattle.mig_from_netlist.proofs.GateValues.{result_same}
use Rattle.mig_from_netlist.proofs.Decomposing.{complements_value}
use Rattle.mig_from_netlist.proofs.decompose.join_complements.Goals as goal

pub returns-clause-given : goal.returns-clause-given
returns-clause-given c = result_same c.differ.result c.differ.new.builder _ _
    (complements_value c.args.inputs.now c.requires.few c.args.table c.args.x c.args.parts c.requires.parts
    c.requires.at c.args.builder.now c.differ.new.builder c.differ.ensures.grown c.args.low c.requires.low
    c.requires.other)
    c.differ.ensures.given
