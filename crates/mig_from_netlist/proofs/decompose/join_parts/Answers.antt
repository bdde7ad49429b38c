use Rattle.mig_from_netlist.proofs.GateValues.{result_same}
use Rattle.mig_from_netlist.proofs.Decomposing.{rising_value, falling_value, choice_is_value}
use Rattle.mig_from_netlist.proofs.decompose.join_parts.Goals as goal

pub returns-then-implies-clause-given : goal.returns-then-implies-clause-given
returns-then-implies-clause-given c = result_same c.maj.result c.maj.new.self _ _
    (rising_value c.args.inputs.now c.requires.few c.args.table c.args.split.x c.args.parts c.requires.parts
    c.requires.at c.args.builder.now c.maj.new.self c.maj.ensures.grown c.args.split.high c.args.split.low
    c.requires.high c.requires.low (c.implies.ensures c.if-implies.true))
    c.maj.ensures.given

pub returns-then-implies-2-clause-given : goal.returns-then-implies-2-clause-given
returns-then-implies-2-clause-given c = result_same c.maj-then-implies-2.result c.maj-then-implies-2.new.self _ _
    (falling_value c.args.inputs.now c.requires.few c.args.table c.args.split.x c.args.parts c.requires.parts
    c.requires.at c.args.builder.now c.maj-then-implies-2.new.self c.maj-then-implies-2.ensures.grown
    c.args.split.high c.args.split.low c.requires.high c.requires.low _ c.turned.ensures
    (c.implies-2.ensures c.if-implies-2.true))
    c.maj-then-implies-2.ensures.given

pub returns-clause-given : goal.returns-clause-given
returns-clause-given c = result_same c.choice.result c.choice.new.builder _ _
    (choice_is_value c.args.inputs.now c.requires.few c.args.table c.args.split.x c.args.parts c.requires.parts
    c.requires.at c.args.builder.now c.choice.new.builder c.choice.ensures.grown c.args.split.high c.args.split.low
    c.requires.high c.requires.low)
    c.choice.ensures.given
