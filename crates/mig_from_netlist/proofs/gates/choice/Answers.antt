use Rattle.mig_from_netlist.proofs.GateValues.{result_same, choice_value}
use Rattle.mig_from_netlist.proofs.gates.choice.Goals as goal

pub returns-clause-given : goal.returns-clause-given
returns-clause-given c = result_same c.or.result c.or.new.builder _ _
    (choice_value c.and.new.builder c.and-2.new.builder c.or.new.builder c.args.x _ c.args.high c.args.low _ _
    c.turned.ensures c.in_ok-second.ensures.grown c.or.ensures.grown c.in_ok-first.ensures.given
    c.in_ok-second.ensures.given)
    c.or.ensures.given
