use Rattle.mig_from_netlist.proofs.GateValues.{result_same, differ_value}
use Rattle.mig_from_netlist.proofs.gates.differ.Goals as goal

pub returns-clause-given : goal.returns-clause-given
returns-clause-given c = result_same c.and-2.result c.and-2.new.builder _ _
    (differ_value c.or.new.builder c.and.new.builder c.and-2.new.builder c.args.x c.args.y _ _ _ c.turned.ensures
    c.in_ok-both.ensures.grown c.and-2.ensures.grown c.in_ok-some.ensures.given c.in_ok-both.ensures.given)
    c.and-2.ensures.given
