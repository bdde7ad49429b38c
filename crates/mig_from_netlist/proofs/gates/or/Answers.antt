use Rattle.mig_from_netlist.proofs.GateValues.{result_same, or_value}
use Rattle.mig_from_netlist.proofs.gates.or.Goals as goal

pub returns-clause-given : goal.returns-clause-given
returns-clause-given c =
    result_same c.maj.result c.maj.new.self _ _ (or_value c.maj.new.self c.args.x c.args.y) c.maj.ensures.given
