use Rattle.mig_from_netlist.proofs.GateValues.{result_same, and_value}
use Rattle.mig_from_netlist.proofs.gates.and.Goals as goal

pub returns-clause-given : goal.returns-clause-given
returns-clause-given c =
    result_same c.maj.result c.maj.new.self _ _ (and_value c.maj.new.self c.args.x c.args.y) c.maj.ensures.given
