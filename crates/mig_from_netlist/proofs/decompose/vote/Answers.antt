use Rattle.mig_from_netlist.proofs.GateValues.{gives_same}
use Rattle.mig_from_netlist.proofs.Voting.{votes_value}
use Rattle.mig_from_netlist.proofs.decompose.vote.Goals as goal

pub returns-clause-given : goal.returns-clause-given
returns-clause-given c = gives_same c.maj.new.self _ _ _
    (votes_value c.args.inputs.now c.args.table c.majority_table.result c.args.x c.args.y c.args.z c.args.builder.now
    c.maj.new.self c.requires.few c.in_ok-maj.ensures.grown c.requires.x c.requires.y c.requires.z
    c.majority_table.ensures c.if-majority_table-table.false)
    c.in_ok-maj.ensures.given
