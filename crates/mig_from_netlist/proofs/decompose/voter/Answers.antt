use Rattle.mig_from_netlist.proofs.Voting.{gives_input, gives_turned_input}
use Rattle.mig_from_netlist.proofs.decompose.voter.Goals as goal

pub returns-then-who : goal.returns-then-who
returns-then-who c = λ b few there. gives_turned_input c.args.inputs.now c.args.who.place c.in_ok-literal.literal
    c.mask-table.result c.turned.result b c.if-who-ge6.false c.turned.ensures few there
    c.in_ok-literal.ensures.some c.mask-table.ensures

pub returns-else-who : goal.returns-else-who
returns-else-who c = λ b few there. gives_input c.args.inputs.now c.args.who.place c.in_ok-literal.literal
    c.mask-table.result b c.if-who-ge6.false few there c.in_ok-literal.ensures.some c.mask-table.ensures
