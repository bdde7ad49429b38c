use Rattle.sat_sweep.proofs.Making.{zero_given, one_given, if_three}
use Rattle.sat_sweep.proofs.literals.gate_literal.Goals as goal

pub returns-in-Zero-clause-given : goal.returns-in-Zero-clause-given
returns-in-Zero-clause-given c = zero_given c.args.graph.now c.args.literals.now c.args.gate c.in-Zero.is

pub returns-in-One-clause-given : goal.returns-in-One-clause-given
returns-in-One-clause-given c = one_given c.args.graph.now c.args.literals.now c.args.gate c.in-One.is

pub returns-in-Maj-clause-given : goal.returns-in-Maj-clause-given
returns-in-Maj-clause-given c =
    if_three c.maj.result c.maj.new.self c.args.literals.now c.args.gate c.in-Maj.x c.in-Maj.y c.in-Maj.z _ _ _
    c.in-Maj.is c.literal_of-x.ensures c.literal_of-y.ensures c.literal_of-z.ensures c.maj.ensures.given
