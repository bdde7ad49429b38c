use Rattle.std.proofs.Common.{inr}
use Rattle.mig_from_netlist.proofs.Joining.{one_literal, all_literals}
use Rattle.mig_from_netlist.proofs.cubes.literals.Goals as goal

pub returns-in_default-clause-values : goal.returns-in_default-clause-values
returns-in_default-clause-values c = λ v none. all_literals c.args.plane.now c.args.inputs.now _ _ v none
    (inr c.in_default.ensures.none) c.loop-i.invariant

pub loop-i-preserved : goal.loop-i-preserved
loop-i-preserved c =
    one_literal c.args.plane.now c.args.inputs.now _ _ c.loop-i.i c.in-Some.input _ c.loop-i-test.true
    c.in-Some.ensures.some c.in_ok-push_literal.ensures c.loop-i.invariant
