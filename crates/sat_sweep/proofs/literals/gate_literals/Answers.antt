use Rattle.std.proofs.Common.{◌≡◌, length, subst, arith}
use Rattle.sat_sweep.specs.Code.GateLiterals.{AreLiterals}
use Rattle.sat_sweep.proofs.Making.{making_more}
use Rattle.sat_sweep.proofs.literals.gate_literals.Goals as goal

pub loop-gate-preserved : goal.loop-gate-preserved
loop-gate-preserved c =
    making_more _ _ _ c.args.gates.now _ c.loop-gate.invariant c.requires c.loop-gate-test.true _ c.deref.ensures.value
    c.gate_literal.new.graph c.in_ok-literal.ensures.grown c.in_ok-literal.literal c.in_ok-literal.ensures.given _
    c.in_ok-push.ensures.items

pub returns-clause-literals : goal.returns-clause-literals
returns-clause-literals c =
    subst (λ n. AreLiterals c.loop-gate.graph c.loop-gate.literals.items c.args.gates.now n)
    (let z : c.loop-gate.gate-index ≡ length c.args.gates.now = omega arith in z) c.loop-gate.invariant.literals_are
