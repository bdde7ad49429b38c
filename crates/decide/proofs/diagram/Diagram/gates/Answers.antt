use Rattle.std.proofs.Common.{◌≡◌, length, subst, arith}
use Rattle.decide.specs.Code.GateFunctions.{AreValues}
use Rattle.decide.proofs.Choosing.{grows_then}
use Rattle.decide.proofs.Gating.{making_begins, gate_reads, gate_inside, making_named, making_more}
use Rattle.decide.proofs.diagram.Diagram.gates.Goals as goal

pub loop-gate-init : goal.loop-gate-init
loop-gate-init c = making_begins c.args.self.now.table.nodes.keys _ c.args.gates.now c.in_ok-edges.ensures.items

pub gate-requires-clause-reads : goal.gate-requires-clause-reads
gate-requires-clause-reads c =
    gate_reads _ _ c.args.self.now.table.sound c.loop-gate.self.table.sound _ c.args.gates.now _ c.loop-gate.invariant
    c.requires c.loop-gate-test.true _ c.deref.ensures.value

pub gate-requires-clause-inside : goal.gate-requires-clause-inside
gate-requires-clause-inside c =
    gate_inside _ _ c.args.self.now.table.sound c.loop-gate.self.table.sound _ c.args.gates.now _ c.loop-gate.invariant
    c.requires c.loop-gate-test.true _ c.deref.ensures.value

pub returns-in_err-edge-clause-grows : goal.returns-in_err-edge-clause-grows
returns-in_err-edge-clause-grows c = grows_then _ _ _ c.loop-gate.invariant.grows c.gate.ensures.grows

pub returns-in_err-edge-clause-named : goal.returns-in_err-edge-clause-named
returns-in_err-edge-clause-named c =
    making_named _ _ c.args.self.now.table.sound c.loop-gate.self.table.sound _ c.args.gates.now _ c.loop-gate.invariant
    c.requires c.loop-gate-test.true _ c.deref.ensures.value c.gate.new.self.table.nodes.keys c.gate.ensures.named

pub returns-in_err-push-clause-grows : goal.returns-in_err-push-clause-grows
returns-in_err-push-clause-grows c = grows_then _ _ _ c.loop-gate.invariant.grows c.in_ok-edge.ensures.grows

pub returns-in_err-push-clause-named : goal.returns-in_err-push-clause-named
returns-in_err-push-clause-named c =
    making_named _ _ c.args.self.now.table.sound c.loop-gate.self.table.sound _ c.args.gates.now _ c.loop-gate.invariant
    c.requires c.loop-gate-test.true _ c.deref.ensures.value c.gate.new.self.table.nodes.keys
    c.in_ok-edge.ensures.named

pub loop-gate-preserved : goal.loop-gate-preserved
loop-gate-preserved c =
    making_more _ _ c.args.self.now.table.sound c.loop-gate.self.table.sound _ c.args.gates.now _ c.loop-gate.invariant
    c.requires c.loop-gate-test.true _ c.deref.ensures.value c.gate.new.self.table.nodes.keys
    c.gate.new.self.table.sound
    c.in_ok-edge.ensures.grows c.in_ok-edge.edge c.in_ok-edge.ensures.has c.in_ok-edge.ensures.named _
    c.in_ok-push.ensures.items

pub returns-clause-grows : goal.returns-clause-grows
returns-clause-grows c = c.loop-gate.invariant.grows

pub returns-clause-values : goal.returns-clause-values
returns-clause-values c =
    subst (λ n. AreValues c.loop-gate.self.table.nodes.keys c.loop-gate.edges.items c.args.gates.now n)
    (let z : c.loop-gate.gate-index ≡ length c.args.gates.now = omega arith in z) c.loop-gate.invariant.values

pub returns-clause-named : goal.returns-clause-named
returns-clause-named c = c.loop-gate.invariant.named
