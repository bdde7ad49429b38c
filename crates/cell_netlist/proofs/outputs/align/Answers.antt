use Rattle.std.proofs.Common.{refl}
use Rattle.cell_netlist.proofs.Shown.{aligned_none, aligned_more, aligned_not}
use Rattle.cell_netlist.proofs.outputs.align.Goals as goal

pub loop-node-init : goal.loop-node-init
loop-node-init c = aligned_none _ _ _

pub loop-node-preserved : goal.loop-node-preserved
loop-node-preserved c =
    aligned_more _ _ _ _ _ _ _ c.loop-node.invariant refl (c.join.ensures.joined c.if-not-join.false)

pub returns-then-not-join-clause-refused : goal.returns-then-not-join-clause-refused
returns-then-not-join-clause-refused c is =
    aligned_not _ _ _ _ _ _ c.loop-node.invariant c.loop-node-test.true refl (c.join.ensures.refused c.if-not-join.true)
