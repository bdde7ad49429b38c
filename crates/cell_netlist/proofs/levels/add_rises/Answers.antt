use Rattle.cell_netlist.proofs.Levelled.{added_none, added_more, added_not}
use Rattle.cell_netlist.proofs.levels.add_rises.Goals as goal

pub loop-signal-init : goal.loop-signal-init
loop-signal-init c = added_none _ _ _ _

pub loop-signal-preserved : goal.loop-signal-preserved
loop-signal-preserved c =
    added_more _ _ _ _ _ _ _ _ c.loop-signal.invariant c.node_of.ensures (c.join.ensures.joined c.if-not-join.false)

pub returns-then-not-join-clause-refused : goal.returns-then-not-join-clause-refused
returns-then-not-join-clause-refused c is =
    added_not _ _ _ _ _ _ _ c.loop-signal.invariant c.loop-signal-test.true c.node_of.ensures
    (c.join.ensures.refused c.if-not-join.true)
