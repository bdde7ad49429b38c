use Rattle.channel_route.proofs.Descent.{level_read, child_asks, stands_below}
use Rattle.channel_route.proofs.levels.descend.Goals as goal

pub child-at-requires : goal.child-at-requires
child-at-requires c = child_asks _ _ _ _ _ c.requires.levels c.loop-level-test.true c.loop-level.invariant
    (level_read _ _ _ _ _ _ c.loop-level.invariant c.index-levels-level.is c.as_slice.ensures)

pub loop-level-preserved : goal.loop-level-preserved
loop-level-preserved c = stands_below _ _ _ _ _ _ c.requires.levels c.loop-level-test.true c.loop-level.invariant
    (level_read _ _ _ _ _ _ c.loop-level.invariant c.index-levels-level.is c.as_slice.ensures) c.child-at.ensures
