use Rattle.std.proofs.Common.{arith}
use Rattle.union_find.proofs.Bounds.{step, falls, at_the_root}
use Rattle.union_find.proofs.tables.find.Goals as goal

pub overflow_add-gained : goal.overflow_add-gained
overflow_add-gained c =
    let s = step _ _ _ _ c.requires.tables.known c.loop-at.invariant in
    omega (arith, s.most, c.requires.tables.few)

pub overflow_sub-gained : goal.overflow_sub-gained
overflow_sub-gained c = (step _ _ _ _ c.requires.tables.known c.loop-at.invariant).least

pub loop-at-smaller : goal.loop-at-smaller
loop-at-smaller c = falls _ _ c.requires.tables.known c.loop-at.invariant.below c.loop-at-test.true

pub loop-at-preserved : goal.loop-at-preserved
loop-at-preserved c = (step _ _ _ _ c.requires.tables.known c.loop-at.invariant).next

pub overflow_add-result : goal.overflow_add-result
overflow_add-result c =
    let s = at_the_root _ _ _ _ c.requires.tables c.loop-at.invariant c.loop-at-test.false in
    omega (arith, s.most, c.requires.tables.few)

pub overflow_sub-result : goal.overflow_sub-result
overflow_sub-result c = (at_the_root _ _ _ _ c.requires.tables c.loop-at.invariant c.loop-at-test.false).least

pub returns : goal.returns
returns c = (at_the_root _ _ _ _ c.requires.tables c.loop-at.invariant c.loop-at-test.false).found
