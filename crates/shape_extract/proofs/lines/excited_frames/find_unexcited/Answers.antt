use Rattle.std.proofs.Common.{arith}
use Rattle.shape_extract.proofs.ExcitedEach.{judged_true, judged_false, excited_next, excited_all, excited_none}
use Rattle.shape_extract.proofs.ExcitedEach.{unexcited_first}
use Rattle.shape_extract.proofs.lines.excited_frames.find_unexcited.Goals as goal

pub returns-then-branch-clause-finds : goal.returns-then-branch-clause-finds
returns-then-branch-clause-finds c = unexcited_first _ _ c.loop-f.invariant
    (judged_true _ _ _ c.in_ok-is_unexcited.ensures c.if-branch.true)

pub loop-f-preserved : goal.loop-f-preserved
loop-f-preserved c = excited_next _ _ c.loop-f.invariant
    (judged_false _ _ _ c.in_ok-is_unexcited.ensures c.if-branch.false)

pub returns-clause-finds : goal.returns-clause-finds
returns-clause-finds c = excited_none _
    (excited_all c.args.shapes.now c.loop-f.f (omega (arith, c.loop-f-test.false)) c.loop-f.invariant)

pub returns-clause-excited : goal.returns-clause-excited
returns-clause-excited c = excited_all c.args.shapes.now c.loop-f.f
    (omega (arith, c.loop-f-test.false)) c.loop-f.invariant
