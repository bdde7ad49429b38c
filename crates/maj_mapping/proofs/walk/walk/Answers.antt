-- Each turn of the loop is a turn of the walk.
use Rattle.std.proofs.Common.{arith}
use Rattle.maj_mapping.proofs.Ordered.{ordered}
use Rattle.maj_mapping.proofs.Leaving.{found_at}
use Rattle.maj_mapping.proofs.Walking.{top_visit, leave_room, next_leave, next_known, next_new, begin_known, begin_new}
use Rattle.maj_mapping.proofs.Walking.{input_signal}
use Rattle.maj_mapping.proofs.walk.walk.Goals as goal
use Rattle.maj_mapping.proofs.walk.walk.Goals.{then-is_none+in_ok-push, else-is_none}

pub loop-visit-init : goal.loop-visit-init
loop-visit-init c = elim c.if-is_none.branch [
  | then-is_none+in_ok-push w ↦ rw (w.stack-is, w.in_ok-push.ensures.items, c.new-stack.ensures.items)
      (begin_new _ (ordered c.args.net.now c.requires.net) _ _ _ _ _ c.requires.root c.requires.standing c.get.ensures
      c.is_none.ensures w.if-is_none.true)
  | else-is_none w ↦ rw (w.stack-is, c.new-stack.ensures.items)
      (begin_known _ _ _ _ _ _ c.requires.standing c.get.ensures c.is_none.ensures w.if-is_none.false)
]

pub overflow_sub-visit : goal.overflow_sub-visit
overflow_sub-visit c = let t = top_visit _ (ordered c.args.net.now c.requires.net) _ _ _ _ _ _ c.in-Some.ensures.items
    c.loop-visit.invariant in let n = c.input_count-inputs.ensures.count in omega (arith, t.1)

pub get-requires-in-Some : goal.get-requires-in-Some
get-requires-in-Some c =
    let t = top_visit _ (ordered c.args.net.now c.requires.net) _ _ _ _ _ _ c.in-Some.ensures.items
    c.loop-visit.invariant in
    let n = c.input_count-inputs.ensures.count in
    rw (c.defs.ensures, n) (omega (arith, t.1, t.2))

pub get-requires-then-visit-len : goal.get-requires-then-visit-len
get-requires-then-visit-len c =
    let low = input_signal _ (ordered c.args.net.now c.requires.net) _ _ _ _
    (found_at c.args.net.now _ _ c.in-Some.visit.signal _ c.defs.ensures c.input_count-inputs.ensures.count
    c.get-in-Some.ensures) c.get-below.ensures in
    let size = c.loop-visit.invariant.standing.sized in
    omega arith

pub leave-requires-clause-defined : goal.leave-requires-clause-defined
leave-requires-clause-defined c =
    (top_visit _ (ordered c.args.net.now c.requires.net) _ _ _ _ _ _ c.in-Some.ensures.items c.loop-visit.invariant).1

pub leave-requires-clause-within : goal.leave-requires-clause-within
leave-requires-clause-within c =
    (top_visit _ (ordered c.args.net.now c.requires.net) _ _ _ _ _ _ c.in-Some.ensures.items c.loop-visit.invariant).2

pub loop-visit-smaller-in-Continue-branch-3 : goal.loop-visit-smaller-in-Continue-branch-3
loop-visit-smaller-in-Continue-branch-3 c =
    rw (c.in_ok-push-3.ensures.items, c.in_ok-push-2.ensures.items)
    (next_new _ (ordered c.args.net.now c.requires.net) _ _ _ _ _ _ c.in-Some.ensures.items c.loop-visit.invariant _ _ _
    _ (found_at c.args.net.now _ _ c.in-Some.visit.signal _ c.defs.ensures c.input_count-inputs.ensures.count
    c.get-in-Some.ensures) c.get-below.ensures c.get-then-visit-len.ensures c.is_none-then-visit-len.ensures
    c.if-is_none-2.true).fewer

pub loop-visit-preserved-in-Continue-branch-3 : goal.loop-visit-preserved-in-Continue-branch-3
loop-visit-preserved-in-Continue-branch-3 c =
    rw (c.in_ok-push-3.ensures.items, c.in_ok-push-2.ensures.items)
    (next_new _ (ordered c.args.net.now c.requires.net) _ _ _ _ _ _ c.in-Some.ensures.items c.loop-visit.invariant _ _ _
    _ (found_at c.args.net.now _ _ c.in-Some.visit.signal _ c.defs.ensures c.input_count-inputs.ensures.count
    c.get-in-Some.ensures) c.get-below.ensures c.get-then-visit-len.ensures c.is_none-then-visit-len.ensures
    c.if-is_none-2.true).walking

pub loop-visit-smaller-else-is_none-2 : goal.loop-visit-smaller-else-is_none-2
loop-visit-smaller-else-is_none-2 c =
    rw c.in_ok-push-2.ensures.items
    (next_known _ (ordered c.args.net.now c.requires.net) _ _ _ _ _ _ c.in-Some.ensures.items c.loop-visit.invariant
    _ _ _ _ (found_at c.args.net.now _ _ c.in-Some.visit.signal _ c.defs.ensures c.input_count-inputs.ensures.count
    c.get-in-Some.ensures) c.get-below.ensures c.get-then-visit-len.ensures c.is_none-then-visit-len.ensures
    c.if-is_none-2.false).fewer

pub loop-visit-preserved-else-is_none-2 : goal.loop-visit-preserved-else-is_none-2
loop-visit-preserved-else-is_none-2 c =
    rw c.in_ok-push-2.ensures.items
    (next_known _ (ordered c.args.net.now c.requires.net) _ _ _ _ _ _ c.in-Some.ensures.items c.loop-visit.invariant
    _ _ _ _ (found_at c.args.net.now _ _ c.in-Some.visit.signal _ c.defs.ensures c.input_count-inputs.ensures.count
    c.get-in-Some.ensures) c.get-below.ensures c.get-then-visit-len.ensures c.is_none-then-visit-len.ensures
    c.if-is_none-2.false).walking

pub loop-visit-smaller : goal.loop-visit-smaller
loop-visit-smaller c = (next_leave _ (ordered c.args.net.now c.requires.net) _ _ _ _ _ _ c.in-Some.ensures.items
    c.loop-visit.invariant _ _ _
    (found_at c.args.net.now _ _ c.in-Some.visit.signal _ c.defs.ensures c.input_count-inputs.ensures.count
    c.get-in-Some.ensures) (let size = c.len.ensures in let past = c.if-visit-len.false in omega arith)
    c.in_ok-leave.ensures.left c.in_ok-leave.ensures.standing).fewer

pub loop-visit-preserved : goal.loop-visit-preserved
loop-visit-preserved c = (next_leave _ (ordered c.args.net.now c.requires.net) _ _ _ _ _ _ c.in-Some.ensures.items
    c.loop-visit.invariant _ _ _
    (found_at c.args.net.now _ _ c.in-Some.visit.signal _ c.defs.ensures c.input_count-inputs.ensures.count
    c.get-in-Some.ensures) (let size = c.len.ensures in let past = c.if-visit-len.false in omega arith)
    c.in_ok-leave.ensures.left c.in_ok-leave.ensures.standing).walking

pub leave-requires-clause-room : goal.leave-requires-clause-room
leave-requires-clause-room c = leave_room _ (ordered c.args.net.now c.requires.net) _ _ _ _ _ _ c.in-Some.ensures.items
    c.loop-visit.invariant _ _
    (found_at c.args.net.now _ _ c.in-Some.visit.signal _ c.defs.ensures c.input_count-inputs.ensures.count
    c.get-in-Some.ensures) (let size = c.len.ensures in let past = c.if-visit-len.false in omega arith) c.requires.room
