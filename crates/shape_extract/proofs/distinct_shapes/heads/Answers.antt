use Rattle.std.proofs.Common.{◌≡◌, ℕ, ◌-◌, ◌++◌, length, take, drop, ap, ◌∙◌, arith}
use Rattle.std.proofs.Math.Seq.{take-append_seam}
use Rattle.geom.proofs.Filing.{read_at}
use Rattle.shape_extract.proofs.LeastHeads.{heads_first, goes_on, heads_more, heads_all}
use Rattle.shape_extract.proofs.distinct_shapes.heads.Goals as goal

pub loop-place-init : goal.loop-place-init
loop-place-init c = heads_first _ _ c.in_ok-order.ensures _ c.in_ok-heads.ensures

pub link-requires-clause-before : goal.link-requires-clause-before
link-requires-clause-before c =
    let order = c.in_ok-order.order.items in
    c.in_ok-order.ensures.within (c.loop-place.place - 1) c.index.result.now
    (read_at order (c.loop-place.place - 1) c.index.result.now (omega arith) c.index.ensures)

pub link-requires-clause-within : goal.link-requires-clause-within
link-requires-clause-within c =
    let order = c.in_ok-order.order.items in
    c.in_ok-order.ensures.within c.loop-place.place c.index-in-loop-place.result.now
    (read_at order c.loop-place.place c.index-in-loop-place.result.now (omega arith) c.index-in-loop-place.ensures)

pub loop-place-preserved : goal.loop-place-preserved
loop-place-preserved c =
    let order = c.in_ok-order.order.items in
    let before = read_at order (c.loop-place.place - 1) c.index.result.now (omega arith) c.index.ensures in
    let here = read_at order c.loop-place.place c.index-in-loop-place.result.now (omega arith)
    c.index-in-loop-place.ensures in
    let new = c.link.new.heads in
    let behind = drop (length new) c.loop-place.heads.items in
    let long : c.loop-place.heads.len ≡ length new =
    omega (arith, c.link.ensures.heads.long, c.loop-place.invariant.are.long) in
    let written : take c.loop-place.heads.len (new ++ behind) ≡ new =
    ap (λ (n : ℕ). take n (new ++ behind)) long ∙ take-append_seam new behind in
    let goes = goes_on _ _ c.in_ok-order.ensures _ _ _ _ c.loop-place.invariant c.loop-place.auto.place before here in
    rw written (heads_more _ _ c.in_ok-order.ensures _ _ _ _ c.loop-place.invariant here c.link.ensures.heads
    ((rw c.deref_mut.ensures.value at c.link.ensures.least) goes)
    (rw c.deref_mut.ensures.value at c.link.ensures.others))

pub returns-clause-least : goal.returns-clause-least
returns-clause-least c = heads_all _ _ c.in_ok-order.ensures _ _ (omega arith) c.loop-place.invariant
