use Rattle.std.proofs.Common.{◌≡◌, ◌<◌, ◌∙◌, length, refl, arith, rules}
use Rattle.std.specs.Prelude.{slice_index}
use Rattle.std.proofs.lemmas.Grind.{get_or_default_zero}
use Rattle.shape_extract.proofs.NetWalk.{root_begun, root_kept, walked_none, walked_on, walked_past, walked_nets}
use Rattle.shape_extract.proofs.NetWalk.{walked_told}
use Rattle.shape_extract.proofs.connectivity.net_walk.walk_all.Goals as goal
use Rattle.shape_extract.proofs.connectivity.net_walk.walk_all.Goals.{then-index-count+in_ok-push+in_ok-grow}
use Rattle.shape_extract.proofs.connectivity.net_walk.walk_all.Goals.{else-index-count}

pub grow-requires-clause-begun : goal.grow-requires-clause-begun
grow-requires-clause-begun c =
    let lt : c.loop-i.i < length c.loop-i.walk.labels.items = omega (arith, c.loop-i.invariant.walk.long) in
    let n : c.len-start.result ≡ length c.loop-i.walk.order.items = search rules in
    let is : c.index.result.now ≡ slice_index c.loop-i.walk.labels.items c.loop-i.i = c.index.ensures
    ∙ get_or_default_zero _ _ _ lt in
    rw n (root_begun c.args.kinds.now c.loop-i.walk _ c.loop-i.i c.loop-i.invariant (omega arith)
    (omega (arith, is, c.if-index-count.true)) refl c.in_ok-push.ensures.items refl)

pub grow-requires-clause-lowest : goal.grow-requires-clause-lowest
grow-requires-clause-lowest c = λ k lk. root_kept (length c.args.kinds.now) c.loop-i.walk.labels.items c.loop-i.i k
    (omega arith) (omega (arith, c.loop-i.invariant.walk.long)) (c.loop-i.invariant.reached k lk)

pub loop-i-init : goal.loop-i-init
loop-i-init c = walked_none _ _ c.requires.unbegun

pub loop-i-preserved : goal.loop-i-preserved
loop-i-preserved c =
    let lt : c.loop-i.i < length c.loop-i.walk.labels.items = omega (arith, c.loop-i.invariant.walk.long) in
    let is : c.index.result.now ≡ slice_index c.loop-i.walk.labels.items c.loop-i.i = c.index.ensures
    ∙ get_or_default_zero _ _ _ lt in
    elim c.if-index-count.branch [
      | then-index-count+in_ok-push+in_ok-grow w ↦ rw w.walk-is
          (walked_on c.args.kinds.now c.loop-i.walk _ _ c.loop-i.i c.loop-i.invariant (omega arith) refl
          w.in_ok-grow.ensures)
      | else-index-count w ↦ rw w.walk-is (walked_past c.args.kinds.now c.loop-i.walk c.loop-i.i c.loop-i.invariant
          (omega (arith, is, w.if-index-count.false)))
    ]

pub returns-clause-nets : goal.returns-clause-nets
returns-clause-nets c = walked_nets c.args.kinds.now c.loop-i.walk c.loop-i.i (omega arith) c.loop-i.invariant

pub returns-clause-told : goal.returns-clause-told
returns-clause-told c = walked_told c.args.kinds.now c.loop-i.walk c.loop-i.i (omega arith) c.loop-i.invariant
