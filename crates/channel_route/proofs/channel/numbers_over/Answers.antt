use Rattle.channel_route.proofs.Crossed.{over_yes, over_no}
use Rattle.std.proofs.Common.{◌∙◌, ap, Vec, Global, ℕ}
use Rattle.channel_route.proofs.channel.numbers_over.Goals as goal
use Rattle.channel_route.proofs.channel.numbers_over.Goals.{then-reaches+in_ok-push, else-reaches}

pub loop-number-preserved : goal.loop-number-preserved
loop-number-preserved c = elim c.if-reaches.branch [
  | then-reaches+in_ok-push w ↦ over_yes _ _ _ _ _ _ _ c.loop-number-test.true c.reaches.ensures w.if-reaches.true
      c.loop-number.invariant (ap (λ (v : Vec ℕ Global). v.items) w.numbers-is ∙ w.in_ok-push.ensures.items)
  | else-reaches w ↦ over_no _ _ _ _ _ _ _ c.loop-number-test.true c.reaches.ensures w.if-reaches.false
      c.loop-number.invariant (ap (λ (v : Vec ℕ Global). v.items) w.numbers-is)
]
