use Rattle.std.proofs.Common.{arith, ap, sym, ◌∙◌, ◌≡◌, ◌+◌, ℕ, length}
use Rattle.std.proofs.lemmas.List.{length_push}
use Rattle.union_find.proofs.Pushed.{pushed}
use Rattle.union_find.proofs.Joined.{are_least}
use Rattle.union_find.proofs.heights.Heights.least.Goals as goal

pub loop-node-preserved : goal.loop-node-preserved
loop-node-preserved c = record {
  long =
      let long = length_push c.loop-node.heights.items c.find.result.height in
      ap length c.in_ok-push.ensures.items ∙ long ∙ ap (λ (n : ℕ). n + 1) c.loop-node.invariant.long;
  each = λ h root shaped.
      rw c.in_ok-push.ensures.items
      (pushed c.loop-node.heights.items c.find.result.height c.loop-node.node h c.loop-node.invariant.long
      (c.loop-node.invariant.each h root shaped) (sym (c.find.ensures.shaped h root shaped).1));
}

pub returns : goal.returns
returns c =
    let n : c.loop-node.node ≡ c.count-count.result =
    let most = c.loop-node.auto.node-end in let least = c.loop-node-test.false in omega arith in
    are_least _ _ c.count-count.ensures.known (c.loop-node.invariant.long ∙ n ∙ c.count-count.ensures.count)
    (λ h root shaped s lt. c.loop-node.invariant.each h root shaped s (omega (arith, n, c.count-count.ensures.count)))
