use Rattle.std.proofs.Common.{rules}
use Rattle.std.proofs.lemmas.List.Sorted.{answers_always}
use Rattle.channel_route.specs.Code.Numbered.{low_of}
use Rattle.channel_route.proofs.Ordered.{numbered_push, sorted_low}
use Rattle.channel_route.proofs.order.by_lower_end.Goals as goal

pub loop-number-preserved : goal.loop-number-preserved
loop-number-preserved c = numbered_push _ _ _ _ _ c.loop-number-test.true c.loop-number.invariant
    c.in_ok-push.ensures.items

pub returns : goal.returns
returns c = sorted_low _ _ _ _ c.loop-number.invariant c.loop-number-test.false
    (c.in_ok-sort_by_key.ensures.sorted low_of (answers_always _ _ _ (λ f a r f' k. search rules)))
    (c.in_ok-sort_by_key.ensures.stable low_of (answers_always _ _ _ (λ f a r f' k. search rules)))
