use Rattle.std.proofs.Common.{rules}
use Rattle.std.proofs.lemmas.List.Sorted.{answers_always}
use Rattle.sorting.proofs.KeyedNumbers.{key_of, keyed_turn, order_is}
use Rattle.sorting.proofs.order.order_by.Goals as goal

pub loop-number-preserved : goal.loop-number-preserved
loop-number-preserved c = keyed_turn c.args.keys.now c.loop-number.number _ c.loop-number.keyed.items _
    c.loop-number-test.true c.in_ok-push.ensures.items (search rules) c.loop-number.invariant

pub returns : goal.returns
returns c = order_is c.args.keys.now _ c.loop-number.number c.loop-number.keyed.items _
    c.loop-number.invariant (search rules)
    (c.in_ok-sort_by_key.ensures.sorted key_of (answers_always _ _ _ (λ f a r f' k. search rules)))
    (c.in_ok-sort_by_key.ensures.stable key_of (answers_always _ _ _ (λ f a r f' k. search rules)))
    (search rules)
