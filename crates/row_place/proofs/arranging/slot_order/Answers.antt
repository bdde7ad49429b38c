use Rattle.std.proofs.Common.{◌≡◌, ◌<◌, ◌^◌, ℕ, List, IfOk, arith, length, sym, ◌∙◌, ap, subst}
use Rattle.row_place.specs.Arranged.{slot_order}
use Rattle.row_place.proofs.ArrangingRows.{few_keys, all_keys}
use Rattle.row_place.proofs.arranging.slot_order.Goals as goal

pub order_by-requires : goal.order_by-requires
order_by-requires c =
    subst (λ (n : ℕ). n < 2 ^ 32) (sym (ap length c.deref.ensures.value))
    (few_keys c.args.slots.now c.loop-slot.keys.items c.loop-slot.slot-index c.loop-slot.invariant c.requires)

pub returns : goal.returns
returns c =
    subst (λ (l : List ℕ). IfOk c.order_by.result (λ order. order.items ≡ slot_order l))
    (c.deref.ensures.value ∙ all_keys c.args.slots.now c.loop-slot.keys.items c.loop-slot.slot-index
    (omega (arith, c.loop-slot-test.false)) c.loop-slot.invariant) c.order_by.ensures
