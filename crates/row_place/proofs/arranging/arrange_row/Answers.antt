use Rattle.std.proofs.Common.{arith, ◌≡◌, ℕ, ◌<◌, length, subst, sym, ◌∙◌}
use Rattle.std.specs.List.{AllByRecursion}
use Rattle.row_place.specs.Arranged.{slot_at}
use Rattle.row_place.proofs.Ordered.{order_within, order_length}
use Rattle.row_place.proofs.arranging.arrange_row.Goals as goal

pub cells_in-requires-clause-within : goal.cells_in-requires-clause-within
cells_in-requires-clause-within c =
    subst (λ (n : ℕ). AllByRecursion (λ d. d < n) c.deref.result.now) c.requires.each
    (order_within (slot_at c.args.slots.now) (length c.args.slots.now) c.deref.result.now (c.deref.ensures.value
    ∙ c.in_ok-order.ensures))

pub slots_in-requires : goal.slots_in-requires
slots_in-requires c =
    order_within (slot_at c.args.slots.now) (length c.args.slots.now) c.deref-2.result.now
    (c.deref-2.ensures.value ∙ c.in_ok-order.ensures)

pub places_of-requires-clause-few : goal.places_of-requires-clause-few
places_of-requires-clause-few c =
    let long : length c.deref-3.result.now ≡ length c.args.slots.now =
    order_length (slot_at c.args.slots.now) (length c.args.slots.now) c.deref-3.result.now (c.deref-3.ensures.value
    ∙ c.in_ok-order.ensures) in
    omega (arith, c.requires.few, c.requires.each, long)

pub places_of-requires-clause-below : goal.places_of-requires-clause-below
places_of-requires-clause-below c =
    let is = c.deref-3.ensures.value ∙ c.in_ok-order.ensures in
    subst (λ (n : ℕ). AllByRecursion (λ d. d < n) c.deref-3.result.now)
    (sym (order_length (slot_at c.args.slots.now) (length c.args.slots.now) c.deref-3.result.now is))
    (order_within (slot_at c.args.slots.now) (length c.args.slots.now) c.deref-3.result.now is)

pub returns-clause-long : goal.returns-clause-long
returns-clause-long c =
    c.in_ok-places.ensures.long
    ∙ order_length (slot_at c.args.slots.now) (length c.args.slots.now) c.deref-3.result.now
    (c.deref-3.ensures.value ∙ c.in_ok-order.ensures)
    ∙ c.requires.each
