use Rattle.std.proofs.Common.{sym, ◌∙◌}
use Rattle.poly_cut.proofs.Held.{held_found, held_next}
use Rattle.poly_cut.proofs.holding.some_held.Goals as goal

pub returns-then-is_held : goal.returns-then-is_held
returns-then-is_held c =
    sym (held_found c.args.marks.now c.args.items.now c.loop-item.item-index c.item-item.result c.loop-item-test.true
    c.item-item.is (sym c.is_held.ensures ∙ c.if-is_held.true))

pub loop-item-preserved : goal.loop-item-preserved
loop-item-preserved c =
    held_next c.args.marks.now c.args.items.now c.loop-item.item-index c.item-item.result c.loop-item-test.true
    c.item-item.is c.loop-item.invariant (sym c.is_held.ensures ∙ c.if-is_held.false)
