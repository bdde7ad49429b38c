use Rattle.std.proofs.Common.{List, sym, subst, get_or}
use Rattle.rowed.specs.declared.source.Source.{Source}
use Rattle.level_balance.specs.Laying.{tree_row}
use Rattle.level_balance.specs.Code.Rooms.{HasFew}
use Rattle.level_balance.proofs.Rooms.{tree_room}
use Rattle.level_balance.proofs.rows.tree.Goals as goal

pub tree_row-requires-clause-few : goal.tree_row-requires-clause-few
tree_row-requires-clause-few c =
    subst (λ (k : List Source). HasFew
    (tree_row c.args.base c.loop-size.at c.loop-size.rows.items k
    (get_or c.args.sizes.now c.loop-size.size-index 0)).rows) (sym c.deref.ensures.value)
    (tree_room _ c.args.base c.loop-size.at c.loop-size.size-index c.loop-size.rows.items c.loop-size.signals.items
    c.args.sizes.now 0 c.loop-size-test.true c.loop-size.invariant.same c.requires.few)
