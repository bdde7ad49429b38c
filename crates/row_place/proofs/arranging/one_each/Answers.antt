use Rattle.row_place.proofs.ArrangedRows.{none_each}
use Rattle.row_place.proofs.arranging.one_each.Goals as goal

pub returns-then-rows-slots : goal.returns-then-rows-slots
returns-then-rows-slots c = none_each c.args.rows.now c.args.slots.now c.if-rows-slots.true
