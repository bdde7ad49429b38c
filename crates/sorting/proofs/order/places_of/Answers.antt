use Rattle.std.proofs.Common.{arith}
use Rattle.sorting.proofs.Inverted.{known_all}
use Rattle.sorting.proofs.order.places_of.Goals as goal

pub returns-clause-inverse : goal.returns-clause-inverse
returns-clause-inverse c = known_all c.args.order.now c.loop-left.places.items c.loop-left.left
    (omega arith) c.requires.below c.loop-left.invariant
