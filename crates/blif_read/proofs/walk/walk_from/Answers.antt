use Rattle.std.proofs.Common.{◌≡◌, ap, reverse, Option, Some, None, IfNone}
use Rattle.blif_read.proofs.Turns.{order_from}
use Rattle.blif_read.proofs.walk.walk_from.Goals as goal

at_none : {X : Type 0} (o : Option X) (P : Type 0) → o ≡ None → IfNone o P → P
at_none None P e h = h
at_none (Some x) P e h = absurd (cc)

pub returns-clause-order : goal.returns-clause-order
returns-clause-order c =
    order_from c.args.defs.now c.args.root _ _ _ (ap reverse c.new-done.ensures.items)
    (at_none _ _ c.in-None.is c.in_ok-cycle.ensures.walks)
    (at_none _ _ c.in-None.is c.in_ok-cycle.ensures.done) c.in_ok-cycle.ensures.led
