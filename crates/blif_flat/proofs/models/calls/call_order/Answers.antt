use Rattle.std.proofs.Common.{◌∙◌, sym, ap, subst, length}
use Rattle.blif_read.specs.Parts.{operands}
use Rattle.blif_read.specs.Walked.{IsWithin}
use Rattle.blif_flat.specs.DesignFaults.{loop_line}
use Rattle.blif_flat.proofs.Calling.{calls_within, straight, ordered, recursive}
use Rattle.blif_flat.proofs.models.calls.call_order.Goals as goal

pub walk_from-requires-clause-within : goal.walk_from-requires-clause-within
walk_from-requires-clause-within c =
    subst (λ defs. IsWithin (operands 0 defs) (length defs)) (sym (c.as_slice.ensures ∙ c.in_ok-defs.ensures))
    (calls_within c.args.models.now)

pub returns-in-Order-clause-straight : goal.returns-in-Order-clause-straight
returns-in-Order-clause-straight c = straight _ _ _ _ (c.as_slice.ensures
    ∙ c.in_ok-defs.ensures) c.in-Order.is c.in_ok-order.ensures.cycle

pub returns-in-Order-clause-order : goal.returns-in-Order-clause-order
returns-in-Order-clause-order c = ordered _ _ _ _ (c.as_slice.ensures
    ∙ c.in_ok-defs.ensures) c.in-Order.is c.in_ok-order.ensures.order

pub returns-clause-recursive : goal.returns-clause-recursive
returns-clause-recursive c = recursive _ _ _ _ _ (c.as_slice.ensures
    ∙ c.in_ok-defs.ensures) c.in-Cycle.is c.in_ok-order.ensures.cycle
    (c.loop_line.ensures ∙ ap (loop_line c.args.models.now) c.as_slice-in-Cycle.ensures.value)
