use Rattle.std.proofs.Common.{◌∙◌, arith, ap, length}
use Rattle.blif_read.proofs.Whole.{at_ok, counted, few_names, view_is, operands_within, facts, no_fault, cycle_fails}
use Rattle.blif_read.proofs.read.netlist.Goals as goal

pub overflow_sub-inputs : goal.overflow_sub-inputs
overflow_sub-inputs c =
    let count = (counted c.args.lines.now _ _ _ _ _ c.len.ensures.len c.len-2.ensures
    (at_ok _ _ _ c.in-Ok.is c.in_ok-found.ensures.found)).count in
    omega (arith, c.len.ensures.len, c.len-2.ensures)

pub overflow_cast-inputs : goal.overflow_cast-inputs
overflow_cast-inputs c =
    let few = few_names _ _ _ _ _
    (counted c.args.lines.now _ _ _ _ _ c.len.ensures.len c.len-2.ensures
    (at_ok _ _ _ c.in-Ok.is c.in_ok-found.ensures.found)) c.requires in
    omega (arith, c.len.ensures.len, c.len-2.ensures)

pub walk-requires-clause-few : goal.walk-requires-clause-few
walk-requires-clause-few c =
    let few = few_names _ _ _ _ _
    (counted c.args.lines.now _ _ _ _ _ c.len.ensures.len c.len-2.ensures
    (at_ok _ _ _ c.in-Ok.is c.in_ok-found.ensures.found)) c.requires in
    let count = (counted c.args.lines.now _ _ _ _ _ c.len.ensures.len c.len-2.ensures
    (at_ok _ _ _ c.in-Ok.is c.in_ok-found.ensures.found)).count in
    omega (arith, c.len.ensures.len, c.len-2.ensures, ap length c.as_slice.ensures)

pub walk-requires-clause-within : goal.walk-requires-clause-within
walk-requires-clause-within c = operands_within _ _ _ _ _
    (counted c.args.lines.now _ _ _ _ _ c.len.ensures.len c.len-2.ensures
    (at_ok _ _ _ c.in-Ok.is c.in_ok-found.ensures.found)) _ c.as_slice.ensures

pub new-requires-clause-facts : goal.new-requires-clause-facts
new-requires-clause-facts c = facts _ _ _ _ _
    (counted c.args.lines.now _ _ _ _ _ c.len.ensures.len c.len-2.ensures
    (at_ok _ _ _ c.in-Ok.is c.in_ok-found.ensures.found)) _ c.as_slice.ensures _ _ c.requires c.in-Order.is
    c.in_ok-order.ensures.order

pub returns-in-Order-clause-sound : goal.returns-in-Order-clause-sound
returns-in-Order-clause-sound c = no_fault _ _ _ _ _
    (counted c.args.lines.now _ _ _ _ _ c.len.ensures.len c.len-2.ensures
    (at_ok _ _ _ c.in-Ok.is c.in_ok-found.ensures.found)) _ c.as_slice.ensures _ _ c.in-Order.is
    c.in_ok-order.ensures.cycle

pub returns-in-Order-clause-parts : goal.returns-in-Order-clause-parts
returns-in-Order-clause-parts c = c.new.ensures
    ∙ view_is _ _ _ _ _ (counted c.args.lines.now _ _ _ _ _ c.len.ensures.len c.len-2.ensures
    (at_ok _ _ _ c.in-Ok.is c.in_ok-found.ensures.found))

pub returns-in_ok-fault-in-Cycle-clause-bad : goal.returns-in_ok-fault-in-Cycle-clause-bad
returns-in_ok-fault-in-Cycle-clause-bad c = cycle_fails _ _ _ _ _
    (counted c.args.lines.now _ _ _ _ _ c.len.ensures.len c.len-2.ensures
    (at_ok _ _ _ c.in-Ok.is c.in_ok-found.ensures.found)) _ c.as_slice.ensures _ _ _ _ _ c.in-Cycle.is
    c.in_ok-order.ensures.cycle c.as_slice-in-Cycle.ensures c.deref.ensures.value c.in_ok-fault-in-Cycle.ensures
