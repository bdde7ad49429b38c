use Rattle.std.proofs.Common.{◌∙◌}
use Rattle.blif_read.proofs.Making.{none_made, made_of, made_view}
use Rattle.blif_read.proofs.make.make_netlist.Goals as goal

pub new-requires-clause-facts : goal.new-requires-clause-facts
new-requires-clause-facts c = made_of c.args.inputs c.args.names.now c.args.defs.now c.args.outputs.now c.requires _
    c.as_slice.ensures _ _ c.in-Order.is c.in_ok-order.ensures.order _ _ c.as_slice-in-Order.ensures
    c.in_ok-names-in-Order.ensures _ c.in_ok-parts-in-Order.ensures

pub returns-in_ok-parts-in-Order-clause-ok : goal.returns-in_ok-parts-in-Order-clause-ok
returns-in_ok-parts-in-Order-clause-ok c = c.new.ensures
    ∙ made_view c.args.inputs c.args.names.now c.args.defs.now c.args.outputs.now c.requires _ _
    c.as_slice-in-Order.ensures c.in_ok-names-in-Order.ensures _ c.in_ok-parts-in-Order.ensures

pub returns-in_ok-parts-in-Order-clause-sound : goal.returns-in_ok-parts-in-Order-clause-sound
returns-in_ok-parts-in-Order-clause-sound c =
    none_made c.args.inputs c.args.names.now c.args.defs.now c.args.outputs.now c.requires _ c.as_slice.ensures _ _
    c.in-Order.is c.in_ok-order.ensures.cycle
