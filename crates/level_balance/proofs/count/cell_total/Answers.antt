use Rattle.std.proofs.Common.{refl}
use Rattle.circuit.specs.PlainNets.{PlainView}
use Rattle.level_balance.proofs.Serving.{begun_length, counted_is}
use Rattle.level_balance.proofs.count.cell_total.Goals as goal

pub gates_total-requires-clause-size : goal.gates_total-requires-clause-size
gates_total-requires-clause-size c =
    let net : PlainView = record { inputs = c.args.inputs; gates = c.args.gates.now; outputs = c.args.outputs.now } in
    begun_length net c.requires _ c.in_ok-ends.ensures.uses

pub returns : goal.returns
returns c =
    let net : PlainView = record { inputs = c.args.inputs; gates = c.args.gates.now; outputs = c.args.outputs.now } in
    counted_is net c.args.three c.requires _ _ _ _ _ _ _ _ _ _ c.splitter_base-base.ensures.base
    c.in_ok-ends.ensures.uses c.in_ok-cells.ensures.cells c.in_ok-cells.ensures.ends refl refl
    c.last_row-last.ensures.is c.outputs_total-leads.ensures c.saturating_add.ensures c.saturating_add-2.ensures
