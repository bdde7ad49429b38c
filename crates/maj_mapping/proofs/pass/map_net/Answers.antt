use Rattle.std.proofs.Common.{length, ap, ◌∙◌, arith}
use Rattle.maj_mapping.proofs.Ordered.{ordered}
use Rattle.maj_mapping.proofs.MappingGiven.{made_given}
use Rattle.maj_mapping.proofs.Outputs.{begins, all_outputs, made_plain, output_room}
use Rattle.maj_mapping.proofs.pass.map_net.Goals as goal

pub loop-output-init : goal.loop-output-init
loop-output-init c = begins _ (ordered c.args.net.now c.requires) _ _ _ _ _ (c.as_slice-output-items.ensures
    ∙ c.outputs.ensures) c.input_count-inputs.ensures.count
    (c.len.ensures ∙ ap length c.defs.ensures) c.in_ok-maker.ensures c.in_ok-gate_of.ensures

pub invariant_of-result : goal.invariant_of-result
invariant_of-result c = made_plain _ _ c.requires
    (all_outputs c.args.net.now _ _ _ _ _ _ _ _ _ c.loop-output.invariant c.loop-output-test.false
    c.input_count-inputs.ensures.count c.as_slice.ensures (c.as_slice-2.ensures ∙ c.outputs-2.ensures)
    (c.from_vec.ensures ∙ c.in_ok-outputs.ensures) c.into_gates.ensures.gates)
    c.into_gates.ensures.few

pub returns : goal.returns
returns c = made_given _ _ c.requires
    (all_outputs c.args.net.now _ _ _ _ _ _ _ _ _ c.loop-output.invariant c.loop-output-test.false
    c.input_count-inputs.ensures.count c.as_slice.ensures (c.as_slice-2.ensures ∙ c.outputs-2.ensures)
    (c.from_vec.ensures ∙ c.in_ok-outputs.ensures) c.into_gates.ensures.gates)

pub walk-requires-clause-room : goal.walk-requires-clause-room
walk-requires-clause-room c = output_room _ _ _ _ _ c.requires c.loop-output-test.true c.loop-output.invariant

pub new-requires : goal.new-requires
new-requires c =
    let small = c.requires.small in
    let count = c.requires.count in
    let same = c.input_count-inputs.ensures.count in
    omega arith
