use Rattle.std.proofs.Common.{subst, sym, ap, length, arith}
use Rattle.std.specs.List.{flat_map}
use Rattle.blif_flat.specs.Code.Blocks.{call_names, wide}
use Rattle.blif_flat.specs.Code.Outlines.{AreOutlined}
use Rattle.blif_flat.proofs.Assembling.{block_size}
use Rattle.blif_flat.proofs.Outlining.{places_whole}
use Rattle.blif_flat.proofs.models.outlines.ModelPlaces.new.Goals as goal

pub add_inputs-requires : goal.add_inputs-requires
add_inputs-requires c =
    let size = block_size c.args.design.now c.args.model.now in
    let inputs = ap length c.as_slice.ensures in
    omega (arith, size, inputs, c.requires.room)

pub add_defs-requires : goal.add_defs-requires
add_defs-requires c =
    let size = block_size c.args.design.now c.args.model.now in
    let inputs = ap length c.as_slice.ensures in
    let defs = ap length c.as_slice-2.ensures in
    omega (arith, size, inputs, defs, c.in_ok-inputs.ensures.next, c.requires.room)

pub add_calls-requires : goal.add_calls-requires
add_calls-requires c =
    let models = c.args.design.now in
    let size = block_size models c.args.model.now in
    let inputs = ap length c.as_slice.ensures in
    let defs = ap length c.as_slice-2.ensures in
    let calls = ap (λ cs. length (flat_map (call_names (wide models) models) cs)) c.as_slice-3.ensures in
    record {
      outlined = subst (AreOutlined models c.args.outlines.now) (sym c.as_slice-3.ensures) c.requires.outlined;
      room = omega (
        arith,
        size,
        inputs,
        defs,
        calls,
        c.in_ok-inputs.ensures.next,
        c.in_ok-own.ensures.next,
        c.requires.room,
      );
    }

pub invariant_of-result : goal.invariant_of-result
invariant_of-result c =
    places_whole c.args.design.now c.args.model.now _ _ _ c.with_hasher-numbers.result.entries _ _ _ _ _ _
    c.as_slice.ensures c.as_slice-2.ensures c.as_slice-3.ensures c.with_hasher-numbers.ensures.empty
    c.in_ok-inputs.ensures.places c.in_ok-own.ensures.places
    c.in_ok-width.ensures
