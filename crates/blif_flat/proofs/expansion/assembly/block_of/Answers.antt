use Rattle.std.proofs.Common.{subst, ap, ◌∙◌, ◌≡◌, ◌<◌, ◌≤◌, length, get_or, refl, arith}
use Rattle.blif_read.specs.declared.models.BlifModel.{BlifModel}
use Rattle.blif_flat.specs.Designs.{model_number}
use Rattle.blif_flat.specs.Code.Blocks.{call_names, wide, pieces}
use Rattle.blif_flat.specs.Code.Outlines.{IsOutlined}
use Rattle.blif_flat.proofs.Joining.{room_taken, room_left}
use Rattle.blif_flat.proofs.Outlining.{all_at}
use Rattle.blif_flat.proofs.Assembling.{block_begun, block_size, call_taken, calls_done}
use Rattle.blif_flat.proofs.expansion.assembly.block_of.Goals as goal

pub loop-call-init : goal.loop-call-init
loop-call-init c =
    let is = c.model-model.ensures.model in
    let inputs = c.narrow-inputs.ensures ∙ c.len.ensures ∙ ap (λ (m : BlifModel). length m.inputs) is in
    let defs = c.narrow-defs.ensures ∙ c.len-2.ensures ∙ ap (λ (m : BlifModel). length m.defs) is in
    let size = block_size c.args.places.now.models c.args.places.now.model in
    record {
      whole = block_begun c.args.places.now.models c.args.places.now.model _ _ _ _ _ _ c.new-block.ensures
          (c.as_slice.ensures ∙ ap (λ (m : BlifModel). m.defs) is) c.in_ok-push_defs.ensures inputs defs refl;
      room = omega (arith, size, inputs, defs);
    }

pub push_call-requires : goal.push_call-requires
push_call-requires c =
    let models = c.args.places.now.models in
    let calls = c.as_slice-call-items.ensures ∙ ap (λ (m : BlifModel). m.calls) c.model-model.ensures.model in
    let lt = subst (λ cs. c.loop-call.call-index < length cs) calls c.loop-call-test.true in
    let is = subst (λ cs. c.call-item.result ≡ get_or cs c.loop-call.call-index c.call-item.result) calls
    c.call-item.is in
    record {
      outlined = all_at (λ call. IsOutlined models c.args.outlines.now (model_number models call.model))
          c.args.places.now.model.calls c.loop-call.call-index c.call-item.result c.requires lt is;
      room = room_left (call_names (wide models) models) c.args.places.now.model.calls c.loop-call.call-index
          c.call-item.result c.call-item.result c.loop-call.start _ lt is c.loop-call.invariant.room
          c.model-model.ensures.few;
    }

pub loop-call-preserved : goal.loop-call-preserved
loop-call-preserved c =
    let models = c.args.places.now.models in
    let model = c.args.places.now.model in
    let calls = c.as_slice-call-items.ensures ∙ ap (λ (m : BlifModel). m.calls) c.model-model.ensures.model in
    let lt = subst (λ cs. c.loop-call.call-index < length cs) calls c.loop-call-test.true in
    let is = subst (λ cs. c.call-item.result ≡ get_or cs c.loop-call.call-index c.call-item.result) calls
    c.call-item.is in
    record {
      whole = call_taken models model model.calls c.loop-call.call-index c.call-item.result
          c.loop-call.start c.in_ok-start.start c.loop-call.block _ _ lt is c.in_ok-start.ensures.pieces
          c.in_ok-start.ensures.next c.loop-call.invariant.whole;
      room = room_taken (call_names (wide models) models) model.calls c.loop-call.call-index
          c.call-item.result c.call-item.result c.loop-call.start c.in_ok-start.start _ lt is
          c.in_ok-start.ensures.next c.loop-call.invariant.room;
    }

pub returns : goal.returns
returns c =
    let models = c.args.places.now.models in
    let model = c.args.places.now.model in
    let calls = c.as_slice-call-items.ensures ∙ ap (λ (m : BlifModel). m.calls) c.model-model.ensures.model in
    calls_done models model model.calls c.loop-call.call-index c.loop-call.start c.loop-call.block
    (pieces (wide models) models model)
    (subst (λ cs. length cs ≤ c.loop-call.call-index) calls c.loop-call-test.false) c.loop-call.invariant.whole
