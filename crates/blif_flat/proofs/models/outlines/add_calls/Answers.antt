use Rattle.std.proofs.Common.{refl}
use Rattle.blif_flat.specs.Designs.{model_number}
use Rattle.blif_flat.specs.Code.Blocks.{call_names, wide}
use Rattle.blif_flat.specs.Code.Outlines.{IsOutlined}
use Rattle.blif_flat.proofs.Joining.{room_taken, room_left}
use Rattle.blif_flat.proofs.Outlining.{part_more, all_at, all_parts}
use Rattle.blif_flat.proofs.models.outlines.add_calls.Goals as goal

pub add_call-requires : goal.add_call-requires
add_call-requires c = record {
  outlined = all_at (λ call. IsOutlined c.args.design.now c.args.outlines.now
      (model_number c.args.design.now call.model)) c.args.calls.now c.loop-call.call-index c.call-item.result
      c.requires.outlined c.loop-call-test.true c.call-item.is;
  room = room_left (call_names (wide c.args.design.now) c.args.design.now) c.args.calls.now c.loop-call.call-index
      c.call-item.result c.call-item.result c.loop-call.next _ c.loop-call-test.true c.call-item.is
      c.loop-call.invariant.room c.requires.room;
}

pub loop-call-preserved : goal.loop-call-preserved
loop-call-preserved c = record {
  places = part_more (call_names (wide c.args.design.now) c.args.design.now) c.args.calls.now c.loop-call.call-index
      c.call-item.result _ c.loop-call.places.entries c.add_call.new.places.entries c.args.count c.loop-call.next
      c.in_ok-next.next c.loop-call-test.true c.call-item.is
      c.loop-call.invariant.places c.in_ok-next.ensures.places;
  room = room_taken (call_names (wide c.args.design.now) c.args.design.now) c.args.calls.now c.loop-call.call-index
      c.call-item.result c.call-item.result c.loop-call.next c.in_ok-next.next _ c.loop-call-test.true c.call-item.is
      c.in_ok-next.ensures.next c.loop-call.invariant.room;
}

pub returns : goal.returns
returns c =
    all_parts (call_names (wide c.args.design.now) c.args.design.now) c.args.calls.now c.args.calls.now
    c.loop-call.call-index c.args.places.now.entries c.loop-call.places.entries c.args.count c.loop-call.next
    refl c.loop-call-test.false
    c.loop-call.invariant.places
