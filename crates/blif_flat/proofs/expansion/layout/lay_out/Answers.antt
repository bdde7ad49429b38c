use Rattle.std.proofs.Common.{arith}
use Rattle.blif_flat.proofs.Laying.{lay_first, lay_done, lay_own, lay_inner, room_first, room_done, room_taken}
use Rattle.blif_flat.proofs.Laying.{room_begun, own_room, inner_room}
use Rattle.blif_flat.proofs.expansion.layout.lay_out.Goals as goal

pub loop-frame-init : goal.loop-frame-init
loop-frame-init c = record {
  laid = lay_first c.args.blocks.now c.requires.straight _ _ _ c.new-frames.ensures.items
      c.in_ok-push.ensures.items c.new-defs.ensures;
  room = λ fit. room_first c.args.blocks.now fit _ _ c.new-frames.ensures.items c.in_ok-push.ensures.items;
}

pub loop-frame-preserved-then-frame-pieces : goal.loop-frame-preserved-then-frame-pieces
loop-frame-preserved-then-frame-pieces c = record {
  laid = lay_done c.args.blocks.now c.in-Some.frame _ c.loop-frame.frames.items c.loop-frame.defs _ _
      c.in-Some.ensures.items c.pieces_of-pieces.ensures c.if-frame-pieces.true c.loop-frame.invariant.laid;
  room = λ fit. room_done c.args.blocks.now fit c.in-Some.frame _ c.loop-frame.frames.items c.in-Some.ensures.items
      (c.loop-frame.invariant.room fit);
}

pub moved-requires : goal.moved-requires
moved-requires c =
    own_room c.args.blocks.now c.requires.room c.in-Some.frame _ c.loop-frame.frames.items _
    c.index-pieces-frame.result c.in-Own.def
    c.in-Some.ensures.items c.pieces_of-pieces.ensures c.if-frame-pieces.false c.index-pieces-frame.is c.in-Own.is
    (c.loop-frame.invariant.room c.requires.room)

pub loop-frame-preserved-in-Continue-branch-4 : goal.loop-frame-preserved-in-Continue-branch-4
loop-frame-preserved-in-Continue-branch-4 c = record {
  laid = lay_own c.args.blocks.now c.in-Some.frame _ c.loop-frame.frames.items _ c.loop-frame.defs _ _ _
      c.index-pieces-frame.result c.in-Own.def c.in_ok-def-in-Own.def
      c.in-Some.ensures.items c.in_ok-push-2.ensures.items c.pieces_of-pieces.ensures c.if-frame-pieces.false
      c.index-pieces-frame.is c.in-Own.is c.in_ok-def-in-Own.ensures c.in_ok-push-in-Own.ensures.ok
      c.loop-frame.invariant.laid;
  room = λ fit. room_taken c.args.blocks.now fit c.in-Some.frame _ c.loop-frame.frames.items _ c.in-Some.ensures.items
      c.in_ok-push-2.ensures.items (c.loop-frame.invariant.room fit);
}

pub wire_at-base-requires : goal.wire_at-base-requires
wire_at-base-requires c =
    let room = inner_room c.args.blocks.now c.requires.room c.in-Some.frame _ c.loop-frame.frames.items _
    c.index-pieces-frame.result c.in-Inner.model c.in-Inner.start
    c.in-Some.ensures.items c.pieces_of-pieces.ensures c.if-frame-pieces.false c.index-pieces-frame.is c.in-Inner.is
    (c.loop-frame.invariant.room c.requires.room) in
    omega arith

pub loop-frame-preserved : goal.loop-frame-preserved
loop-frame-preserved c = record {
  laid = lay_inner c.args.blocks.now c.requires.straight c.in-Some.frame _ c.loop-frame.frames.items _ _
      c.loop-frame.defs _ _ c.index-pieces-frame.result c.in-Inner.model c.in-Inner.start c.wire_at-base.result
      c.in-Some.ensures.items c.in_ok-push-2.ensures.items c.in_ok-push-in-Inner.ensures.items
      c.pieces_of-pieces.ensures c.if-frame-pieces.false c.index-pieces-frame.is c.in-Inner.is
      c.wire_at-base.ensures c.loop-frame.invariant.laid;
  room = λ fit. room_begun c.args.blocks.now fit c.in-Some.frame _ c.loop-frame.frames.items _ _ _
      c.index-pieces-frame.result c.in-Inner.model c.in-Inner.start c.wire_at-base.result
      c.in-Some.ensures.items c.in_ok-push-2.ensures.items c.in_ok-push-in-Inner.ensures.items
      c.pieces_of-pieces.ensures c.if-frame-pieces.false c.index-pieces-frame.is c.in-Inner.is
      c.wire_at-base.ensures (c.loop-frame.invariant.room fit);
}
