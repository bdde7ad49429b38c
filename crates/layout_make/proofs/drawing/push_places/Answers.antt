use Rattle.std.proofs.Common.{arith}
use Rattle.layout_make.specs.Spots.{spots_of}
use Rattle.layout_make.specs.Code.Boxes.{place_box}
use Rattle.layout_make.proofs.DrawCode.{map_next, map_done}
use Rattle.layout_make.proofs.RowCode.{spots_long}
use Rattle.layout_make.proofs.drawing.push_places.Goals as goal

pub loop-number-preserved : goal.loop-number-preserved
loop-number-preserved c = map_next (place_box c.args.library.now c.args.kinds.now c.args.edge) _ c.loop-number.number
    c.spot-spot.result c.loop-number.elements.items _ _ c.spot-spot.ensures c.loop-number.invariant
    (search (c.in_ok-push.ensures.items, c.place_box.ensures))

pub returns : goal.returns
returns c = map_done (place_box c.args.library.now c.args.kinds.now c.args.edge)
    (spots_of c.args.row.now.cells.now c.args.row.now.slots.now) c.loop-number.number _ _
    (omega (
      arith,
      spots_long c.args.row.now.cells.now c.args.row.now.slots.now c.requires.long,
      c.loop-number-test.false,
    )) c.loop-number.invariant
