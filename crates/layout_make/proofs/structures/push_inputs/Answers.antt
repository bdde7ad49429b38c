use Rattle.layout_make.specs.Code.Boxes.{in_box}
use Rattle.layout_make.proofs.DrawCode.{numbers_next}
use Rattle.layout_make.proofs.structures.push_inputs.Goals as goal

pub loop-pin-preserved : goal.loop-pin-preserved
loop-pin-preserved c = numbers_next (in_box c.args.library.now c.args.kind) c.loop-pin.pin c.args.elements.now.items _
    _ c.loop-pin.invariant (search (c.in_ok-push.ensures.items, c.in_box.ensures))
