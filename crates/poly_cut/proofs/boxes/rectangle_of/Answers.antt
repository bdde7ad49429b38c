use Rattle.std.proofs.Common.{refl}
use Rattle.poly_cut.proofs.BoxRings.{five, boxed_answer}
use Rattle.poly_cut.proofs.boxes.rectangle_of.Goals as goal

pub returns : goal.returns
returns c =
    boxed_answer c.args.ring.now _ _ _ _ _ c.box_of.result (five c.args.ring.now _ c.if-ring-ne5.false)
    (c.if-not-same_x.ensures refl)
    (c.if-not-same_y.ensures refl) (c.if-not-are_corners.ensures refl) c.box_of.ensures
