use Rattle.aqfp_top.proofs.FoundShapes.{unfound}
use Rattle.aqfp_top.proofs.shapes.no_shape.Goals as goal

pub returns-in-Ok : goal.returns-in-Ok
returns-in-Ok c =
    unfound c.count_is_exact.ensures c.args.layout.now c.args.number c.in-Ok.count c.requires.layout c.requires.past
    c.in-Ok.ensures
