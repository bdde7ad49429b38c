use Rattle.std.proofs.Common.{rules}
use Rattle.geom.proofs.Sharing.{sharing_meant}
use Rattle.geom.proofs.rectangle.touches.Goals as goal

pub returns-then-touches_in_x-clause-meaning : goal.returns-then-touches_in_x-clause-meaning
returns-then-touches_in_x-clause-meaning c =
    sharing_meant c.args.a.now c.args.b.now c.touches_in_y.result c.known.ensures c.known-2.ensures (search rules)
