use Rattle.std.proofs.Common.{arith}
use Rattle.mig_replace.proofs.Carrying.{carried_below}
use Rattle.mig_replace.proofs.growing.early.Goals as goal

pub maj-requires : goal.maj-requires
maj-requires c =
    let g = c.args.graph.now in
    let b = c.args.builder.now in
    let f = c.args.found.now in
    record {
      x = carried_below g b f c.requires c.args.node.x _ (omega arith) c.carried-x.ensures;
      y = carried_below g b f c.requires c.args.node.y _ (omega arith) c.carried-y.ensures;
      z = carried_below g b f c.requires c.args.node.z _ (omega arith) c.carried-z.ensures;
    }
