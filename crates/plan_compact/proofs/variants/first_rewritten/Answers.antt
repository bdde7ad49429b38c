use Rattle.plan_compact.proofs.Chained.{one_of}
use Rattle.plan_compact.proofs.variants.first_rewritten.Goals as goal

pub rewritten_twice-requires : goal.rewritten_twice-requires
rewritten_twice-requires c =
    one_of c.args.net.now c.args.graphs.now 0 c.in-Some.first.now c.requires c.in-Some.ensures.value
