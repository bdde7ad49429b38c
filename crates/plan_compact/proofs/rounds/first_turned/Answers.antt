use Rattle.plan_compact.proofs.Chained.{one_of}
use Rattle.plan_compact.proofs.rounds.first_turned.Goals as goal

pub turned_if_fewer-requires : goal.turned_if_fewer-requires
turned_if_fewer-requires c =
    one_of c.args.net.now c.args.graphs.now 0 c.in-Some.first.now c.requires c.in-Some.ensures.value
