use Rattle.gds_read.proofs.Graphs.{some_always}
use Rattle.gds_read.proofs.chains.has_targets.Goals as goal

pub returns : goal.returns
returns c = some_always c.args.targets.now c.is_empty.result c.is_empty.ensures
