use Rattle.shape_extract.proofs.NetChains.{net_within}
use Rattle.shape_extract.proofs.rules.net_rule.find_nets.Goals as goal

pub chains-requires-clause-nets : goal.chains-requires-clause-nets
chains-requires-clause-nets c = net_within c.args.flat.now.shapes c.args.nets.now c.requires.nets
