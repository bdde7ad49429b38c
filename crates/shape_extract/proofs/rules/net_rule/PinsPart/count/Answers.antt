use Rattle.shape_extract.proofs.Reported.{nets_within}
use Rattle.shape_extract.proofs.rules.net_rule.PinsPart.count.Goals as goal

pub returns-clause-within : goal.returns-clause-within
returns-clause-within c = λ a b h. nets_within c.args.self.now.flat.now a b h
