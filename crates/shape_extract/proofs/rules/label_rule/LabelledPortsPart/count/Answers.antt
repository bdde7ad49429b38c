use Rattle.shape_extract.proofs.Reported.{unlabelled_port_within}
use Rattle.shape_extract.proofs.rules.label_rule.LabelledPortsPart.count.Goals as goal

pub returns-clause-within : goal.returns-clause-within
returns-clause-within c = λ a b h. unlabelled_port_within c.args.self.now.flat.now a h.0
