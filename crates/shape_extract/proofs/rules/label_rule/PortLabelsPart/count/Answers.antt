use Rattle.shape_extract.proofs.Reported.{no_port_label_within}
use Rattle.shape_extract.proofs.rules.label_rule.PortLabelsPart.count.Goals as goal

pub returns-clause-within : goal.returns-clause-within
returns-clause-within c = λ a b h. no_port_label_within c.args.self.now.flat.now a h.0
