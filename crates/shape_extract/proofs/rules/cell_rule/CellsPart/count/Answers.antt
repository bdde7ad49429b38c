use Rattle.shape_extract.proofs.Reported.{fault_within}
use Rattle.shape_extract.proofs.rules.cell_rule.CellsPart.count.Goals as goal

pub returns-clause-within : goal.returns-clause-within
returns-clause-within c = λ a b h. fault_within c.args.self.now.shapes.now a h.0
