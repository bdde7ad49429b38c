use Rattle.layout_rules.proofs.LinePaths.{one_path}
use Rattle.layout_rules.proofs.laws.one_line.Goals as goal

pub returns : goal.returns
returns c = λ shapes layer lines cut of. one_path shapes lines cut layer of
