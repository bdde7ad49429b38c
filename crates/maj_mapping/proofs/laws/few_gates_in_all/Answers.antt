use Rattle.maj_mapping.proofs.FewGates.{few_in_all}
use Rattle.maj_mapping.proofs.laws.few_gates_in_all.Goals as goal

pub returns : goal.returns
returns c = few_in_all
