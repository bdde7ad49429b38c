use Rattle.maj_mapping.proofs.FewGates.{few_gates}
use Rattle.maj_mapping.proofs.laws.few_gates.Goals as goal

pub returns : goal.returns
returns c = few_gates
