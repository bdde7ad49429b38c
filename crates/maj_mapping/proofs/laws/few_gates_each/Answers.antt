use Rattle.maj_mapping.proofs.DefineRight.{define_is_right}
use Rattle.maj_mapping.proofs.laws.few_gates_each.Goals as goal

pub returns : goal.returns
returns c = λ n gs xs d ok below planes. (define_is_right n gs ok xs d planes below).few
