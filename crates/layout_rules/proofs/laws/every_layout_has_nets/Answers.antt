use Rattle.layout_rules.proofs.NetsExist.{some_nets}
use Rattle.layout_rules.proofs.laws.every_layout_has_nets.Goals as goal

pub returns : goal.returns
returns c = λ shapes. (let some = some_nets shapes in record { nets = some.0; are = some.1 })
