use Rattle.layout_rules.proofs.VerdictsExist.{some_verdict}
use Rattle.layout_rules.proofs.laws.every_layout_has_a_verdict.Goals as goal

pub returns : goal.returns
returns c = some_verdict
