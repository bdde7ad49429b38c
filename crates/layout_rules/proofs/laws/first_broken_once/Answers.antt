use Rattle.layout_rules.proofs.RuleLaws.{FirstBroken-once}
use Rattle.layout_rules.proofs.laws.first_broken_once.Goals as goal

pub returns : goal.returns
returns c = FirstBroken-once
