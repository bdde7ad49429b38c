use Rattle.level_balance.proofs.PlanGiven.{given_unless_refused}
use Rattle.level_balance.proofs.laws.plan_given.Goals as goal

pub returns : goal.returns
returns c = given_unless_refused
