use Rattle.std.proofs.Common.{ap}
use Rattle.level_balance.specs.Plan.{level_net}
use Rattle.test_plans.proofs.levels.levelled.Goals as goal

pub returns-in-Ok : goal.returns-in-Ok
unfolding level_net
returns-in-Ok c = ap (λ r. r.inputs) c.in-Ok.ensures.given.is_plan
