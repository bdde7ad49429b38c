use Rattle.channel_route.proofs.FewCross.{below_capacity, never_over}
use Rattle.channel_route.proofs.laws.never_full.Goals as goal

pub returns-clause-below : goal.returns-clause-below
returns-clause-below c = below_capacity

pub returns-clause-full : goal.returns-clause-full
returns-clause-full c = never_over
