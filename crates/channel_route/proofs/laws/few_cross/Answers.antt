use Rattle.channel_route.proofs.FewCross.{few_cross}
use Rattle.channel_route.proofs.laws.few_cross.Goals as goal

pub returns : goal.returns
returns c = few_cross
