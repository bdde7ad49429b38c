use Rattle.channel_route.proofs.PinsApart.{ends_apart}
use Rattle.channel_route.proofs.laws.ends_apart.Goals as goal

pub returns : goal.returns
returns c = ends_apart
