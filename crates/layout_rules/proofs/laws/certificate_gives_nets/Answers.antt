use Rattle.layout_rules.proofs.NetLaws.{AreNets-certified}
use Rattle.layout_rules.proofs.laws.certificate_gives_nets.Goals as goal

pub returns : goal.returns
returns c = AreNets-certified
