use Rattle.blif_flat.proofs.ExpandedNet.{net_means, said_means}
use Rattle.blif_flat.proofs.laws.design_answers.Goals as goal

pub returns : goal.returns
returns c = record { expansion = net_means; text = said_means }
