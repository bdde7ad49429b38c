use Rattle.blif_flat.proofs.PlainNet.{answers_as}
use Rattle.blif_flat.proofs.laws.netlist_answers.Goals as goal

pub returns : goal.returns
returns c = answers_as
