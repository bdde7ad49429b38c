use Rattle.blif_flat.proofs.OneRefusal.{one_refusal}
use Rattle.blif_flat.proofs.laws.one_refusal.Goals as goal

pub returns : goal.returns
returns c = one_refusal
