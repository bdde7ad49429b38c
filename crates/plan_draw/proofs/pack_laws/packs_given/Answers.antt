use Rattle.plan_draw.proofs.Packed.{given_unless_refused}
use Rattle.plan_draw.proofs.pack_laws.packs_given.Goals as goal

pub returns : goal.returns
returns c = given_unless_refused
