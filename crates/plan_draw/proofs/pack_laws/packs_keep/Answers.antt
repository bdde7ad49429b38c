use Rattle.plan_draw.proofs.Packed.{packed_keeps}
use Rattle.plan_draw.proofs.pack_laws.packs_keep.Goals as goal

pub returns : goal.returns
returns c = packed_keeps
