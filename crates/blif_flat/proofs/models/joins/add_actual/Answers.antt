use Rattle.std.proofs.Common.{ap, length, arith}
use Rattle.blif_flat.proofs.models.joins.add_actual.Goals as goal

pub add_name-requires : goal.add_name-requires
add_name-requires c = let one = ap length c.in-Some.ensures in omega (arith, one, c.requires)
