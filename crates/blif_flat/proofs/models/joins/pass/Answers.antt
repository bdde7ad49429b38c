use Rattle.std.proofs.Common.{refl}
use Rattle.blif_flat.proofs.Joining.{passed_places}
use Rattle.blif_flat.proofs.models.joins.pass.Goals as goal

pub returns-clause-places : goal.returns-clause-places
returns-clause-places c = λ names is. passed_places c.args.places.now.entries c.args.count c.args.by _ names refl is
