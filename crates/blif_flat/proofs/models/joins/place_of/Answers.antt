use Rattle.std.proofs.Common.{sym}
use Rattle.blif_flat.proofs.Joining.{place_missing}
use Rattle.blif_flat.proofs.models.joins.place_of.Goals as goal

pub returns-in-None : goal.returns-in-None
returns-in-None c = λ names is. place_missing c.args.places.now.entries c.args.count c.args.name.now names
    (sym c.in-None.ensures) is
