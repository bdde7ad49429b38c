use Rattle.std.proofs.Common.{refl}
use Rattle.blif_flat.proofs.Joining.{name_more}
use Rattle.blif_flat.proofs.models.joins.add_name.Goals as goal

pub returns-clause-places : goal.returns-clause-places
returns-clause-places c =
    λ names is. name_more c.args.places.now.entries c.add.new.numbers.entries c.args.count _ c.args.name.now names
    c.in_ok-add.ensures refl is
