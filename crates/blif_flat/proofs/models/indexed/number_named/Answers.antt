use Rattle.std.proofs.Common.{◌∙◌}
use Rattle.blif_flat.proofs.Calling.{number_at}
use Rattle.blif_flat.proofs.models.indexed.number_named.Goals as goal

pub returns : goal.returns
returns c = λ models is. c.number_of.ensures
    ∙ number_at models c.args.numbers.now.entries c.args.name.now is c.if-name-eq0.false
