use Rattle.std.proofs.Common.{◌∙◌, sym}
use Rattle.blif_read.proofs.Modelled.{behind_sign}
use Rattle.blif_read.proofs.models.sides.Goals as goal

pub returns-in-Some-clause-actual : goal.returns-in-Some-clause-actual
returns-in-Some-clause-actual c = behind_sign _ _ _ _ (sym c.first_equals_sign.ensures
    ∙ c.in-Some.is) c.split_at.ensures.back c.split_at-in-Some.ensures.back
