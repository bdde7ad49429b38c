use Rattle.std.proofs.Common.{refl}
use Rattle.aq_base.proofs.Drafting.{idle-one}
use Rattle.aq_base.proofs.draft.follow.Goals as goal

pub returns-in-Err-followed-clause-refused : goal.returns-in-Err-followed-clause-refused
returns-in-Err-followed-clause-refused g c = idle-one _ _ _ c.in-Ok.ensures refl

pub returns-in-Err-clause-refused : goal.returns-in-Err-clause-refused
returns-in-Err-clause-refused g c = idle-one _ _ _ c.in-Err.ensures refl
