use Rattle.aq_base.proofs.Drafting.{made-refused}
use Rattle.aq_base.proofs.draft.open.Goals as goal

pub returns-in-Ok-AsItStands-clause-refused : goal.returns-in-Ok-AsItStands-clause-refused
returns-in-Ok-AsItStands-clause-refused g c =
    made-refused _ _ _ _ _ _ c.in-Ok-AsItStands.ensures.found c.in-Ok-AsItStands.field-0-is c.make.ensures
