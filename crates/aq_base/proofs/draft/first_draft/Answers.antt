use Rattle.std.proofs.Common.{refl}
use Rattle.aq_base.specs.declared.acts.Act.TheVariants as act
use Rattle.aq_base.specs.Acts.{Refused}
use Rattle.aq_base.specs.Code.Drafts.{is_aside}
use Rattle.aq_base.proofs.Drafting.{adds-call, aside-idle, draft-stands}
use Rattle.aq_base.proofs.draft.first_draft.Goals as goal

pub returns-in-Err-clause-refused : goal.returns-in-Err-clause-refused
returns-in-Err-clause-refused g c = aside-idle _ _
    (adds-call is_aside _ _ _ (Refused act.Draft) c.loop-number.invariant c.in-Err.ensures refl)

pub loop-number-preserved : goal.loop-number-preserved
loop-number-preserved g c =
    draft-stands _ _ _ _ _ _ c.loop-number.invariant c.in-Ok-false.ensures c.in-Ok-false.field-0-test
