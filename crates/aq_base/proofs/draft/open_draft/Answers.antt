use Rattle.std.proofs.Common.{◌∷◌, refl, ap, ◌∙◌}
use Rattle.aq_base.specs.declared.acts.Act.TheVariants as act
use Rattle.aq_base.specs.Acts.{Refused}
use Rattle.aq_base.proofs.Drafting.{idle-one, tried-made, tried-refused}
use Rattle.aq_base.proofs.draft.open_draft.Goals as goal

pub returns-in-Ok-clause-made : goal.returns-in-Ok-clause-made
returns-in-Ok-clause-made g c =
    tried-made _ _ _ _ _ _ c.open_folder.ensures c.in-Ok.ensures c.first_draft-in-Ok.ensures.made

pub returns-in-Ok-clause-refused : goal.returns-in-Ok-clause-refused
returns-in-Ok-clause-refused g c =
    tried-refused _ _ _ _ _ c.open_folder.ensures c.in-Ok.ensures c.first_draft-in-Ok.ensures.refused

pub returns-in-Err-clause-refused : goal.returns-in-Err-clause-refused
returns-in-Err-clause-refused g c = idle-one (Refused act.Try) _ _
    (c.in-Err.ensures ∙ ap (λ d. Refused act.Try ∷ d) c.open_folder.ensures) refl
