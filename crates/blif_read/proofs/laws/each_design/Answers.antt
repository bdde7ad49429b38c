use Rattle.std.proofs.Common.{◌≡◌, ◌⊎◌, ◌∙◌, sym, ℕ, List, map, Option, None, Some, inl, inr, refl}
use Rattle.blif_read.specs.Lines.{logical_lines}
use Rattle.blif_read.specs.Models.{parts_of, model_of, models_fault, SaysModels, ModelsFault}
use Rattle.blif_read.specs.declared.models.BlifModel.{BlifModel}
use Rattle.blif_read.specs.declared.netlist.BlifFault.{BlifFault}
use Rattle.blif_read.proofs.laws.each_design.Goals as goal

one_of : (text : List ℕ) (o : Option BlifFault) → models_fault (parts_of (logical_lines text)) ≡ o
    → ((models : List BlifModel) × SaysModels text models) ⊎ ((fault : BlifFault) × ModelsFault text fault)
one_of text None e = inl (map model_of (parts_of (logical_lines text)), record { sound = e; each = refl })
one_of text (Some fault) e = inr (fault, e)

same : (o : Option BlifFault) (a b : BlifFault) → o ≡ Some a → o ≡ Some b → a ≡ b
same o a b p q = cc

never : (o : Option BlifFault) (a : BlifFault) → o ≡ None → o ≡ Some a → ⊥
never o a p q = cc

pub returns-clause-some : goal.returns-clause-some
returns-clause-some c text = one_of text (models_fault (parts_of (logical_lines text))) refl

pub returns-clause-one_list : goal.returns-clause-one_list
returns-clause-one_list c text a b p q = p.each ∙ sym q.each

pub returns-clause-one_fault : goal.returns-clause-one_fault
returns-clause-one_fault c text a b p q = same (models_fault (parts_of (logical_lines text))) a b p q

pub returns-clause-not_both : goal.returns-clause-not_both
returns-clause-not_both c text models fault p q = never (models_fault (parts_of (logical_lines text))) fault p.sound q
