use Rattle.std.proofs.Common.{◌≡◌, ◌⊎◌, ◌∙◌, sym, ℕ, List, Option, None, Some, inl, inr, refl}
use Rattle.blif_read.specs.Lines.{logical_lines}
use Rattle.blif_read.specs.Parts.{NetView, netlist_of}
use Rattle.blif_read.specs.Faults.{fault_of}
use Rattle.blif_read.specs.Says.{SaysNet, Fault}
use Rattle.blif_read.specs.declared.netlist.BlifFault.{BlifFault}
use Rattle.blif_read.proofs.laws.each_text.Goals as goal

one_of : (text : List ℕ) (o : Option BlifFault) → fault_of (logical_lines text) ≡ o
    → ((net : NetView) × SaysNet text net) ⊎ ((fault : BlifFault) × Fault text fault)
one_of text None e = inl (netlist_of (logical_lines text), record { sound = e; parts = refl })
one_of text (Some fault) e = inr (fault, e)

same : (o : Option BlifFault) (a b : BlifFault) → o ≡ Some a → o ≡ Some b → a ≡ b
same o a b p q = cc

never : (o : Option BlifFault) (a : BlifFault) → o ≡ None → o ≡ Some a → ⊥
never o a p q = cc

pub returns-clause-some : goal.returns-clause-some
returns-clause-some c text = one_of text (fault_of (logical_lines text)) refl

pub returns-clause-one_netlist : goal.returns-clause-one_netlist
returns-clause-one_netlist c text a b p q = p.parts ∙ sym q.parts

pub returns-clause-one_fault : goal.returns-clause-one_fault
returns-clause-one_fault c text a b p q = same (fault_of (logical_lines text)) a b p q

pub returns-clause-not_both : goal.returns-clause-not_both
returns-clause-not_both c text net fault p q = never (fault_of (logical_lines text)) fault p.sound q
