-- A text that is no design says a netlist, or has a first fault.
use Rattle.std.proofs.Common.{◌≡◌, ℕ, Bool, true, false, List, Some, None, sym, ap, ◌∙◌, subst}
use Rattle.blif_read.specs.Lines.{Line, logical_lines}
use Rattle.blif_read.specs.Parts.{NetView, netlist_of}
use Rattle.blif_read.specs.Faults.{fault_of}
use Rattle.blif_read.specs.Models.{is_design, ModelsFault}
use Rattle.blif_read.specs.Says.{SaysNet, Fault, IfBad}
use Rattle.blif_read.specs.Reads.{TextFault}
use Rattle.blif_read.specs.declared.netlist.BlifRefusal.{BlifRefusal}
use Rattle.blif_read.specs.declared.netlist.BlifRefusal.TheVariants.{Bad, Memory}

pub plain_says : (text : List ℕ) (lines : List Line) (net : NetView) → lines ≡ logical_lines text → (b : Bool)
    → b ≡ is_design lines → b ≡ false
    → fault_of lines ≡ None → net ≡ netlist_of lines → (is_design (logical_lines text) ≡ false) × SaysNet text net
plain_says text lines net e b d p sound parts =
    (ap is_design (sym e) ∙ sym d ∙ p, record { sound = ap fault_of (sym e) ∙ sound; parts = parts ∙ ap netlist_of e })

pub plain_fails : (text : List ℕ) (lines : List Line) (refusal : BlifRefusal) → lines ≡ logical_lines text → (b : Bool)
    → b ≡ is_design lines → b ≡ false
    → IfBad refusal (λ fault. fault_of lines ≡ Some fault) → IfBad refusal (TextFault text)
plain_fails text lines Memory e b d p h = tt
plain_fails text lines (Bad fault) e b d p h =
    subst (λ (x : Bool). elim x as (λ (y : Bool). Type 0) [ true ↦ ModelsFault text fault | false ↦ Fault text fault ])
    (sym (ap is_design (sym e) ∙ sym d ∙ p)) (ap fault_of (sym e) ∙ h)
