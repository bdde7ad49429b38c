-- A text says at most one netlist, which keeps what netlists do, and one that says a netlist is refused for want of
-- memory alone.
use Rattle.std.proofs.Common.{◌≡◌, ℕ, ◌≤◌, ◌^◌, Bool, true, false, List, length, refl, sym, ap, ◌∙◌, subst, arith, inl}
use Rattle.std.proofs.Common.{inr}
use Rattle.blif_read.specs.Lines.{logical_lines}
use Rattle.blif_read.specs.Parts.{NetView}
use Rattle.blif_read.specs.Says.{SaysNet}
use Rattle.blif_read.specs.Netlist.{IsNetlist}
use Rattle.blif_read.proofs.Said.{said_keeps}
use Rattle.blif_read.specs.declared.models.BlifModel.{BlifModel}
use Rattle.blif_flat.specs.DesignText.{is_design, IsBuildable, IsToldFault, OfModels, SaysExpansion, SaysNetlist}
use Rattle.blif_flat.specs.DesignText.{IsDesignRefusal, IsTextRefusal, IsNetlistRefusal}
use Rattle.blif_flat.specs.Expansion.{expansion}
use Rattle.blif_flat.specs.declared.design.FlatKind.{FlatKind}
use Rattle.blif_flat.specs.declared.design.FlatKind.TheVariants.{ModelTwice, UnknownModel, Ports, Duplicate, Undefined}
use Rattle.blif_flat.specs.declared.design.FlatKind.TheVariants.{Recursive, NoOutputs}
use Rattle.blif_flat.specs.declared.design.FlatRefusal.{FlatRefusal}
use Rattle.blif_flat.specs.declared.design.FlatRefusal.TheVariants.{Text, Design, TooMany, Memory}
use Rattle.blif_flat.proofs.ExpandedParts.{said_parts, netlist_from_parts}
use Rattle.blif_flat.proofs.OneRefusal.{one_list}

-- what a text says, by whether it is a design
abbrev SaysBy : Bool → List ℕ → NetView → Type 0
SaysBy b text net = elim b [ true ↦ OfModels text (SaysExpansion net) | false ↦ SaysNet text net ]

abbrev IsRefusedBy : Bool → List ℕ → FlatRefusal → Type 0
IsRefusedBy b text refusal = elim b [ true ↦ IsDesignRefusal text refusal | false ↦ IsTextRefusal text refusal ]

keeps_by : (b : Bool) (text : List ℕ) (net : NetView) → length text ≤ 2 ^ 27 → SaysBy b text net → IsNetlist net
keeps_by true text net few says = subst IsNetlist (sym says.fact.is)
    (netlist_from_parts (expansion says.models) (said_parts text says.models few says.said says.fact.buildable)
    says.fact.no_cycle)
keeps_by false text net few says = said_keeps text net (omega (arith, few)) says

pub net_keeps : (text : List ℕ) (net : NetView) → length text ≤ 2 ^ 27 → SaysNetlist text net → IsNetlist net
net_keeps text net few says = keeps_by (is_design (logical_lines text)) text net few says

one_by : (b : Bool) (text : List ℕ) (net other : NetView) → SaysBy b text net → SaysBy b text other → net ≡ other
one_by true text net other p q = p.fact.is ∙ ap expansion (one_list text p.models q.models p.said q.said)
    ∙ sym q.fact.is
one_by false text net other p q = p.parts ∙ sym q.parts

pub one_net : (text : List ℕ) (net other : NetView) → SaysNetlist text net → SaysNetlist text other → net ≡ other
one_net text net other p q = one_by (is_design (logical_lines text)) text net other p q

-- models that a netlist is built from have no fault that is told
no_fault : (models : List BlifModel) (line : ℕ) (kind : FlatKind) → IsBuildable models
    → IsToldFault models line kind → ⊥
no_fault models line ModelTwice ok told = ok.laid_out.joined line ModelTwice told.is
no_fault models line UnknownModel ok told = ok.laid_out.joined line UnknownModel told.is
no_fault models line Ports ok told = ok.laid_out.joined line Ports told.is
no_fault models line Duplicate ok told = ok.laid_out.joined line Duplicate told.is
no_fault models line Undefined ok told = ok.laid_out.joined line Undefined told.is
no_fault models line Recursive ok told =
    let some = told.loop.first in
    let none = ok.laid_out.straight in
    absurd (cc)
no_fault models line NoOutputs ok told =
    let some = ok.some_output in
    let none = told.none in
    omega (arith, some, none)

design_by : (text : List ℕ) (net : NetView) (refusal : FlatRefusal) → OfModels text (SaysExpansion net)
    → IsDesignRefusal text refusal → refusal ≡ Memory
design_by text net Memory says refused = refl
design_by text net (Text fault) says (inl early) = absurd (let none = says.said.sound in cc)
design_by text net (Text fault) says (inr late) =
    let same = one_list text says.models late.models says.said late.said in
    let none = subst (λ models. SaysExpansion net models) same says.fact in
    let free = none.no_cycle in
    let some = late.fact.first in
    absurd (cc)
design_by text net (Design line kind) says refused =
    let same = one_list text says.models refused.models says.said refused.said in
    absurd (no_fault refused.models line kind (subst IsBuildable same says.fact.buildable) refused.fact)
design_by text net (TooMany size) says refused =
    let same = one_list text says.models refused.models says.said refused.said in
    let small = (subst IsBuildable same says.fact.buildable).small in
    let large = refused.fact.large in
    absurd (omega (arith, small, large))

text_by : (text : List ℕ) (net : NetView) (refusal : FlatRefusal) → SaysNet text net → IsTextRefusal text refusal
    → refusal ≡ Memory
text_by text net Memory says refused = refl
text_by text net (Text fault) says refused = absurd (let none = says.sound in cc)
text_by text net (Design line kind) says refused = absurd refused
text_by text net (TooMany size) says refused = absurd refused

refused_by : (b : Bool) (text : List ℕ) (net : NetView) (refusal : FlatRefusal) → SaysBy b text net
    → IsRefusedBy b text refusal → refusal ≡ Memory
refused_by true text net refusal says refused = design_by text net refusal says refused
refused_by false text net refusal says refused = text_by text net refusal says refused

pub memory_alone : (text : List ℕ) (net : NetView) (refusal : FlatRefusal) → SaysNetlist text net
    → IsNetlistRefusal text refusal → refusal ≡ Memory
memory_alone text net refusal says refused = refused_by (is_design (logical_lines text)) text net refusal says refused
