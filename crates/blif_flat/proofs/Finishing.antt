-- What is finished of a design's wires and definitions is the netlist that its text says, and its refusals are those of
-- that text.
use Rattle.std.proofs.Common.{◌≡◌, ◌<◌, ◌^◌, ℕ, List, map, Result, Ok, Err, IfOk, IfErr, OnOk, None, length, refl, sym}
use Rattle.std.proofs.Common.{ap, ◌∙◌, arith}
use Rattle.std.specs.Prelude.{slice_index_or}
use Rattle.std.proofs.lemmas.List.{get_or_default, length-map}
use Rattle.blif_read.specs.Parts.{NetView}
use Rattle.blif_read.specs.Netlist.{AreParts}
use Rattle.blif_read.specs.Walk.{first_cycle}
use Rattle.blif_read.specs.declared.netlist.Def.{Def}
use Rattle.blif_read.specs.declared.models.Named.{Named}
use Rattle.blif_read.specs.declared.models.BlifModel.{BlifModel}
use Rattle.blif_flat.specs.Designs.{names_in, no_model, first_model}
use Rattle.blif_flat.specs.DesignText.{IsBuildable, SaysExpansion}
use Rattle.blif_flat.specs.Expansion.{Wire, wire, wires, number, kept_names, expansion}
use Rattle.blif_flat.specs.declared.design.FlatRefusal.{FlatRefusal}
use Rattle.blif_flat.specs.declared.design.FlatRefusal.TheVariants.{Text, Design, TooMany, Memory}
use Rattle.blif_flat.specs.Code.Building.{IsModelsRefusal}
use Rattle.blif_flat.specs.Code.Finished.{net_of, closed, IsUnfinished}
use Rattle.blif_flat.specs.declared.expansion.wires.Place.{Place}
use Rattle.blif_flat.specs.Code.Wired.{wire_of, wires_of}
use Rattle.blif_flat.proofs.ExpandedSize.{wires_count}
use Rattle.blif_flat.proofs.KeptNames.{kept_count}

-- the expansion, by its parts
pub record AreExpanded (models : List BlifModel) (inputs : ℕ) (ws : List Wire) (defs : List Def) (outputs : List ℕ)
    : Type 0 where
  pub same_inputs : inputs ≡ (expansion models).inputs
  pub same_wires : ws ≡ wires models
  pub same_defs : defs ≡ (expansion models).defs
  pub same_outputs : outputs ≡ (expansion models).outputs

names_of : (models : List BlifModel) → kept_names 0 (wires models) ≡ (expansion models).names
unfolding expansion
names_of models = refl

module _ (models : List BlifModel) (inputs : ℕ) (ws : List Wire) (defs : List Def) (outputs : List ℕ)
    (ok : AreExpanded models inputs ws defs outputs) where
  pub whole : net_of inputs ws defs outputs ≡ expansion models
  whole =
      let names = ap (kept_names 0) ok.same_wires ∙ names_of models in
      λ i. record {
        inputs = ok.same_inputs i;
        names = names i;
        defs = ok.same_defs i;
        outputs = ok.same_outputs i;
      }

  pub says_expansion : (net : NetView) → IsBuildable models → net ≡ net_of inputs ws defs outputs
      → first_cycle inputs defs ≡ None → SaysExpansion net models
  says_expansion net buildable is free = record {
    buildable = buildable;
    no_cycle = sym (λ i. first_cycle (ok.same_inputs i) (ok.same_defs i)) ∙ free;
    is = is ∙ whole;
  }

-- the parts as the program makes them
pub are_expanded : (models : List BlifModel) (first : BlifModel) (inputs n : ℕ) (ws seen : List Wire) (defs : List Def)
    (outputs : List ℕ) (named : List Named) → 0 < length models → first ≡ slice_index_or models 0 first → inputs ≡ n
    → n ≡ length first.inputs → ws ≡ wires models → seen ≡ wires models → defs ≡ (expansion models).defs
    → outputs ≡ map (λ o. number seen (wire 0 o)) (names_in named) → named ≡ first.outputs
    → AreExpanded models inputs ws defs outputs
unfolding expansion
are_expanded models first inputs n ws seen defs outputs named some at i count w s d o shown =
    let same : first ≡ first_model models = at ∙ get_or_default models 0 first no_model some in
    record {
      same_inputs = i ∙ count ∙ ap (λ (m : BlifModel). length m.inputs) same;
      same_wires = w;
      same_defs = d;
      same_outputs = o
          ∙ (λ j. map (λ x. number (s j) (wire 0 x)) (names_in ((shown ∙ ap (λ (m : BlifModel). m.outputs) same) j)));
    }

module _ (models : List BlifModel) (inputs : ℕ) (ws : List Wire) (defs : List Def) (outputs : List ℕ)
    (ok : AreExpanded models inputs ws defs outputs) (buildable : IsBuildable models) where
  pub expand_ok : (r : Result NetView FlatRefusal) → IfOk r (λ net. net ≡ net_of inputs ws defs outputs)
      → OnOk r (first_cycle inputs defs ≡ None) → IfOk r (λ net. SaysExpansion net models)
  expand_ok (Ok net) is free = says_expansion models inputs ws defs outputs ok net buildable is free
  expand_ok (Err refusal) is free = tt

  told_models : (refusal : FlatRefusal) → IsUnfinished inputs ws defs refusal → IsModelsRefusal models refusal
  told_models Memory refused = tt
  told_models (Design line kind) refused = absurd refused
  told_models (TooMany size) refused = absurd refused
  told_models (Text fault) refused = record {
    buildable = buildable;
    cycle = refused.cycle;
    first = sym (λ i. first_cycle (ok.same_inputs i) (ok.same_defs i)) ∙ refused.first;
    told = refused.told ∙ (λ i. closed (ok.same_inputs i) (ok.same_wires i) (ok.same_defs i) refused.cycle);
  }

  pub expand_err : (r : Result NetView FlatRefusal) → IfErr r (IsUnfinished inputs ws defs)
      → IfErr r (IsModelsRefusal models)
  expand_err (Ok net) refused = tt
  expand_err (Err refusal) refused = told_models refusal refused

-- ---- 32 bits hold the numbers of wires

few_kept : (inputs : ℕ) (ws : List Wire) (defs : List Def) (outputs : List ℕ)
    → AreParts (net_of inputs ws defs outputs) → length ws < 2 ^ 28
few_kept inputs ws defs outputs parts = let small = parts.small in omega (arith, small, kept_count 0 ws)

pub few_named : (inputs : ℕ) (places : List Place) (defs : List Def) (outputs : List ℕ)
    → AreParts (net_of inputs (wires_of places) defs outputs)
    → length places < 2 ^ 32
few_named inputs places defs outputs parts =
    let few = few_kept inputs (wires_of places) defs outputs parts in
    omega (arith, few, length-map places wire_of)

pub few_wires : (models : List BlifModel) → AreParts (expansion models) → length (wires models) < 2 ^ 28
unfolding expansion
few_wires models parts = let small = parts.small in omega (arith, small, kept_count 0 (wires models))

pub few_places : (models : List BlifModel) (places : List Place) → AreParts (expansion models)
    → wires_of places ≡ wires models
    → length places < 2 ^ 32
few_places models places parts are =
    let size = ap (λ (ws : List Wire). length ws) are in
    let few = few_wires models parts in
    omega (arith, few, size, length-map places wire_of)

pub few_inputs : (models : List BlifModel) (first : BlifModel) (n : ℕ) → AreParts (expansion models) → 0 < length models
    → first ≡ slice_index_or models 0 first → n ≡ length first.inputs → n < 2 ^ 32
few_inputs models first n parts some at count =
    let same : first ≡ first_model models = at ∙ get_or_default models 0 first no_model some in
    let inputs = ap (λ (m : BlifModel). length m.inputs) same in
    let few = few_wires models parts in
    omega (arith, few, inputs, count, wires_count models)
