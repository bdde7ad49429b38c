-- The netlist that a text says answers each word as the first of the text's models.
use Rattle.std.proofs.Common.{◌≡◌, ℕ, Bool, true, false, not, cond, List, [], ◌∷◌, ◌++◌, map, length, Some}
use Rattle.std.proofs.Common.{Option, None, refl, sym, ap, ◌∙◌, subst, flat_map}
use Rattle.std.specs.Prelude.{nat_lt}
use Rattle.std.specs.List.{AllByRecursion, IsDistinct, list_all, list_any, count_by}
use Rattle.std.specs.Str.{bytes_eq}
use Rattle.std.proofs.lemmas.Bool.{or_parts, and_parts, true≢false}
use Rattle.std.proofs.lemmas.List.{length-map, append-nil, map-append}
use Rattle.circuit.specs.SameAnswers.{SameAnswers}
use Rattle.blif_read.specs.Lines.{Line, logical_lines}
use Rattle.blif_read.specs.Statements.{word, arguments, is_model, front_of, inputs_in, outputs_in, used_in}
use Rattle.blif_read.specs.Parts.{NetView, number, signals, is_defined, netlist_of, rows_before_others}
use Rattle.blif_read.specs.Parts.{definitions as line_definitions}
use Rattle.blif_read.specs.Faults.{line_fault, outputs_fault, undefined_fault, cycle_fault, fault_of}
use Rattle.blif_read.specs.Models.{named_definition, named_definition_at, is_call}
use Rattle.blif_read.specs.Models.{named_definitions, model_of, parts_of}
use Rattle.blif_read.specs.Says.{SaysNet}
use Rattle.blif_read.specs.Equations.{IsAnswer}
use Rattle.blif_read.specs.declared.words.Statement.{Statement}
use Rattle.blif_read.specs.declared.words.Statement.TheVariants.{Model, Inputs, Outputs, Names, Subckt, End, Passed}
use Rattle.blif_read.specs.declared.words.Statement.TheVariants.{Other, Row}
use Rattle.blif_read.specs.declared.netlist.BlifFault.{BlifFault}
use Rattle.blif_read.specs.declared.netlist.Def.{Def}
use Rattle.blif_read.specs.declared.models.NamedDef.{NamedDef}
use Rattle.blif_read.specs.declared.models.BlifModel.{BlifModel}
use Rattle.blif_read.proofs.Distinct.{none_or, signals_distinct}
use Rattle.blif_read.proofs.Within.{all_join}
use Rattle.blif_flat.specs.Designs.{names_in, first_model}
use Rattle.blif_flat.specs.DesignText.{is_design, OfModels, SaysExpansion, SaysNetlist}
use Rattle.blif_flat.specs.Expansion.{wire, own, WireDef, wires, numbered, definitions, expansion}
use Rattle.blif_flat.specs.Expansion as flat
use Rattle.blif_flat.specs.Meaning.{models_in, inputs_of, outputs_of, TextAnswers}
use Rattle.blif_flat.specs.NetMeaning.{NetMeans}
use Rattle.blif_flat.proofs.Members.{Among, AreApart, all_weaker, among_any}
use Rattle.blif_flat.proofs.Members.{same_bytes, map_map}
use Rattle.blif_flat.proofs.JoinedModels.{driven_names}
use Rattle.blif_flat.proofs.SoundModels.{IsSound}
use Rattle.blif_flat.proofs.ExpandedNet.{sound_means, net_means}
use Rattle.blif_flat.proofs.PlainModel.{inputs_named, outputs_named, output, defined_named, by_number}
use Rattle.blif_flat.proofs.PlainModel.{definitions_named, none_called, own_numbered, outputs_numbered}

-- ---- lines without faults drive names that differ, and use none but these

apart_of : (names : List (List ℕ)) → IsDistinct bytes_eq names → AreApart names
unfolding IsDistinct
apart_of [] d = tt
apart_of (n ∷ names) d = (
  all_weaker (λ m. bytes_eq n m ≡ false) (λ m. n ≡ m → ⊥)
      (λ m off same. true≢false (sym (same_bytes n m same) ∙ off)) names d.0,
  apart_of names d.1,
)

all_there : (names used : List (List ℕ)) → list_all (is_defined names) used ≡ true
    → AllByRecursion (λ s. Among s names) used
all_there names [] e = tt
all_there names (s ∷ used) e =
    let both = and_parts (is_defined names s) (list_all (is_defined names) used) e in
    (among_any names s both.0, all_there names used both.1)

none_undefined : (b : Bool) (f : BlifFault) (rest : Option BlifFault) → cond (not b) (Some f) rest ≡ None
    → (b ≡ true) × (rest ≡ None)
none_undefined true f rest e = (refl, e)
none_undefined false f rest e = absurd cc

-- each name that the definition reads is there
abbrev ReadsOf : List (List ℕ) → NamedDef → Type 0
ReadsOf names d = AllByRecursion (λ s. Among s names) d.inputs

reads_at : (w : Statement) (names front more : List (List ℕ)) (def : NamedDef) → def.inputs ≡ front
    → list_all (is_defined names)
    (elim w as (λ (x : Statement). List (List ℕ)) [ Names ↦ front | Outputs ↦ more | _ ↦ [] ]) ≡ true
    → AllByRecursion (ReadsOf names) (elim w as (λ (x : Statement). List NamedDef) [ Names ↦ def ∷ [] | _ ↦ [] ])
reads_at Names names front more def is e =
    (subst (AllByRecursion (λ s. Among s names)) (sym is) (all_there names front e), tt)
reads_at Outputs names front more def is e = tt
reads_at Model names front more def is e = tt
reads_at Inputs names front more def is e = tt
reads_at Subckt names front more def is e = tt
reads_at End names front more def is e = tt
reads_at Passed names front more def is e = tt
reads_at Other names front more def is e = tt
reads_at Row names front more def is e = tt

shown_at : (w : Statement) (names front more : List (List ℕ))
    → list_all (is_defined names)
    (elim w as (λ (x : Statement). List (List ℕ)) [ Names ↦ front | Outputs ↦ more | _ ↦ [] ]) ≡ true
    → AllByRecursion (λ s. Among s names)
    (elim w as (λ (x : Statement). List (List ℕ)) [ Outputs ↦ more | _ ↦ [] ])
shown_at Outputs names front more e = all_there names more e
shown_at Names names front more e = tt
shown_at Model names front more e = tt
shown_at Inputs names front more e = tt
shown_at Subckt names front more e = tt
shown_at End names front more e = tt
shown_at Passed names front more e = tt
shown_at Other names front more e = tt
shown_at Row names front more e = tt

reads_there : (names : List (List ℕ)) (lines : List Line) → undefined_fault names lines ≡ None
    → AllByRecursion (ReadsOf names) (named_definitions lines)
reads_there names [] e = tt
reads_there names (l ∷ ls) e =
    let both = none_undefined (list_all (is_defined names) (used_in l)) _ (undefined_fault names ls) e in
    all_join (ReadsOf names) (named_definition_at l ls) (named_definitions ls)
    (reads_at (word l) names (front_of (arguments l)) (arguments l)
    (named_definition l.number (arguments l) (rows_before_others ls)) refl both.0)
    (reads_there names ls both.1)

outputs_there : (names : List (List ℕ)) (lines : List Line) → undefined_fault names lines ≡ None
    → AllByRecursion (λ s. Among s names) (flat_map outputs_in lines)
outputs_there names [] e = tt
outputs_there names (l ∷ ls) e =
    let both = none_undefined (list_all (is_defined names) (used_in l)) _ (undefined_fault names ls) e in
    all_join (λ s. Among s names) (outputs_in l) (flat_map outputs_in ls)
    (shown_at (word l) names (front_of (arguments l)) (arguments l) both.0) (outputs_there names ls both.1)

-- ---- a model without calls

-- the model without its calls
abbrev alone : BlifModel → BlifModel
alone m = record m { calls = [] }

-- the signals of a model without calls
abbrev own_names : BlifModel → List (List ℕ)
own_names m = names_in m.inputs ++ map output m.defs

-- its netlist, by the places of its names
abbrev net_by : List (List ℕ) → BlifModel → NetView
net_by names m = record {
  inputs = length m.inputs;
  names = names;
  defs = map (by_number (own_names m)) m.defs;
  outputs = map (number (own_names m)) (names_in m.outputs);
}

module _ (m : BlifModel) (apart : AreApart (own_names m)) (reads : AllByRecursion (ReadsOf (own_names m)) m.defs)
    (shown : AllByRecursion (λ s. Among s (own_names m)) (names_in m.outputs)) where
  abbrev one : List BlifModel
  one = alone m ∷ []

  driven : driven_names one (alone m) ≡ own_names m
  driven = append-nil (own_names m)

  sound : IsSound 1 one (alone m)
  sound = (
    record {
      apart = subst AreApart (sym driven) apart;
      defs = subst (λ names. AllByRecursion (ReadsOf names) m.defs) (sym driven) reads;
      calls = tt;
      outputs = subst (λ names. AllByRecursion (λ s. Among s names) (names_in m.outputs)) (sym driven) shown;
    },
    tt,
  )

  defs_are : definitions one ≡ map (own 0) m.defs
  defs_are = append-nil (map (own 0) m.defs)

  wires_are : wires one ≡ map (wire 0) (own_names m)
  wires_are = ap (λ ds. map (wire 0) (names_in m.inputs) ++ map (λ d. d.output) ds) defs_are
      ∙ ap (λ back. map (wire 0) (names_in m.inputs) ++ back)
      (map_map (λ (d : WireDef). d.output) (own 0) m.defs ∙ sym (map_map (wire 0) output m.defs))
      ∙ sym (map-append (wire 0) (names_in m.inputs) (map output m.defs))

  -- it answers as the equations with its names as numbers
  pub alone_means : (names : List (List ℕ)) → NetMeans one (net_by names m)
  unfolding expansion
  alone_means names word answer size =
      let both = sound_means one sound word answer size in
      let defs : (expansion one).defs ≡ map (by_number (own_names m)) m.defs =
      (λ i. map (numbered (wires_are i)) (defs_are i)) ∙ own_numbered (own_names m) m.defs in
      let outputs : (expansion one).outputs ≡ map (number (own_names m)) (names_in m.outputs) =
      ap (λ ws. map (λ o. flat.number ws (wire 0 o)) (names_in m.outputs)) wires_are
      ∙ outputs_numbered (own_names m) (names_in m.outputs) in
      let as_net : List Def → List ℕ → NetView = λ ds os. record {
        inputs = length m.inputs;
        names = names;
        defs = ds;
        outputs = os;
      } in (
        λ a.
            let of = both.0 a in
            subst (λ ds. IsAnswer (as_net ds (map (number (own_names m)) (names_in m.outputs))) word answer) defs
            (subst (λ os. IsAnswer (as_net (expansion one).defs os) word answer) outputs
            (record { values = of.values; fit = of.fit; shown = of.shown })),
        λ a.
            let of = subst (λ ds. IsAnswer (as_net ds (expansion one).outputs) word answer) (sym defs)
            (subst (λ os. IsAnswer (as_net (map (by_number (own_names m)) m.defs) os) word answer) (sym outputs) a) in
            both.1 (record { values = of.values; fit = of.fit; shown = of.shown }),
      )

-- ---- lines without calls and without faults

alone_is : (m : BlifModel) → m.calls ≡ [] → alone m ≡ m
alone_is m none = λ i. record {
  line = m.line;
  name = m.name;
  inputs = m.inputs;
  outputs = m.outputs;
  defs = m.defs;
  calls = sym none i;
}

module _ (lines : List Line) (none : list_any (λ line. is_call (word line)) lines ≡ false)
    (sound : fault_of lines ≡ None) where
  abbrev m : BlifModel
  m = model_of lines

  no_line : line_fault false [] lines ≡ None
  no_line = (none_or (line_fault false [] lines) _ sound).0

  defined : undefined_fault (signals lines) lines ≡ None
  defined = (none_or (undefined_fault (signals lines) lines) (cycle_fault (netlist_of lines))
      (none_or (outputs_fault lines) _ (none_or (line_fault false [] lines) _ sound).1).1).0

  names_are : own_names m ≡ signals lines
  names_are = λ i. inputs_named lines i ++ sym (defined_named [] lines no_line) i

  input_count : length m.inputs ≡ length (flat_map inputs_in lines)
  input_count = sym (length-map m.inputs (λ n. n.name)) ∙ ap (λ (names : List (List ℕ)). length names)
      (inputs_named lines)

  net_is : net_by (signals lines) m ≡ netlist_of lines
  net_is =
      let defs : map (by_number (own_names m)) m.defs ≡ line_definitions (signals lines) lines =
      ap (λ names. map (by_number names) m.defs) names_are ∙ sym (definitions_named (signals lines) lines) in
      λ i. record {
        inputs = input_count i;
        names = signals lines;
        defs = defs i;
        outputs = map (number (names_are i)) (outputs_named lines i);
      }

  lines_mean : NetMeans (m ∷ []) (netlist_of lines)
  lines_mean = subst (λ net. NetMeans (m ∷ []) net) net_is
      (subst (λ x. NetMeans (x ∷ []) (net_by (signals lines) m)) (alone_is m (none_called lines none))
      (alone_means m
      (subst AreApart (sym names_are) (apart_of (signals lines) (signals_distinct false lines no_line)))
      (subst (λ names. AllByRecursion (ReadsOf names) m.defs) (sym names_are)
      (reads_there (signals lines) lines defined))
      (subst (λ names. AllByRecursion (λ s. Among s names) (names_in m.outputs)) (sym names_are)
      (subst (AllByRecursion (λ s. Among s (signals lines))) (sym (outputs_named lines))
      (outputs_there (signals lines) lines defined)))
      (signals lines)))

-- ---- a text

-- a netlist answers as the first of some models, with as many inputs and outputs
pub record IsNetOf (models : List BlifModel) (net : NetView) : Type 0 where
  pub means : NetMeans models net
  pub inputs : net.inputs ≡ length (first_model models).inputs
  pub outputs : length net.outputs ≡ length (first_model models).outputs

design_is : (models : List BlifModel) (net : NetView) → NetMeans models net → net ≡ expansion models
    → IsNetOf models net
unfolding expansion
design_is models net means is = record {
  means = means;
  inputs = ap (λ (n : NetView). n.inputs) is;
  outputs = ap (λ (n : NetView). length n.outputs) is
      ∙ length-map (names_in (first_model models).outputs) (λ o. flat.number (wires models) (wire 0 o))
      ∙ length-map (first_model models).outputs (λ n. n.name);
}

plain_is : (lines : List Line) → list_any (λ line. is_call (word line)) lines ≡ false → fault_of lines ≡ None
    → IsNetOf (model_of lines ∷ []) (netlist_of lines)
plain_is lines none sound = record {
  means = lines_mean lines none sound;
  inputs = sym (input_count lines none sound);
  outputs = length-map (flat_map outputs_in lines) (number (signals lines))
      ∙ sym (ap (λ (names : List (List ℕ)). length names) (outputs_named lines))
      ∙ length-map (model_of lines).outputs (λ n. n.name);
}

module _ (text : List ℕ) (net : NetView) (says : SaysNetlist text net) where
  abbrev text_lines : List Line
  text_lines = logical_lines text

  says_by : (b : Bool) → is_design text_lines ≡ b → (elim b as (λ (x : Bool). Type 0) [
    | true ↦ OfModels text (SaysExpansion net)
    | false ↦ SaysNet text net
  ])
  says_by b e = subst (λ c. elim c as (λ (x : Bool). Type 0) [
    | true ↦ OfModels text (SaysExpansion net)
    | false ↦ SaysNet text net
  ]) e says

  models_by : (b : Bool) → is_design text_lines ≡ b → models_in text ≡ (elim b as (λ (x : Bool). List BlifModel) [
    | true ↦ map model_of (parts_of text_lines)
    | false ↦ model_of text_lines ∷ []
  ])
  models_by b e = ap (λ c. elim c as (λ (x : Bool). List BlifModel) [
    | true ↦ map model_of (parts_of text_lines)
    | false ↦ model_of text_lines ∷ []
  ]) e

  by_kind : (b : Bool) → is_design text_lines ≡ b → IsNetOf (models_in text) net
  by_kind true e =
      let of : OfModels text (SaysExpansion net) = says_by true e in
      let is : IsNetOf of.models net =
      design_is of.models net (subst (NetMeans of.models) (sym of.fact.is) (net_means of.models of.fact.buildable))
      of.fact.is in
      subst (λ models. IsNetOf models net) (of.said.each ∙ sym (models_by true e)) is
  by_kind false e =
      let plain : SaysNet text net = says_by false e in
      let none = (or_parts (list_any (λ line. is_call (word line)) text_lines)
      (nat_lt 1 (count_by (λ line. is_model (word line)) text_lines)) e).0 in
      subst (λ models. IsNetOf models net) (sym (models_by false e))
      (subst (IsNetOf (model_of text_lines ∷ [])) (sym plain.parts) (plain_is text_lines none plain.sound))

  pub answers_as : SameAnswers (inputs_of text) net.inputs (outputs_of text) (length net.outputs) (TextAnswers text)
      (IsAnswer net)
  answers_as =
      let is : IsNetOf (models_in text) net = by_kind (is_design text_lines) refl in
      record {
        same_inputs = is.inputs;
        same_outputs = is.outputs;
        there = λ x y wide. (is.means x y (wide ∙ sym is.inputs)).0;
        back = λ x y wide. (is.means x y (wide ∙ sym is.inputs)).1;
      }
