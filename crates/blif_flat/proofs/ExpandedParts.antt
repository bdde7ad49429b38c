-- The netlist of a design that a text says has the parts of a netlist.
use Rattle.std.proofs.Common.{◌≡◌, ℕ, zero, suc, ◌+◌, ◌<◌, ◌≤◌, ◌^◌, Bool, true, false, drop, List, [], ◌∷◌, ◌++◌, map}
use Rattle.std.proofs.Common.{length, Option, Some, None, refl, sym, subst, arith, flat_map, length-append}
use Rattle.std.specs.Prelude.{slice_index_or}
use Rattle.std.specs.List.{AllByRecursion}
use Rattle.std.proofs.lemmas.List.{length-map}
use Rattle.std.proofs.lemmas.List.Sums.{sum_by-cons}
use Rattle.blif_read.specs.Lines.{Line, logical_lines}
use Rattle.blif_read.specs.Statements.{word, arguments, inputs_in, outputs_in, is_model}
use Rattle.blif_read.specs.Parts.{NetView}
use Rattle.blif_read.specs.Models.{onto, ended, parts_behind, parts_of, named, named_inputs, named_outputs, model_of}
use Rattle.blif_read.specs.Models.{SaysModels}
use Rattle.blif_read.specs.Netlist.{IsPlane, IsDef, AreParts, IsNetlist}
use Rattle.blif_read.specs.Code.Size.{bytes_of, token_bytes, IsCut}
use Rattle.blif_read.specs.declared.words.Statement.{Statement}
use Rattle.blif_read.specs.declared.words.Statement.TheVariants.{Model, Inputs, Outputs, Names, Subckt, End, Passed}
use Rattle.blif_read.specs.declared.words.Statement.TheVariants.{Other, Row}
use Rattle.blif_read.specs.Walk.{first_cycle}
use Rattle.blif_read.proofs.Counted.{text_is_cut, token_each}
use Rattle.blif_read.proofs.Depths.{no_cycle}
use Rattle.blif_read.proofs.Whole.{within}
use Rattle.blif_read.proofs.Within.{IsWithinDef, all_join}
use Rattle.blif_read.specs.declared.netlist.Def.{Def}
use Rattle.blif_read.specs.declared.models.Call.{Call}
use Rattle.blif_read.specs.declared.models.NamedDef.{NamedDef}
use Rattle.blif_read.specs.declared.models.BlifModel.{BlifModel}
use Rattle.blif_flat.specs.Designs.{names_in, model_number, model_at, called, no_model, actual_of, joined_outputs}
use Rattle.blif_flat.specs.Designs.{first_model}
use Rattle.blif_flat.specs.DesignSize.{design_size}
use Rattle.blif_flat.specs.DesignText.{IsBuildable}
use Rattle.blif_flat.specs.Expansion.{Wire, wire, same_wire, WireDef, own, buffer, calls_within, expanded_calls}
use Rattle.blif_flat.specs.Expansion.{expanded, definitions, wires, number, numbered, kept_names, expansion}
use Rattle.blif_flat.proofs.Members.{Among, all_from, all_mapped, all_weaker, at_among, place_below}
use Rattle.blif_flat.proofs.JoinedModels.{driven_names}
use Rattle.blif_flat.proofs.SoundModels.{IsSound, some_model, first_is_sound}
use Rattle.blif_flat.proofs.Blocks.{block_reads, output_is_there}
use Rattle.blif_flat.proofs.DistinctWires.{block_apart, own_wires}
use Rattle.blif_flat.proofs.ExpandedNet.{picks_wire}
use Rattle.blif_flat.proofs.CleanNames.{IsClean, IsCleanModel, clean_models, clean_driven, all_parts}
use Rattle.blif_flat.proofs.NamedCovers.{IsCovered, HasCovers, covered_models}
use Rattle.blif_flat.proofs.KeptNames.{IsKeepable, kept_count, kept_apart, distinct}
use Rattle.blif_flat.proofs.ExpandedSize.{wires_count, net_is_small}

-- ---- covers of the expanded definitions

record IsCoveredWire (d : WireDef) : Type 0 where
  planes : AllByRecursion (IsPlane (length d.inputs)) d.cubes
  empty : length d.cubes ≡ 0 → d.on ≡ true

owned_is_covered : (k : ℕ) (def : NamedDef) → IsCovered def → IsCoveredWire (own k def)
owned_is_covered k def ok = record {
  planes = subst (λ n. AllByRecursion (IsPlane n) def.cubes) (sym (length-map def.inputs (wire k))) ok.planes;
  empty = ok.empty;
}

buffer_is_covered : (line : ℕ) (from to : Wire) → IsCoveredWire (buffer line from to)
buffer_is_covered line from to = record { planes = (record { size = refl; bytes = refl }, tt); empty = λ e. refl }

at_index : {X : Type 0} (P : X → Type 0) (xs : List X) (n : ℕ) (d : X) → AllByRecursion P xs → P d
    → P (slice_index_or xs n d)
at_index P [] n d h p = p
at_index P (x ∷ xs) zero d h p = h.0
at_index P (x ∷ xs) (suc n) d h p = at_index P xs n d h.1 p

module _ (models : List BlifModel) (covers : AllByRecursion HasCovers models) where
  called_has_covers : (call : Call) → HasCovers (called models call)
  called_has_covers call = by (model_number models call.model)
    where
      by : (o : Option ℕ) → HasCovers (model_at models o)
      by None = tt
      by (Some n) = at_index HasCovers models n no_model covers tt

  calls_covered : (steps k n : ℕ) (calls : List Call)
      → ((m : ℕ) (model : BlifModel) → HasCovers model → AllByRecursion IsCoveredWire (expanded steps models m model))
      → AllByRecursion IsCoveredWire (expanded_calls steps models (expanded steps models) k n calls)
  calls_covered steps k n [] inner = tt
  calls_covered steps k n (call ∷ calls) inner =
      let model = called models call in
      let next = n + 1 + calls_within steps models model in
      let from = λ (i : List ℕ). buffer call.line (wire k (actual_of call i)) (wire n i) in
      let to = λ (o : List ℕ). buffer call.line (wire n o) (wire k (actual_of call o)) in
      let ins = map from (names_in model.inputs) in
      let body = expanded steps models n model in
      let outs = map to (joined_outputs models call) in
      all_join IsCoveredWire (ins ++ body ++ outs) (expanded_calls steps models (expanded steps models) k next calls)
      (all_join IsCoveredWire (ins ++ body) outs
      (all_join IsCoveredWire ins body
      (all_mapped IsCoveredWire from (names_in model.inputs)
      (all_from (λ i. IsCoveredWire (from i)) (names_in model.inputs)
      (λ i h. buffer_is_covered call.line (wire k (actual_of call i)) (wire n i))))
      (inner n model (called_has_covers call)))
      (all_mapped IsCoveredWire to (joined_outputs models call)
      (all_from (λ o. IsCoveredWire (to o)) (joined_outputs models call)
      (λ o h. buffer_is_covered call.line (wire n o) (wire k (actual_of call o))))))
      (calls_covered steps k next calls inner)

  model_covered : (steps k : ℕ) (model : BlifModel) → HasCovers model
      → AllByRecursion IsCoveredWire (expanded steps models k model)
  model_covered zero k model ok = tt
  model_covered (suc steps) k model ok =
      all_join IsCoveredWire (map (own k) model.defs)
      (expanded_calls steps models (expanded steps models) k (k + 1) model.calls)
      (all_mapped IsCoveredWire (own k) model.defs
      (all_weaker IsCovered (λ d. IsCoveredWire (own k d)) (owned_is_covered k) model.defs ok))
      (calls_covered steps k (k + 1) model.calls (model_covered steps))

-- ---- the parts

module _ (models : List BlifModel) (sound : IsSound (length models) models (first_model models))
    (clean : IsCleanModel (first_model models)) (covers : AllByRecursion HasCovers models) where
  abbrev ws : List Wire
  ws = wires models

  abbrev ds : List WireDef
  ds = definitions models

  first_covers : HasCovers (first_model models)
  first_covers = at_index HasCovers models 0 no_model covers tt

  keepable : AllByRecursion IsKeepable ws
  keepable = all_weaker (λ x. x.call ≡ 0 → Among x.name (driven_names models (first_model models))) IsKeepable
      (λ x own_name here. at_among IsClean (driven_names models (first_model models)) x.name
      (clean_driven models (first_model models) clean) (own_name here)) ws
      (own_wires models (length models) 0 (first_model models) sound)

  number_below : (n : ℕ) → length ws ≡ n → (x : Wire) → Among x ws → number ws x < n
  number_below n count x h = subst (λ m. number ws x < m) count (place_below (same_wire x) x (picks_wire x) ws h)

  each_def : (n : ℕ) → length ws ≡ n → AllByRecursion (IsDef n) (map (numbered ws) ds)
  each_def n count = all_mapped (IsDef n) (numbered ws) ds
      (all_from (λ d. IsDef n (numbered ws d)) ds
      (λ d h.
      (let ok = at_among IsCoveredWire ds d
      (model_covered models covers (length models) 0 (first_model models) first_covers) h in
      let reads = at_among (λ e. AllByRecursion (λ x. Among x ws) e.inputs) ds d
      (block_reads models ws (length models) 0 (first_model models) sound (λ x there. there)) h in
      record {
        names = all_mapped (λ s. s < n) (number ws) d.inputs
            (all_weaker (λ x. Among x ws) (λ x. number ws x < n) (number_below n count) d.inputs reads);
        planes = subst (λ m. AllByRecursion (IsPlane m) d.cubes) (sym (length-map d.inputs (number ws))) ok.planes;
        empty = ok.empty;
      })))

  each_output : (n : ℕ) → length ws ≡ n → AllByRecursion (λ s. s < n)
      (map (λ o. number ws (wire 0 o)) (names_in (first_model models).outputs))
  each_output n count = all_mapped (λ s. s < n) (λ o. number ws (wire 0 o)) (names_in (first_model models).outputs)
      (all_from (λ o. number ws (wire 0 o) < n) (names_in (first_model models).outputs)
      (λ o h. number_below n count (wire 0 o)
      (output_is_there models (length models) 0 (first_model models) sound o h)))

  pub expansion_parts : 0 < length (first_model models).outputs
      → length (first_model models).inputs + length (first_model models).outputs + design_size models < 2 ^ 28
      → AreParts (expansion models)
  unfolding expansion
  expansion_parts some small =
      let size = net_is_small models in
      let count = wires_count models in
      let named = kept_count 0 ws in
      let defs = length-map ds (numbered ws) in
      let outputs = names_in (first_model models).outputs in
      record {
        distinct = distinct (kept_names 0 ws)
            (kept_apart 0 ws (omega (arith, size, small, named)) keepable
            (block_apart models (length models) 0 (first_model models) sound));
        count = omega (arith, named, count, defs);
        each_def = each_def (length (kept_names 0 ws)) (sym named);
        each_output = each_output (length (kept_names 0 ws)) (sym named);
        some_output = omega (
          arith,
          some,
          length-map outputs (λ o. number ws (wire 0 o)),
          length-map (first_model models).outputs (λ n. n.name),
        );
        small = omega (arith, size, small);
      }

-- ---- the inputs and outputs of a text's first model

-- the first of some parts of lines
abbrev first_part : List (List Line) → List Line
first_part parts = slice_index_or parts 0 []

onto_bytes : (line : Line) (parts : List (List Line))
    → bytes_of (first_part (onto line parts)) ≡ token_bytes line.tokens + bytes_of (first_part parts)
onto_bytes line [] = sum_by-cons (λ (l : Line). token_bytes l.tokens) line []
onto_bytes line (part ∷ parts) = sum_by-cons (λ (l : Line). token_bytes l.tokens) line part

ended_bytes : (b : Bool) (parts : List (List Line))
    → bytes_of (first_part (ended b parts)) ≤ bytes_of (first_part parts)
ended_bytes true parts = omega arith
ended_bytes false parts = omega arith

behind_bytes : (lines : List Line) → bytes_of (first_part (parts_behind lines)) ≤ bytes_of lines
behind_bytes [] = omega arith
behind_bytes (line ∷ lines) =
    let more = behind_bytes lines in
    omega (
      arith,
      more,
      ended_bytes (is_model (word line)) (onto line (parts_behind lines)),
      onto_bytes line (parts_behind lines),
      sum_by-cons (λ (l : Line). token_bytes l.tokens) line lines,
    )

part_bytes : (lines : List Line) → bytes_of (first_part (parts_of lines)) ≤ bytes_of lines
part_bytes [] = omega arith
part_bytes (line ∷ lines) =
    let more = behind_bytes lines in
    omega (
      arith,
      more,
      onto_bytes line (parts_behind lines),
      sum_by-cons
          (λ (l : Line). token_bytes l.tokens) line lines,
    )

named_in : (w : Statement) (names : List (List ℕ)) (n : ℕ) → length names ≤ n
    → length (elim w as (λ (x : Statement). List (List ℕ)) [ Inputs ↦ names | _ ↦ [] ])
    + length (elim w as (λ (x : Statement). List (List ℕ)) [ Outputs ↦ names | _ ↦ [] ]) ≤ n
named_in Inputs names n h = omega (arith, h)
named_in Outputs names n h = omega (arith, h)
named_in Model names n h = omega arith
named_in Names names n h = omega arith
named_in Subckt names n h = omega arith
named_in End names n h = omega arith
named_in Passed names n h = omega arith
named_in Other names n h = omega arith
named_in Row names n h = omega arith

arguments_below : (tokens : List (List ℕ)) → AllByRecursion (λ t. 0 < length t) tokens
    → length (drop 1 tokens) ≤ token_bytes tokens
arguments_below [] h = omega arith
arguments_below (t ∷ tokens) h = let all = token_each (t ∷ tokens) h in omega (arith, all)

few_ends : (lines : List Line) → AllByRecursion IsCut lines
    → length (flat_map named_inputs lines) + length (flat_map named_outputs lines) ≤ bytes_of lines
few_ends [] h = omega arith
few_ends (line ∷ lines) h =
    let more = few_ends lines h.1 in
    let filled = h.0.filled in
    omega (
      arith,
      more,
      named_in (word line) (arguments line) (token_bytes line.tokens) (arguments_below line.tokens filled),
      length-append (named_inputs line) (flat_map named_inputs lines),
      length-map (inputs_in line) (named line.number),
      length-append (named_outputs line) (flat_map named_outputs lines),
      length-map (outputs_in line) (named line.number),
      sum_by-cons (λ (l : Line). token_bytes l.tokens) line lines,
    )

first_is : (lines : List Line) → first_model (map model_of (parts_of lines)) ≡ model_of (first_part (parts_of lines))
first_is [] = refl
first_is (line ∷ lines) = by (parts_behind lines)
  where
    by : (parts : List (List Line)) → slice_index_or (map model_of (onto line parts)) 0 no_model
        ≡ model_of (first_part (onto line parts))
    by [] = refl
    by (part ∷ parts) = refl

few_ends_of : (lines : List Line) → AllByRecursion IsCut lines
    → length (first_model (map model_of (parts_of lines))).inputs
    + length (first_model (map model_of (parts_of lines))).outputs ≤ bytes_of lines
few_ends_of lines cut =
    let part = first_part (parts_of lines) in
    let each : AllByRecursion IsCut part = at_index (AllByRecursion IsCut) (parts_of lines) 0 []
    (all_parts IsCut lines cut) tt in
    let few = few_ends part each in
    let bytes = part_bytes lines in
    subst (λ (m : BlifModel). length m.inputs + length m.outputs ≤ bytes_of lines) (sym (first_is lines))
    (omega (arith, few, bytes))

-- ---- the netlists of texts

pub said_parts : (text : List ℕ) (models : List BlifModel) → length text ≤ 2 ^ 27 → SaysModels text models
    → IsBuildable models → AreParts (expansion models)
said_parts text models few says ok =
    let lines = logical_lines text in
    let parts = parts_of lines in
    let sound = first_is_sound models ok.laid_out (some_model models ok.some_output) in
    let clean = at_index IsCleanModel models 0 no_model
    (subst (AllByRecursion IsCleanModel) (sym says.each) (clean_models text))
    (record { inputs = tt; outputs = tt; actuals = tt }) in
    let covers = subst (AllByRecursion HasCovers) (sym says.each) (covered_models parts says.sound) in
    let cut = text_is_cut text in
    let each = cut.each in
    let fits = cut.fits in
    let ends : length (first_model models).inputs + length (first_model models).outputs ≤ bytes_of lines =
    subst (λ ms. length (first_model ms).inputs + length (first_model ms).outputs ≤ bytes_of lines) (sym says.each)
    (few_ends_of lines each) in
    let small = ok.small in
    expansion_parts models sound clean covers ok.some_output (omega (arith, ends, fits, few, small))

within_defs : (n : ℕ) (defs : List Def) → AllByRecursion (IsDef n) defs → AllByRecursion (IsWithinDef n) defs
within_defs n defs h = all_weaker (IsDef n) (IsWithinDef n) (λ d ok. ok.names) defs h

pub netlist_from_parts : (net : NetView) → AreParts net → first_cycle net.inputs net.defs ≡ None → IsNetlist net
netlist_from_parts net parts none = record {
  distinct = parts.distinct;
  count = parts.count;
  each_def = parts.each_def;
  each_output = parts.each_output;
  some_output = parts.some_output;
  no_cycle = no_cycle net.inputs net.defs
      (within net.inputs net.defs
      (subst (λ n. AllByRecursion (IsWithinDef n) net.defs) parts.count
      (within_defs (length net.names) net.defs parts.each_def))) none;
  small = parts.small;
}
