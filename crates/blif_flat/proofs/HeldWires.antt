-- Values of wires that hold the definitions of an expanded model are what the models mean, and the other way round.
use Rattle.std.proofs.Common.{◌≡◌, ℕ, zero, suc, ◌+◌, ◌<◌, ◌||◌, ◌&&◌, Bool, true, false, not, List, [], ◌∷◌, ◌++◌, map}
use Rattle.std.proofs.Common.{length, refl, sym, ap, ◌∙◌, subst, arith}
use Rattle.std.specs.Prelude.{slice_index_or}
use Rattle.std.specs.List.{list_any, position_or_len, AllByRecursion}
use Rattle.std.specs.Str.{bytes_eq}
use Rattle.blif_read.specs.Equations.{takes}
use Rattle.blif_read.specs.declared.models.Call.{Call}
use Rattle.blif_read.specs.declared.models.NamedDef.{NamedDef}
use Rattle.blif_read.specs.declared.models.BlifModel.{BlifModel}
use Rattle.blif_flat.specs.Designs.{names_in, called, output_ports, actual_of, joined_outputs}
use Rattle.blif_flat.specs.Expansion.{Wire, wire, WireDef, own, buffer, calls_within, expanded_call, expanded_calls}
use Rattle.blif_flat.specs.Expansion.{expanded}
use Rattle.blif_flat.specs.Meaning.{takes_all, named_value, answer_at, Shows, Means}
use Rattle.blif_flat.proofs.Members.{Among, all_from, all_front, all_back, all_unmapped, all_weaker, at_among, map_map}
use Rattle.blif_flat.proofs.Members.{map_same, at_place, place_below, picks_name}
use Rattle.blif_flat.proofs.JoinedModels.{driven_names, IsJoinedCall, port_actual, port_joined, joined_is_output}
use Rattle.blif_flat.proofs.SoundModels.{IsSound}

-- values of the signals of each call
abbrev pub Values : Type 0
Values = ℕ → List ℕ → Bool

abbrev pub at : Values → Wire → Bool
at w x = w x.call x.name

-- the value of a definition's cover
abbrev pub held_value : WireDef → List Bool → Bool
held_value d bits = elim d.on [
  | true ↦ list_any (λ cube. takes_all cube.plane bits) d.cubes
  | false ↦ not (list_any (λ cube. takes_all cube.plane bits) d.cubes)
]

-- the defined signal has it
abbrev pub Holds : Values → WireDef → Type 0
Holds w d = at w d.output ≡ held_value d (map (at w) d.inputs)

-- ---- single definitions

passed_on : (x : Bool) → (takes 49 x && true) || false ≡ x
passed_on true = refl
passed_on false = refl

buffer_gives : (w : Values) (line : ℕ) (from to : Wire) → Holds w (buffer line from to) → at w to ≡ at w from
buffer_gives w line from to h = h ∙ passed_on (at w from)

pub buffer_holds : (w : Values) (line : ℕ) (from to : Wire) → at w to ≡ at w from → Holds w (buffer line from to)
buffer_holds w line from to e = e ∙ sym (passed_on (at w from))

pub own_value : (w : Values) (k : ℕ) (def : NamedDef)
    → held_value (own k def) (map (at w) (own k def).inputs) ≡ named_value def (w k)
own_value w k def = ap (held_value (own k def)) (map_map (at w) (wire k) def.inputs)

-- what an answer has for an output is the output's value
pub answer_is : (model : BlifModel) (v : List ℕ → Bool) (name : List ℕ) → Among name (names_in model.outputs)
    → answer_at model (map v (names_in model.outputs)) name ≡ v name
answer_is model v name h =
    mapped (names_in model.outputs) (position_or_len (bytes_eq name) (names_in model.outputs))
    (place_below (bytes_eq name) name (picks_name name) (names_in model.outputs) h)
    ∙ ap v (at_place (bytes_eq name) name [] (picks_name name) (names_in model.outputs) h)
  where
    mapped : (xs : List (List ℕ)) (n : ℕ) → n < length xs
        → slice_index_or (map v xs) n false ≡ v (slice_index_or xs n [])
    mapped [] n lt = absurd (omega arith)
    mapped (x ∷ xs) zero lt = refl
    mapped (x ∷ xs) (suc n) lt = mapped xs n (omega arith)

-- ---- from values of wires to what models mean

module _ (models : List BlifModel) (w : Values) where
  -- one call, where the called model means what its wires say
  call_shown : (steps k n : ℕ) (names : List (List ℕ)) (call : Call) → IsJoinedCall models names call
      → (AllByRecursion (Holds w) (expanded steps models n (called models call))
      → Means steps models (called models call) (map (w n) (names_in (called models call).inputs))
      (map (w n) (names_in (called models call).outputs)))
      → AllByRecursion (Holds w) (expanded_call models (expanded steps models) k n call)
      → Shows (Means steps models) models (w k) call
  call_shown steps k n names call ok inner h =
      let model = called models call in
      let ins = map (λ i. buffer call.line (wire k (actual_of call i)) (wire n i)) (names_in model.inputs) in
      let body = expanded steps models n model in
      let outs = map (λ o. buffer call.line (wire n o) (wire k (actual_of call o))) (joined_outputs models call) in
      let front = all_front (Holds w) (ins ++ body) outs h in
      let given = all_weaker
      (λ i. Holds w (buffer call.line (wire k (actual_of call i)) (wire n i)))
      (λ i. w n i ≡ w k (actual_of call i))
      (λ i e. buffer_gives w call.line (wire k (actual_of call i)) (wire n i) e) (names_in model.inputs)
      (all_unmapped (Holds w) (λ i. buffer call.line (wire k (actual_of call i)) (wire n i)) (names_in model.inputs)
      (all_front (Holds w) ins body front)) in
      let word = map_same (w n) (λ i. w k (actual_of call i)) (names_in model.inputs) given in
      let shown = all_unmapped (Holds w) (λ o. buffer call.line (wire n o) (wire k (actual_of call o)))
      (joined_outputs models call) (all_back (Holds w) (ins ++ body) outs h) in
      record {
        answer = map (w n) (names_in model.outputs);
        given = subst (λ bits. Means steps models model bits (map (w n) (names_in model.outputs))) word
            (inner (all_back (Holds w) ins body front));
        joined = all_from
            (λ p. w k p.actual ≡ answer_at model (map (w n) (names_in model.outputs)) p.formal)
            (output_ports models call)
            (λ p there.
            (let at_out = port_joined models call ok.apart p there in
            ap (w k) (sym (port_actual models call ok.apart p there))
            ∙ buffer_gives w call.line (wire n p.formal) (wire k (actual_of call p.formal))
            (at_among (λ o. Holds w (buffer call.line (wire n o) (wire k (actual_of call o))))
            (joined_outputs models call) p.formal shown at_out)
            ∙ sym (answer_is model (w n) p.formal (joined_is_output models call ok.apart p.formal at_out))));
      }

  calls_shown : (steps k n : ℕ) (names : List (List ℕ)) (calls : List Call)
      → AllByRecursion (IsJoinedCall models names) calls
      → AllByRecursion (λ c. (m : ℕ) → AllByRecursion (Holds w) (expanded steps models m (called models c))
      → Means steps models (called models c) (map (w m) (names_in (called models c).inputs))
      (map (w m) (names_in (called models c).outputs))) calls
      → AllByRecursion (Holds w) (expanded_calls steps models (expanded steps models) k n calls)
      → AllByRecursion (Shows (Means steps models) models (w k)) calls
  calls_shown steps k n names [] ok inner h = tt
  calls_shown steps k n names (call ∷ calls) ok inner h =
      let next = n + 1 + calls_within steps models (called models call) in
      let here = expanded_call models (expanded steps models) k n call in
      let rest = expanded_calls steps models (expanded steps models) k next calls in (
        call_shown steps k n names call ok.0 (inner.0 n) (all_front (Holds w) here rest h),
        calls_shown steps k next names calls ok.1 inner.1 (all_back (Holds w) here rest h),
      )

  pub means_from_wires : (steps k : ℕ) (model : BlifModel) → IsSound steps models model
      → AllByRecursion (Holds w) (expanded steps models k model)
      → Means steps models model (map (w k) (names_in model.inputs)) (map (w k) (names_in model.outputs))
  means_from_wires zero k model ok h = absurd ok
  means_from_wires (suc steps) k model ok h =
      let owned = map (own k) model.defs in
      let below = expanded_calls steps models (expanded steps models) k (k + 1) model.calls in
      record {
        values = w k;
        bits = refl;
        covers = all_weaker (λ d. Holds w (own k d)) (λ d. w k d.output ≡ named_value d (w k))
            (λ d e. e ∙ own_value w k d) model.defs
            (all_unmapped (Holds w) (own k) model.defs (all_front (Holds w) owned below h));
        calls = calls_shown steps k (k + 1) (driven_names models model) model.calls ok.0.calls
            (all_from _ model.calls
            (λ c there m. means_from_wires steps m (called models c)
            (at_among (λ d. IsSound steps models (called models d)) model.calls c ok.1 there)))
            (all_back (Holds w) owned below h);
        shown = refl;
      }
