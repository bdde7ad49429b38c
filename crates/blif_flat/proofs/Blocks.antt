-- The wires of an expanded model are all different, and each that it reads is one of them.
use Rattle.std.proofs.Common.{◌≡◌, ℕ, zero, suc, ◌+◌, List, [], ◌∷◌, ◌++◌, map, sym, ap, ◌∙◌, subst, inl, inr, flat_map}
use Rattle.std.specs.List.{AllByRecursion}
use Rattle.std.proofs.lemmas.List.{map-append}
use Rattle.blif_read.proofs.Within.{all_join}
use Rattle.blif_read.specs.declared.models.Port.{Port}
use Rattle.blif_read.specs.declared.models.Call.{Call}
use Rattle.blif_read.specs.declared.models.NamedDef.{NamedDef}
use Rattle.blif_read.specs.declared.models.BlifModel.{BlifModel}
use Rattle.blif_flat.specs.Designs.{names_in, called, output_ports, actual_of, joined_outputs}
use Rattle.blif_flat.specs.Expansion.{Wire, wire, WireDef, own, buffer, calls_within, expanded_call, expanded_calls}
use Rattle.blif_flat.specs.Expansion.{expanded}
use Rattle.blif_flat.proofs.Members.{Among, among_left, among_right, among_parts, among_map, image, in_one, at_among}
use Rattle.blif_flat.proofs.Members.{all_from, all_mapped, all_weaker}
use Rattle.blif_flat.proofs.JoinedModels.{driven_names, IsJoinedCall, port_actual, port_joined, joined_is_output}
use Rattle.blif_flat.proofs.SoundModels.{IsSound}

abbrev pub defined_in : List WireDef → List Wire
defined_in ds = map (λ d. d.output) ds

-- the wires of the model that call k expands: its inputs, and then those that its definitions define
abbrev pub block : ℕ → List BlifModel → ℕ → BlifModel → List Wire
block steps models k model = map (wire k) (names_in model.inputs) ++ defined_in (expanded steps models k model)

-- what the output ports of calls drive
abbrev pub driven_by : List BlifModel → List Call → List (List ℕ)
driven_by models calls = flat_map (λ c. map (λ p. p.actual) (output_ports models c)) calls

-- the definitions of a call, which has some number
record HasExpansion (models : List BlifModel) (steps k n : ℕ) (calls : List Call) (call : Call) : Type 0 where
  number : ℕ
  there : (d : WireDef) → Among d (expanded_call models (expanded steps models) k number call)
      → Among d (expanded_calls steps models (expanded steps models) k n calls)

module _ (models : List BlifModel) where
  has_expansion : (steps k n : ℕ) (calls : List Call) (call : Call) → Among call calls
      → HasExpansion models steps k n calls call
  has_expansion steps k n [] call h = absurd h
  has_expansion steps k n (c ∷ calls) call (inl e) = record {
    number = n;
    there = λ d h. among_left d (expanded_call models (expanded steps models) k n c)
        (expanded_calls steps models (expanded steps models) k
        (n + 1 + calls_within steps models (called models c)) calls)
        (subst (λ x. Among d (expanded_call models (expanded steps models) k n x)) (sym e) h);
  }
  has_expansion steps k n (c ∷ calls) call (inr m) =
      let next = n + 1 + calls_within steps models (called models c) in
      let more = has_expansion steps k next calls call m in
      record {
        number = more.number;
        there = λ d h. among_right d (expanded_call models (expanded steps models) k n c)
            (expanded_calls steps models (expanded steps models) k next calls) (more.there d h);
      }

  -- ---- what is read is there

  -- what a model drives is one of its wires
  pub driven_is_there : (steps k : ℕ) (model : BlifModel) → IsSound steps models model → (s : List ℕ)
      → Among s (driven_names models model) → Among (wire k s) (block steps models k model)
  driven_is_there zero k model ok s h = absurd ok
  driven_is_there (suc steps) k model ok s h =
      let inputs = names_in model.inputs in
      let outputs = map (λ d. d.output) model.defs in
      let ports = driven_by models model.calls in
      let owned = map (own k) model.defs in
      let below = expanded_calls steps models (expanded steps models) k (k + 1) model.calls in
      let defined : (d : WireDef) → Among d (owned ++ below) → d.output ≡ wire k s
      → Among (wire k s) (map (wire k) inputs ++ defined_in (owned ++ below)) =
      λ d there is. among_right (wire k s) (map (wire k) inputs) (defined_in (owned ++ below))
      (subst (λ x. Among x (defined_in (owned ++ below))) is
      (among_map (λ (e : WireDef). e.output) d (owned ++ below) there)) in
      elim (among_parts s (inputs ++ outputs) ports h) [
        | inl front ↦ elim (among_parts s inputs outputs front) [
          | inl input ↦ among_left (wire k s) (map (wire k) inputs) (defined_in (owned ++ below))
              (among_map (wire k) s inputs input)
          | inr output ↦
              let at = image (λ (d : NamedDef). d.output) model.defs s output in
              defined (own k at.of) (among_left (own k at.of) owned below (among_map (own k) at.of model.defs at.there))
              (ap (wire k) at.is)
        ]
        | inr port ↦
            let of = in_one (λ c. map (λ p. p.actual) (output_ports models c)) model.calls s port in
            let at = image (λ (p : Port). p.actual) (output_ports models of.of) s of.inside in
            let ok_call = at_among (IsJoinedCall models (driven_names models model)) model.calls
            of.of ok.0.calls of.there in
            let has = has_expansion steps k (k + 1) model.calls of.of of.there in
            let n = has.number in
            let called_is = called models of.of in
            let to = λ (o : List ℕ). buffer of.of.line (wire n o) (wire k (actual_of of.of o)) in
            let joined = joined_outputs models of.of in
            let ins = map (λ i. buffer of.of.line (wire k (actual_of of.of i)) (wire n i))
            (names_in called_is.inputs) in
            let body = expanded steps models n called_is in
            let d = to at.of.formal in
            defined d
            (among_right d owned below (has.there d (among_right d (ins ++ body) (map to joined)
            (among_map to at.of.formal joined (port_joined models of.of ok_call.apart at.of at.there)))))
            (ap (wire k) (port_actual models of.of ok_call.apart at.of at.there ∙ at.is))
      ]

  -- an output of a sound model is one of its wires
  pub output_is_there : (steps k : ℕ) (model : BlifModel) → IsSound steps models model → (o : List ℕ)
      → Among o (names_in model.outputs) → Among (wire k o) (block steps models k model)
  output_is_there zero k model ok o h = absurd ok
  output_is_there (suc steps) k model ok o h = driven_is_there (suc steps) k model ok o
      (at_among (λ s. Among s (driven_names models model)) (names_in model.outputs) o ok.0.outputs h)

  module _ (ws : List Wire) where
    abbrev Reads : List WireDef → Type 0
    Reads ds = AllByRecursion (λ d. AllByRecursion (λ x. Among x ws) d.inputs) ds

    abbrev Has : List Wire → Type 0
    Has xs = (x : Wire) → Among x xs → Among x ws

    call_reads : (steps k n : ℕ) (names : List (List ℕ)) (call : Call)
        → ((s : List ℕ) → Among s names → Among (wire k s) ws)
        → IsJoinedCall models names call → IsSound steps models (called models call)
        → (Has (block steps models n (called models call)) → Reads (expanded steps models n (called models call)))
        → Has (defined_in (expanded_call models (expanded steps models) k n call))
        → Reads (expanded_call models (expanded steps models) k n call)
    call_reads steps k n names call signals ok sound inner holds =
        let model = called models call in
        let from = λ (i : List ℕ). buffer call.line (wire k (actual_of call i)) (wire n i) in
        let to = λ (o : List ℕ). buffer call.line (wire n o) (wire k (actual_of call o)) in
        let ins = map from (names_in model.inputs) in
        let body = expanded steps models n model in
        let outs = map to (joined_outputs models call) in
        let front : (d : WireDef) → Among d (ins ++ body) → Among d.output ws =
        λ d h. holds d.output (among_map (λ (e : WireDef). e.output) d ((ins ++ body) ++ outs)
        (among_left d (ins ++ body) outs h)) in
        let whole : Has (block steps models n model) = λ x h.
        elim (among_parts x (map (wire n) (names_in model.inputs)) (defined_in body) h) [
          | inl a ↦
              let at = image (wire n) (names_in model.inputs) x a in
              subst (λ y. Among y ws) at.is
              (front (from at.of) (among_left (from at.of) ins body
              (among_map from at.of (names_in model.inputs) at.there)))
          | inr b ↦
              let at = image (λ (e : WireDef). e.output) body x b in
              subst (λ y. Among y ws) at.is (front at.of (among_right at.of ins body at.there))
        ] in
        all_join (λ d. AllByRecursion (λ x. Among x ws) d.inputs) (ins ++ body) outs
        (all_join (λ d. AllByRecursion (λ x. Among x ws) d.inputs) ins body
        (all_mapped (λ d. AllByRecursion (λ x. Among x ws) d.inputs) from (names_in model.inputs)
        (all_weaker (λ i. Among (actual_of call i) names) (λ i. AllByRecursion (λ x. Among x ws) (from i).inputs)
        (λ i h. (signals (actual_of call i) h, tt)) (names_in model.inputs) ok.given))
        (inner whole))
        (all_mapped (λ d. AllByRecursion (λ x. Among x ws) d.inputs) to (joined_outputs models call)
        (all_from (λ o. AllByRecursion (λ x. Among x ws) (to o).inputs) (joined_outputs models call)
        (λ o h. (
          whole (wire n o)
              (output_is_there steps n model sound o (joined_is_output models call ok.apart o h)),
          tt,
        ))))

    calls_read : (steps k n : ℕ) (names : List (List ℕ)) (calls : List Call)
        → ((s : List ℕ) → Among s names → Among (wire k s) ws)
        → AllByRecursion (IsJoinedCall models names) calls
        → AllByRecursion (λ c. IsSound steps models (called models c)) calls
        → AllByRecursion (λ c. (m : ℕ) → Has (block steps models m (called models c))
        → Reads (expanded steps models m (called models c))) calls
        → Has (defined_in (expanded_calls steps models (expanded steps models) k n calls))
        → Reads (expanded_calls steps models (expanded steps models) k n calls)
    calls_read steps k n names [] signals ok sound inner holds = tt
    calls_read steps k n names (call ∷ calls) signals ok sound inner holds =
        let next = n + 1 + calls_within steps models (called models call) in
        let here = expanded_call models (expanded steps models) k n call in
        let rest = expanded_calls steps models (expanded steps models) k next calls in
        let two = map-append (λ (d : WireDef). d.output) here rest in
        all_join (λ d. AllByRecursion (λ x. Among x ws) d.inputs) here rest
        (call_reads steps k n names call signals ok.0 sound.0 (inner.0 n)
        (λ x h. holds x (subst (Among x) (sym two) (among_left x (defined_in here) (defined_in rest) h))))
        (calls_read steps k next names calls signals ok.1 sound.1 inner.1
        (λ x h. holds x (subst (Among x) (sym two) (among_right x (defined_in here) (defined_in rest) h))))

    -- what the definitions of a model read is among wires that hold its block
    pub block_reads : (steps k : ℕ) (model : BlifModel) → IsSound steps models model
        → Has (block steps models k model) → Reads (expanded steps models k model)
    block_reads zero k model ok holds = tt
    block_reads (suc steps) k model ok holds =
        let owned = map (own k) model.defs in
        let below = expanded_calls steps models (expanded steps models) k (k + 1) model.calls in
        let signals : (s : List ℕ) → Among s (driven_names models model) → Among (wire k s) ws =
        λ s h. holds (wire k s) (driven_is_there (suc steps) k model ok s h) in
        all_join (λ d. AllByRecursion (λ x. Among x ws) d.inputs) owned below
        (all_mapped (λ d. AllByRecursion (λ x. Among x ws) d.inputs) (own k) model.defs
        (all_weaker (λ d. AllByRecursion (λ s. Among s (driven_names models model)) d.inputs)
        (λ d. AllByRecursion (λ x. Among x ws) (own k d).inputs)
        (λ d all. all_mapped (λ x. Among x ws) (wire k) d.inputs
        (all_weaker (λ s. Among s (driven_names models model)) (λ s. Among (wire k s) ws) signals d.inputs all))
        model.defs ok.0.defs))
        (calls_read steps k (k + 1) (driven_names models model) model.calls signals ok.0.calls ok.1
        (all_from _ model.calls
        (λ c there m. block_reads steps m (called models c)
        (at_among (λ e. IsSound steps models (called models e)) model.calls c ok.1 there)))
        (λ x h. holds x
        (among_right x (map (wire k) (names_in model.inputs)) (defined_in (owned ++ below))
        (subst (Among x) (sym (map-append (λ (d : WireDef). d.output) owned below))
        (among_right x (defined_in owned) (defined_in below) h)))))
