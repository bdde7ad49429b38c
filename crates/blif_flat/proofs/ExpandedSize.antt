-- The netlist of a design is no larger than the design, but for its inputs and outputs.
use Rattle.std.proofs.Common.{◌≡◌, ℕ, zero, suc, ◌+◌, ◌*◌, ◌≤◌, Bool, true, false, cond, List, [], ◌∷◌, ◌++◌, map}
use Rattle.std.proofs.Common.{length, filter, refl, arith, sum_by, length-append}
use Rattle.std.proofs.lemmas.List.{length-map}
use Rattle.std.proofs.lemmas.List.Sums.{sum_by-cons, sum_by-append}
use Rattle.blif_read.specs.Parts.{is_defined}
use Rattle.blif_read.specs.Netlist.{cube_size, def_size, size_of}
use Rattle.blif_read.specs.declared.netlist.Cube.{Cube}
use Rattle.blif_read.specs.declared.models.Call.{Call}
use Rattle.blif_read.specs.declared.models.NamedDef.{NamedDef}
use Rattle.blif_read.specs.declared.models.BlifModel.{BlifModel}
use Rattle.blif_flat.specs.Designs.{names_in, called, formals, actual_of, distinct_outputs, joined_outputs, first_model}
use Rattle.blif_flat.specs.DesignSize.{definition_size, call_size, model_size, design_size}
use Rattle.blif_flat.specs.Expansion.{Wire, wire, WireDef, own, buffer, calls_within, expanded_call, expanded_calls}
use Rattle.blif_flat.specs.Expansion.{expanded, definitions, wires, number, numbered, expansion}
use Rattle.blif_flat.proofs.KeptNames.{kept_count}

-- a definition with its signal, its inputs, and its rows and their bytes
abbrev wire_size : WireDef → ℕ
wire_size d = 1 + (length d.inputs + sum_by cube_size d.cubes)

abbrev total : List WireDef → ℕ
total ds = sum_by wire_size ds

rows_size : (cubes : List Cube) → sum_by cube_size cubes ≡ length cubes + sum_by (λ c. length c.plane) cubes
rows_size [] = refl
rows_size (c ∷ cubes) =
    let more = rows_size cubes in
    omega (arith, more, sum_by-cons cube_size c cubes, sum_by-cons (λ (x : Cube). length x.plane) c cubes)

owned_total : (k : ℕ) (defs : List NamedDef) → total (map (own k) defs) ≡ sum_by definition_size defs
owned_total k [] = refl
owned_total k (def ∷ defs) =
    let more = owned_total k defs in
    omega (
      arith,
      more,
      length-map def.inputs (wire k),
      rows_size def.cubes,
      sum_by-cons wire_size (own k def) (map (own k) defs),
      sum_by-cons definition_size def defs,
    )

buffers_total : (f : List ℕ → WireDef) → ((name : List ℕ) → wire_size (f name) ≡ 4) → (names : List (List ℕ))
    → total (map f names) ≡ 4 * length names
buffers_total f four [] = refl
buffers_total f four (name ∷ names) =
    let more = buffers_total f four names in
    omega (arith, more, four name, sum_by-cons wire_size (f name) (map f names))

one_kept : {X : Type 0} (b : Bool) (x : X) (xs ys : List X) → length xs ≤ length ys
    → length (cond b (x ∷ xs) xs) ≤ suc (length ys)
one_kept true x xs ys h = omega (arith, h)
one_kept false x xs ys h = omega (arith, h)

few_kept : {X : Type 0} (t : X → Bool) (xs : List X) → length (filter t xs) ≤ length xs
few_kept t [] = omega arith
few_kept t (x ∷ xs) = one_kept (t x) x (filter t xs) xs (few_kept t xs)

module _ (models : List BlifModel) where
  call_total : (steps k n : ℕ) (call : Call)
      → total (expanded steps models n (called models call)) ≤ model_size steps models (called models call)
      → total (expanded_call models (expanded steps models) k n call) ≤ call_size (model_size steps models) models call
  call_total steps k n call inner =
      let model = called models call in
      let from = λ (i : List ℕ). buffer call.line (wire k (actual_of call i)) (wire n i) in
      let to = λ (o : List ℕ). buffer call.line (wire n o) (wire k (actual_of call o)) in
      let ins = map from (names_in model.inputs) in
      let body = expanded steps models n model in
      let outs = map to (joined_outputs models call) in
      omega (
        arith,
        inner,
        sum_by-append wire_size (ins ++ body) outs,
        sum_by-append wire_size ins body,
        buffers_total from (λ i. refl) (names_in model.inputs),
        buffers_total to (λ o. refl) (joined_outputs models call),
        length-map model.inputs (λ n. n.name),
        few_kept (is_defined (formals call)) (distinct_outputs model),
      )

  calls_total : (steps k n : ℕ) (calls : List Call)
      → ((m : ℕ) (model : BlifModel) → total (expanded steps models m model) ≤ model_size steps models model)
      → total (expanded_calls steps models (expanded steps models) k n calls)
      ≤ sum_by (call_size (model_size steps models) models) calls
  calls_total steps k n [] inner = omega arith
  calls_total steps k n (call ∷ calls) inner =
      let next = n + 1 + calls_within steps models (called models call) in
      let here = call_total steps k n call (inner n (called models call)) in
      let more = calls_total steps k next calls inner in
      omega (
        arith,
        here,
        more,
        sum_by-append wire_size (expanded_call models (expanded steps models) k n call)
            (expanded_calls steps models (expanded steps models) k next calls),
        sum_by-cons (call_size (model_size steps models) models) call calls,
      )

  model_total : (steps k : ℕ) (model : BlifModel)
      → total (expanded steps models k model) ≤ model_size steps models model
  model_total zero k model = omega arith
  model_total (suc steps) k model =
      let calls = calls_total steps k (k + 1) model.calls (model_total steps) in
      omega (
        arith,
        calls,
        owned_total k model.defs,
        sum_by-append wire_size (map (own k) model.defs)
            (expanded_calls steps models (expanded steps models) k (k + 1) model.calls),
      )

numbered_total : (ws : List Wire) (ds : List WireDef)
    → length ds + sum_by def_size (map (numbered ws) ds) ≡ total ds
numbered_total ws [] = refl
numbered_total ws (d ∷ ds) =
    let more = numbered_total ws ds in
    omega (
      arith,
      more,
      length-map d.inputs (number ws),
      sum_by-cons def_size (numbered ws d) (map (numbered ws) ds),
      sum_by-cons wire_size d ds,
    )

pub wires_count : (models : List BlifModel)
    → length (wires models) ≡ length (first_model models).inputs + length (definitions models)
wires_count models =
    let inputs = names_in (first_model models).inputs in
    omega (
      arith,
      length-append (map (wire 0) inputs) (map (λ (d : WireDef). d.output) (definitions models)),
      length-map inputs (wire 0),
      length-map (first_model models).inputs (λ n. n.name),
      length-map (definitions models) (λ (d : WireDef). d.output),
    )

pub net_is_small : (models : List BlifModel)
    → size_of (expansion models) ≤ length (first_model models).inputs + length (first_model models).outputs
    + design_size models
unfolding expansion design_size
net_is_small models =
    let outputs = names_in (first_model models).outputs in
    omega (
      arith,
      kept_count 0 (wires models),
      wires_count models,
      length-map outputs (λ o. number (wires models) (wire 0 o)),
      length-map (first_model models).outputs (λ n. n.name),
      numbered_total (wires models) (definitions models),
      model_total models (length models) 0 (first_model models),
    )
