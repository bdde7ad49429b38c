-- The wires of a call: its own, and then what its calls define, step by step.
use Rattle.std.proofs.Common.{◌≡◌, ℕ, zero, suc, ◌+◌, List, [], ◌∷◌, ◌++◌, map, length, refl, sym, ap, ◌∙◌, sum_by}
use Rattle.std.proofs.Common.{append_assoc}
use Rattle.std.specs.List.{AllByRecursion}
use Rattle.std.proofs.lemmas.List.{map-append}
use Rattle.std.proofs.lemmas.List.Sums.{sum_by-cons}
use Rattle.blif_read.specs.declared.models.Call.{Call}
use Rattle.blif_read.specs.declared.models.BlifModel.{BlifModel}
use Rattle.blif_flat.specs.Designs.{names_in, called, actual_of, joined_outputs}
use Rattle.blif_flat.specs.Expansion.{wire, WireDef, buffer, own, calls_within, expanded, expanded_call, expanded_calls}
use Rattle.blif_flat.specs.Code.Wired.{begun, ended, called_wires, call_count}
use Rattle.blif_flat.proofs.Members.{all_weaker}
use Rattle.blif_flat.proofs.SoundModels.{IsSound}
use Rattle.blif_flat.proofs.Blocks.{defined_in, block}
use Rattle.blif_flat.proofs.DistinctWires.{call_defines, block_parts}

-- ---- enough steps are enough

sum_same : {X : Type 0} (f g : X → ℕ) (xs : List X) → AllByRecursion (λ x. f x ≡ g x) xs → sum_by f xs ≡ sum_by g xs
sum_same f g [] h = refl
sum_same f g (x ∷ xs) h = sum_by-cons f x xs ∙ (λ i. h.0 i + sum_same f g xs h.1 i) ∙ sym (sum_by-cons g x xs)

module _ (models : List BlifModel) where
  abbrev pub Sounds : ℕ → List Call → Type 0
  Sounds steps calls = AllByRecursion (λ c. IsSound steps models (called models c)) calls

  pub sound_more : (steps : ℕ) (model : BlifModel) → IsSound steps models model → IsSound (suc steps) models model
  sound_more zero model ok = absurd ok
  sound_more (suc steps) model ok = (
    ok.0,
    all_weaker (λ c. IsSound steps models (called models c)) (λ c. IsSound (suc steps) models (called models c))
        (λ c. sound_more steps (called models c)) model.calls ok.1,
  )

  pub calls_sound : (steps : ℕ) (model : BlifModel) → IsSound steps models model → Sounds steps model.calls
  calls_sound zero model ok = absurd ok
  calls_sound (suc steps) model ok =
      all_weaker (λ c. IsSound steps models (called models c)) (λ c. IsSound (suc steps) models (called models c))
      (λ c. sound_more steps (called models c)) model.calls ok.1

  steady_within : (steps : ℕ) (model : BlifModel) → IsSound steps models model
      → calls_within (suc steps) models model ≡ calls_within steps models model
  steady_within zero model ok = absurd ok
  steady_within (suc steps) model ok =
      sum_same (λ c. 1 + calls_within (suc steps) models (called models c))
      (λ c. 1 + calls_within steps models (called models c)) model.calls
      (all_weaker (λ c. IsSound steps models (called models c))
      (λ c. 1 + calls_within (suc steps) models (called models c) ≡ 1 + calls_within steps models (called models c))
      (λ c sound. ap (λ n. 1 + n) (steady_within steps (called models c) sound)) model.calls ok.1)

  steady_calls : (steps k n : ℕ) (calls : List Call) → Sounds steps calls
      → AllByRecursion (λ c. (m : ℕ) → expanded (suc steps) models m (called models c)
      ≡ expanded steps models m (called models c)) calls
      → expanded_calls (suc steps) models (expanded (suc steps) models) k n calls
      ≡ expanded_calls steps models (expanded steps models) k n calls
  steady_calls steps k n [] sound inner = refl
  steady_calls steps k n (call ∷ calls) sound inner =
      let model = called models call in
      let ins = map (λ i. buffer call.line (wire k (actual_of call i)) (wire n i)) (names_in model.inputs) in
      let outs = map (λ o. buffer call.line (wire n o) (wire k (actual_of call o))) (joined_outputs models call) in
      let within = steady_within steps model sound.0 in
      let rest = ap (λ w. expanded_calls (suc steps) models (expanded (suc steps) models) k (n + 1 + w) calls) within
      ∙ steady_calls steps k (n + 1 + calls_within steps models model) calls sound.1 inner.1 in
      λ i. (ins ++ inner.0 n i ++ outs) ++ rest i

  steady : (steps k : ℕ) (model : BlifModel) → IsSound steps models model
      → expanded (suc steps) models k model ≡ expanded steps models k model
  steady zero k model ok = absurd ok
  steady (suc steps) k model ok = ap (λ below. map (own k) model.defs ++ below)
      (steady_calls steps k (k + 1) model.calls ok.1
      (all_weaker (λ c. IsSound steps models (called models c))
      (λ c. (m : ℕ) → expanded (suc steps) models m (called models c) ≡ expanded steps models m (called models c))
      (λ c sound m. steady steps m (called models c) sound) model.calls ok.1))

  pub block_begins : (steps k : ℕ) (model : BlifModel) → IsSound steps models model → block steps models k model
      ≡ begun k model ++ defined_in (expanded_calls steps models (expanded steps models) k (k + 1) model.calls)
  block_begins zero k model ok = absurd ok
  block_begins (suc steps) k model ok = block_parts models steps k model
      ∙ ap (λ ds. begun k model ++ defined_in ds) (sym (steady_calls steps k (k + 1) model.calls ok.1
      (all_weaker (λ c. IsSound steps models (called models c))
      (λ c. (m : ℕ) → expanded (suc steps) models m (called models c) ≡ expanded steps models m (called models c))
      (λ c sound m. steady steps m (called models c) sound) model.calls ok.1)))

  pub within_counts : (steps : ℕ) (model : BlifModel) → IsSound steps models model → calls_within steps models model
      ≡ sum_by (λ c. 1 + calls_within steps models (called models c)) model.calls
  within_counts steps model ok = sym (steady_within steps model ok)

  -- ---- a call, and those behind it

  pub first_call : (k n : ℕ) (call : Call) (calls : List Call) → IsSound (length models) models (called models call)
      → called_wires models k n (call ∷ calls)
      ≡ begun n (called models call) ++ called_wires models n (n + 1) (called models call).calls
      ++ (ended models k call ++ called_wires models k (n + 1 + call_count models (called models call).calls) calls)
  first_call k n call calls ok =
      let model = called models call in
      let steps = length models in
      let next = n + 1 + calls_within steps models model in
      let here = expanded_call models (expanded steps models) k n call in
      let rest = expanded_calls steps models (expanded steps models) k next calls in
      map-append (λ (d : WireDef). d.output) here rest
      ∙ ap (λ front. front ++ defined_in rest)
      (call_defines models steps k n call ∙ ap (λ front. front ++ ended models k call) (block_begins steps n model ok))
      ∙ append_assoc (begun n model ++ called_wires models n (n + 1) model.calls)
      (ended models k call) (defined_in rest)
      ∙ ap (λ w. begun n model ++ called_wires models n (n + 1) model.calls
      ++ (ended models k call ++ called_wires models k (n + 1 + w) calls)) (within_counts steps model ok)
