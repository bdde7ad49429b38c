-- The wires of an expanded model are all different: those of each call stand in its own range of numbers, and those of
-- the model itself have the names that it drives.
use Rattle.std.proofs.Common.{◌≡◌, ℕ, zero, suc, ◌+◌, ◌<◌, ◌≤◌, ◌⊎◌, List, [], ◌∷◌, ◌++◌, map, refl, sym, ap, ◌∙◌}
use Rattle.std.proofs.Common.{subst, arith, inl, inr, sum_by, append_assoc}
use Rattle.std.specs.List.{AllByRecursion}
use Rattle.std.proofs.lemmas.List.{map-append}
use Rattle.std.proofs.lemmas.List.Sums.{sum_by-cons}
use Rattle.blif_read.proofs.Within.{all_join}
use Rattle.blif_read.specs.declared.models.Call.{Call}
use Rattle.blif_read.specs.declared.models.NamedDef.{NamedDef}
use Rattle.blif_read.specs.declared.models.BlifModel.{BlifModel}
use Rattle.blif_flat.specs.Designs.{names_in, called, output_ports, actual_of, joined_outputs}
use Rattle.blif_flat.specs.Expansion.{Wire, wire, WireDef, own, buffer, calls_within, expanded_call, expanded_calls}
use Rattle.blif_flat.specs.Expansion.{expanded}
use Rattle.blif_flat.proofs.Members.{Among, AreApart, among_left, among_right, among_parts, image, at_among, all_from}
use Rattle.blif_flat.proofs.Members.{all_weaker, apart_join, apart_front, apart_back, apart_across, apart_map, map_map}
use Rattle.blif_flat.proofs.JoinedModels.{driven_names, IsJoinedCall, actual_is_driven, actuals_apart}
use Rattle.blif_flat.proofs.SoundModels.{IsSound}
use Rattle.blif_flat.proofs.Blocks.{defined_in, block, driven_by}

-- a wire of a call from low up to high
pub record IsFrom (low high : ℕ) (x : Wire) : Type 0 where
  pub above : low ≤ x.call
  pub below : x.call < high

-- a wire of call k with one of these names
record IsOf (k : ℕ) (names : List (List ℕ)) (x : Wire) : Type 0 where
  here : x.call ≡ k
  named : Among x.name names

abbrev Lies : ℕ → ℕ → ℕ → List (List ℕ) → Wire → Type 0
Lies k low high names x = IsFrom low high x ⊎ IsOf k names x

-- a block of its own range
pub record IsBlock (low high : ℕ) (xs : List Wire) : Type 0 where
  pub apart : AreApart xs
  pub lie : AllByRecursion (IsFrom low high) xs

-- what calls of call k define
record AreOf (k low high : ℕ) (names : List (List ℕ)) (xs : List Wire) : Type 0 where
  apart : AreApart xs
  lie : AllByRecursion (Lies k low high names) xs

module _ (models : List BlifModel) where
  abbrev within_calls : ℕ → List Call → ℕ
  within_calls steps calls = sum_by (λ c. 1 + calls_within steps models (called models c)) calls

  abbrev pub actual_wires : ℕ → Call → List Wire
  actual_wires k call = map (λ o. wire k (actual_of call o)) (joined_outputs models call)

  pub call_defines : (steps k n : ℕ) (call : Call) → defined_in (expanded_call models (expanded steps models) k n call)
      ≡ block steps models n (called models call) ++ actual_wires k call
  call_defines steps k n call =
      let model = called models call in
      let from = λ (i : List ℕ). buffer call.line (wire k (actual_of call i)) (wire n i) in
      let to = λ (o : List ℕ). buffer call.line (wire n o) (wire k (actual_of call o)) in
      let ins = map from (names_in model.inputs) in
      let body = expanded steps models n model in
      let outs = map to (joined_outputs models call) in
      let out = λ (d : WireDef). d.output in
      map-append out (ins ++ body) outs
      ∙ (λ i. map-append out ins body i ++ map_map out to (joined_outputs models call) i)
      ∙ ap (λ front. front ++ defined_in body ++ actual_wires k call) (map_map out from (names_in model.inputs))

  actuals_are_of : (k : ℕ) (call : Call) (names : List (List ℕ)) → IsJoinedCall models names call
      → AllByRecursion (IsOf k (map (λ p. p.actual) (output_ports models call))) (actual_wires k call)
  actuals_are_of k call names ok =
      all_from (IsOf k (map (λ p. p.actual) (output_ports models call))) (actual_wires k call)
      (λ x h.
      (let at = image (λ o. wire k (actual_of call o)) (joined_outputs models call) x h in
      subst (IsOf k (map (λ p. p.actual) (output_ports models call))) at.is
      (record { here = refl; named = actual_is_driven models call ok.apart at.of at.there })))

  actual_wires_apart : (k : ℕ) (call : Call) (names : List (List ℕ)) → IsJoinedCall models names call
      → AreApart (map (λ p. p.actual) (output_ports models call)) → AreApart (actual_wires k call)
  actual_wires_apart k call names ok differ =
      subst AreApart (map_map (wire k) (actual_of call) (joined_outputs models call))
      (apart_map (wire k) (map (actual_of call) (joined_outputs models call))
      (λ a b h g e. ap (λ (x : Wire). x.name) e) (actuals_apart models call ok.apart differ))

  calls_apart : (steps k n : ℕ) (names : List (List ℕ)) (calls : List Call) → k < n
      → AllByRecursion (IsJoinedCall models names) calls → AreApart (driven_by models calls)
      → AllByRecursion (λ c. (m : ℕ) → IsBlock m (m + 1 + calls_within steps models (called models c))
      (block steps models m (called models c))) calls
      → AreOf k n (n + within_calls steps calls) (driven_by models calls)
      (defined_in (expanded_calls steps models (expanded steps models) k n calls))
  calls_apart steps k n names [] after ok differ inner = record { apart = tt; lie = tt }
  calls_apart steps k n names (call ∷ calls) after ok differ inner =
      let next = n + 1 + calls_within steps models (called models call) in
      let end = n + within_calls steps (call ∷ calls) in
      let mine = map (λ p. p.actual) (output_ports models call) in
      let others = driven_by models calls in
      let first = block steps models n (called models call) in
      let joined = actual_wires k call in
      let here = expanded_call models (expanded steps models) k n call in
      let rest = expanded_calls steps models (expanded steps models) k next calls in
      let own_block : IsBlock n next first = inner.0 n in
      let of_mine = actuals_are_of k call names ok.0 in
      let more : AreOf k next (next + within_calls steps calls) others (defined_in rest) =
      calls_apart steps k next names calls (omega (arith, after)) ok.1 (apart_back mine others differ) inner.1 in
      let sum = sum_by-cons (λ c. 1 + calls_within steps models (called models c)) call calls in
      let whole : defined_in (here ++ rest) ≡ first ++ joined ++ defined_in rest =
      map-append (λ (d : WireDef). d.output) here rest
      ∙ ap (λ front. front ++ defined_in rest) (call_defines steps k n call) in
      let front : AreApart (first ++ joined) = apart_join first joined own_block.apart
      (actual_wires_apart k call names ok.0 (apart_front mine others differ))
      (λ x y h g e.
      (let low = at_among (IsFrom n next) first x own_block.lie h in
      let at = at_among (IsOf k mine) joined y of_mine g in
      let same : x.call ≡ k = ap (λ (w : Wire). w.call) e ∙ at.here in
      omega (arith, low.above, same, after))) in
      let off_block : (x y : Wire) → Among x first
      → Lies k next (next + within_calls steps calls) others y → x ≡ y → ⊥ =
      λ x y h lies e.
      (let low = at_among (IsFrom n next) first x own_block.lie h in
      let same : x.call ≡ y.call = ap (λ (w : Wire). w.call) e in
      elim lies [
        | inl far ↦ let l = low.below in let f = far.above in omega (arith, l, f, same)
        | inr near ↦ let l = low.above in let f = near.here in omega (arith, l, f, same, after)
      ]) in
      let off_joined : (x y : Wire) → Among x joined
      → Lies k next (next + within_calls steps calls) others y → x ≡ y → ⊥ =
      λ x y h lies e.
      (let at = at_among (IsOf k mine) joined x of_mine h in
      let same : x.call ≡ y.call = ap (λ (w : Wire). w.call) e in
      elim lies [
        | inl far ↦ let l = at.here in let f = far.above in omega (arith, l, f, same, after)
        | inr near ↦ apart_across mine others y.name differ
            (subst (λ s. Among s mine) (ap (λ (w : Wire). w.name) e) at.named) near.named
      ]) in
      record {
        apart = subst AreApart (sym whole) (apart_join (first ++ joined) (defined_in rest) front more.apart
            (λ x y h g e.
            (let lies = at_among (Lies k next (next + within_calls steps calls) others)
            (defined_in rest) y more.lie g in
            elim (among_parts x first joined h) [
              | inl a ↦ off_block x y a lies e
              | inr b ↦ off_joined x y b lies e
            ])));
        lie = subst (AllByRecursion (Lies k n end (mine ++ others))) (sym whole)
            (all_join (Lies k n end (mine ++ others)) (first ++ joined) (defined_in rest)
            (all_join (Lies k n end (mine ++ others)) first joined
            (all_weaker (IsFrom n next) (Lies k n end (mine ++ others))
            (λ x f. inl (record { above = f.above; below = (let b = f.below in omega (arith, b, sum)) })) first
            own_block.lie)
            (all_weaker (IsOf k mine) (Lies k n end (mine ++ others))
            (λ x o. inr (record { here = o.here; named = among_left x.name mine others o.named })) joined of_mine))
            (all_weaker (Lies k next (next + within_calls steps calls) others) (Lies k n end (mine ++ others))
            (λ x lies. elim lies [
              | inl f ↦ inl (record {
                above = (let a = f.above in omega (arith, a));
                below = (let b = f.below in omega (arith, b, sum));
              })
              | inr o ↦ inr (record { here = o.here; named = among_right x.name mine others o.named })
            ]) (defined_in rest) more.lie));
      }

  pub block_parts : (steps k : ℕ) (model : BlifModel) → block (suc steps) models k model
      ≡ map (wire k) (names_in model.inputs ++ map (λ d. d.output) model.defs)
      ++ defined_in (expanded_calls steps models (expanded steps models) k (k + 1) model.calls)
  block_parts steps k model =
      let inputs = names_in model.inputs in
      let outputs = map (λ (d : NamedDef). d.output) model.defs in
      let owned = map (own k) model.defs in
      let below = expanded_calls steps models (expanded steps models) k (k + 1) model.calls in
      let out = λ (d : WireDef). d.output in
      let owned_are : defined_in owned ≡ map (wire k) outputs =
      map_map out (own k) model.defs ∙ sym (map_map (wire k) (λ (d : NamedDef). d.output) model.defs) in
      ap (λ back. map (wire k) inputs ++ back)
      (map-append out owned below ∙ ap (λ front. front ++ defined_in below) owned_are)
      ∙ sym (append_assoc (map (wire k) inputs) (map (wire k) outputs) (defined_in below))
      ∙ ap (λ front. front ++ defined_in below) (sym (map-append (wire k) inputs outputs))

  pub is_block : (steps k : ℕ) (model : BlifModel) → IsSound steps models model
      → IsBlock k (k + 1 + calls_within steps models model) (block steps models k model)
  is_block zero k model ok = absurd ok
  is_block (suc steps) k model ok =
      let names = names_in model.inputs ++ map (λ (d : NamedDef). d.output) model.defs in
      let ports = driven_by models model.calls in
      let below = defined_in (expanded_calls steps models (expanded steps models) k (k + 1) model.calls) in
      let end = k + 1 + calls_within (suc steps) models model in
      let more : AreOf k (k + 1) end ports below =
      calls_apart steps k (k + 1) (driven_names models model) model.calls (omega arith) ok.0.calls
      (apart_back names ports ok.0.apart)
      (all_from _ model.calls
      (λ c there m. is_block steps m (called models c)
      (at_among (λ e. IsSound steps models (called models e)) model.calls c ok.1 there))) in
      subst (IsBlock k end) (sym (block_parts steps k model))
      (record {
        apart = apart_join (map (wire k) names) below
            (apart_map (wire k) names (λ a b h g e. ap (λ (x : Wire). x.name) e) (apart_front names ports ok.0.apart))
            more.apart
            (λ x y h g e.
            (let at = image (wire k) names x h in
            let lies = at_among (Lies k (k + 1) end ports) below y more.lie g in
            elim lies [
              | inl far ↦
                  let f = far.above in
                  let same : k ≡ y.call = ap (λ (w : Wire). w.call) (at.is ∙ e) in
                  omega (arith, f, same)
              | inr near ↦ apart_across names ports y.name ok.0.apart
                  (subst (λ s. Among s names) (ap (λ (w : Wire). w.name) (at.is ∙ e)) at.there) near.named
            ]));
        lie = all_join (IsFrom k end) (map (wire k) names) below
            (all_from (IsFrom k end) (map (wire k) names)
            (λ x h.
            (let at = image (wire k) names x h in
            subst (IsFrom k end) at.is (record { above = omega arith; below = omega arith }))))
            (all_weaker (Lies k (k + 1) end ports) (IsFrom k end)
            (λ x lies. elim lies [
              | inl f ↦ record { above = (let a = f.above in omega (arith, a)); below = f.below }
              | inr o ↦ (let same = o.here in record { above = omega (arith, same); below = omega (arith, same) })
            ]) below more.lie);
      })

  -- a wire of the model itself has a name that the model drives
  pub own_wires : (steps k : ℕ) (model : BlifModel) → IsSound steps models model
      → AllByRecursion (λ x. x.call ≡ k → Among x.name (driven_names models model)) (block steps models k model)
  own_wires zero k model ok = absurd ok
  own_wires (suc steps) k model ok =
      let names = names_in model.inputs ++ map (λ (d : NamedDef). d.output) model.defs in
      let ports = driven_by models model.calls in
      let below = defined_in (expanded_calls steps models (expanded steps models) k (k + 1) model.calls) in
      let end = k + 1 + calls_within (suc steps) models model in
      let P = λ (x : Wire). x.call ≡ k → Among x.name (names ++ ports) in
      let more : AreOf k (k + 1) end ports below =
      calls_apart steps k (k + 1) (driven_names models model) model.calls (omega arith) ok.0.calls
      (apart_back names ports ok.0.apart)
      (all_from _ model.calls
      (λ c there m. is_block steps m (called models c)
      (at_among (λ e. IsSound steps models (called models e)) model.calls c ok.1 there))) in
      subst (AllByRecursion P) (sym (block_parts steps k model))
      (all_join P (map (wire k) names) below
      (all_from P (map (wire k) names)
      (λ x h here.
      (let at = image (wire k) names x h in
      among_left x.name names ports (subst (λ s. Among s names) (ap (λ (w : Wire). w.name) at.is) at.there))))
      (all_weaker (Lies k (k + 1) end ports) P
      (λ x lies here. elim lies [
        | inl f ↦ (let a = f.above in absurd (omega (arith, a, here)))
        | inr o ↦ among_right x.name names ports o.named
      ]) below more.lie))

  pub block_apart : (steps k : ℕ) (model : BlifModel) → IsSound steps models model
      → AreApart (block steps models k model)
  block_apart steps k model ok = (is_block steps k model ok).apart
