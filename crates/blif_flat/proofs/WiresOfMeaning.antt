-- What models mean gives values of wires that hold the definitions of the expanded model: those of each call in its own
-- range of numbers.
use Rattle.std.proofs.Common.{◌≡◌, ℕ, zero, suc, ◌+◌, ◌<◌, ◌≤◌, Bool, false, cond, List, [], ◌∷◌, ◌++◌, map, refl, sym}
use Rattle.std.proofs.Common.{ap, ◌∙◌, subst, arith, sum_by, nat_lt, ◌==◌}
use Rattle.std.specs.List.{AllByRecursion}
use Rattle.std.proofs.lemmas.Bool.{lt-ltb, le-ltb, eq-eqb, ne_eqb}
use Rattle.std.proofs.lemmas.List.Sums.{sum_by-cons}
use Rattle.blif_read.proofs.Within.{all_join}
use Rattle.blif_read.specs.declared.models.Call.{Call}
use Rattle.blif_read.specs.declared.models.BlifModel.{BlifModel}
use Rattle.blif_flat.specs.Designs.{names_in, called, output_ports, actual_of, joined_outputs}
use Rattle.blif_flat.specs.Expansion.{wire, own, buffer, calls_within, expanded_call, expanded_calls, expanded}
use Rattle.blif_flat.specs.Meaning.{named_value, answer_at, Shows, Means}
use Rattle.blif_flat.proofs.Members.{Among, all_from, all_mapped, all_weaker, at_among, all_from_map}
use Rattle.blif_flat.proofs.JoinedModels.{driven_names, IsJoinedCall, joined_is_output, joined_port, joined_actual}
use Rattle.blif_flat.proofs.SoundModels.{IsSound}
use Rattle.blif_flat.proofs.HeldWires.{Values, Holds, buffer_holds, own_value, answer_is}

-- the same values at the calls from low up to high
abbrev Agree : ℕ → ℕ → Values → Values → Type 0
Agree low high w u = (j : ℕ) → low ≤ j → j < high → u j ≡ w j

-- the values of one up to a call, and of another one from it on
abbrev joined_at : ℕ → Values → Values → Values
joined_at n w x j = cond (nat_lt j n) (w j) (x j)

low_part : (n : ℕ) (w x : Values) (j : ℕ) → j < n → joined_at n w x j ≡ w j
low_part n w x j lt = ap (λ b. cond b (w j) (x j)) (lt-ltb j n lt)

high_part : (n : ℕ) (w x : Values) (j : ℕ) → n ≤ j → joined_at n w x j ≡ x j
high_part n w x j le = ap (λ b. cond b (w j) (x j)) (le-ltb j n le)

-- the values of the signals of call k, and of those of the others
abbrev with_call : ℕ → (List ℕ → Bool) → Values → Values
with_call k v x j = cond (j == k) v (x j)

this_call : (k : ℕ) (v : List ℕ → Bool) (x : Values) → with_call k v x k ≡ v
this_call k v x = ap (λ b. cond b v (x k)) (eq-eqb k k refl)

other_call : (k : ℕ) (v : List ℕ → Bool) (x : Values) (j : ℕ) → k < j → with_call k v x j ≡ x j
other_call k v x j lt = ap (λ b. cond b v (x j)) (ne_eqb j k (λ e. omega (arith, e, lt)))

module _ (models : List BlifModel) where
  -- values that hold the definitions of an expanded model, as long as they are not changed in its range
  pub record IsSolved (steps k : ℕ) (model : BlifModel) (word answer : List Bool) : Type 0 where
    pub values : Values
    pub hold : (u : Values) → Agree k (k + 1 + calls_within steps models model) values u
        → AllByRecursion (Holds u) (expanded steps models k model)
    pub bits : map (values k) (names_in model.inputs) ≡ word
    pub shown : answer ≡ map (values k) (names_in model.outputs)

  abbrev within_calls : ℕ → List Call → ℕ
  within_calls steps calls = sum_by (λ c. 1 + calls_within steps models (called models c)) calls

  -- and those of calls, beside the caller's own values
  record AreSolved (steps k n : ℕ) (v : List ℕ → Bool) (calls : List Call) : Type 0 where
    values : Values
    hold : (u : Values) → u k ≡ v → Agree n (n + within_calls steps calls) values u
        → AllByRecursion (Holds u) (expanded_calls steps models (expanded steps models) k n calls)

  call_holds : (steps k n : ℕ) (names : List (List ℕ)) (call : Call) (v : List ℕ → Bool) (answer : List Bool)
      → IsJoinedCall models names call
      → AllByRecursion (λ p. v p.actual ≡ answer_at (called models call) answer p.formal) (output_ports models call)
      → (s : IsSolved steps n (called models call)
      (map (λ i. v (actual_of call i)) (names_in (called models call).inputs)) answer)
      → (u : Values) → u k ≡ v → Agree n (n + 1 + calls_within steps models (called models call)) s.values u
      → AllByRecursion (Holds u) (expanded_call models (expanded steps models) k n call)
  call_holds steps k n names call v answer ok joined s u caller agree =
      let model = called models call in
      let inner : u n ≡ s.values n = agree n (omega arith) (omega arith) in
      let ins = map (λ i. buffer call.line (wire k (actual_of call i)) (wire n i)) (names_in model.inputs) in
      let body = expanded steps models n model in
      let outs = map (λ o. buffer call.line (wire n o) (wire k (actual_of call o))) (joined_outputs models call) in
      let taken = all_from_map (s.values n) (λ i. v (actual_of call i)) (names_in model.inputs) s.bits in
      let into = all_mapped (Holds u) (λ i. buffer call.line (wire k (actual_of call i)) (wire n i))
      (names_in model.inputs)
      (all_weaker (λ i. s.values n i ≡ v (actual_of call i))
      (λ i. Holds u (buffer call.line (wire k (actual_of call i)) (wire n i)))
      (λ i e. buffer_holds u call.line (wire k (actual_of call i)) (wire n i)
      ((λ j. inner j i) ∙ e ∙ (λ j. sym caller j (actual_of call i)))) (names_in model.inputs) taken) in
      let out_of = all_mapped (Holds u) (λ o. buffer call.line (wire n o) (wire k (actual_of call o)))
      (joined_outputs models call)
      (all_from (λ o. Holds u (buffer call.line (wire n o) (wire k (actual_of call o)))) (joined_outputs models call)
      (λ o h.
      (let port = joined_port models call ok.apart o h in
      let named : Among port.port.formal (names_in model.outputs) =
      subst (λ f. Among f (names_in model.outputs)) (sym port.formal) (joined_is_output models call ok.apart o h) in
      buffer_holds u call.line (wire n o) (wire k (actual_of call o))
      ((λ j. caller j (actual_of call o)) ∙ ap v (joined_actual models call ok.apart o h)
      ∙ at_among (λ p. v p.actual ≡ answer_at model answer p.formal) (output_ports models call) port.port joined
      port.there
      ∙ ap (λ a. answer_at model a port.port.formal) s.shown
      ∙ answer_is model (s.values n) port.port.formal named
      ∙ ap (s.values n) port.formal ∙ (λ j. sym inner j o))))) in
      all_join (Holds u) (ins ++ body) outs (all_join (Holds u) ins body into (s.hold u agree)) out_of

  calls_solved : (steps k n : ℕ) (names : List (List ℕ)) (v : List ℕ → Bool) (calls : List Call)
      → AllByRecursion (IsJoinedCall models names) calls
      → AllByRecursion (λ c. (m : ℕ) (word answer : List Bool) → Means steps models (called models c) word answer
      → IsSolved steps m (called models c) word answer) calls
      → AllByRecursion (Shows (Means steps models) models v) calls → AreSolved steps k n v calls
  calls_solved steps k n names v [] ok inner shows = record { values = λ j s. false; hold = λ u caller agree. tt }
  calls_solved steps k n names v (call ∷ calls) ok inner shows =
      let model = called models call in
      let next = n + 1 + calls_within steps models model in
      let word = map (λ i. v (actual_of call i)) (names_in model.inputs) in
      let s : IsSolved steps n model word shows.0.answer = inner.0 n word shows.0.answer shows.0.given in
      let more : AreSolved steps k next v calls = calls_solved steps k next names v calls ok.1 inner.1 shows.1 in
      let sum = sum_by-cons (λ c. 1 + calls_within steps models (called models c)) call calls in
      record {
        values = joined_at next s.values more.values;
        hold = λ u caller agree. all_join (Holds u)
            (expanded_call models (expanded steps models) k n call)
            (expanded_calls steps models (expanded steps models) k next calls)
            (call_holds steps k n names call v shows.0.answer ok.0 shows.0.joined s u caller
            (λ j low high. agree j low (omega (arith, sum)) ∙ low_part next s.values more.values j high))
            (more.hold u caller
            (λ j low high. agree j (omega arith) (omega (arith, sum))
            ∙ high_part next s.values more.values j low));
      }

  pub wires_from_meaning : (steps k : ℕ) (model : BlifModel) (word answer : List Bool) → IsSound steps models model
      → Means steps models model word answer → IsSolved steps k model word answer
  wires_from_meaning zero k model word answer ok m = absurd m
  wires_from_meaning (suc steps) k model word answer ok m =
      let v = m.values in
      let below : AreSolved steps k (k + 1) v model.calls =
      calls_solved steps k (k + 1) (driven_names models model) v model.calls ok.0.calls
      (all_from _ model.calls
      (λ c there j bits shown is. wires_from_meaning steps j (called models c) bits shown
      (at_among (λ d. IsSound steps models (called models d)) model.calls c ok.1 there) is)) m.calls in
      let w = with_call k v below.values in
      let here : w k ≡ v = this_call k v below.values in
      record {
        values = w;
        hold = λ u agree.
            (let caller : u k ≡ v = agree k (omega arith) (omega arith) ∙ here in
            all_join (Holds u) (map (own k) model.defs)
            (expanded_calls steps models (expanded steps models) k (k + 1) model.calls)
            (all_mapped (Holds u) (own k) model.defs
            (all_weaker (λ d. v d.output ≡ named_value d v) (λ d. Holds u (own k d))
            (λ d e. (λ j. caller j d.output) ∙ e ∙ (λ j. named_value d (sym caller j)) ∙ sym (own_value u k d))
            model.defs m.covers))
            (below.hold u caller
            (λ j low high. agree j (omega arith) (omega arith)
            ∙ other_call k v below.values j (omega arith))));
        bits = ap (λ f. map f (names_in model.inputs)) here ∙ m.bits;
        shown = m.shown ∙ ap (λ f. map f (names_in model.outputs)) (sym here);
      }
