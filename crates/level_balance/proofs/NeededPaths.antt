-- A gate is marked exactly where operands lead to it from an output.
use Rattle.std.proofs.Common.{◌≡◌, ◌⊎◌, ◌↔◌, ℕ, zero, suc, ◌+◌, ◌<◌, ◌≤◌, ◌&&◌, Bool, true, false, not, ltb, List, []}
use Rattle.std.proofs.Common.{◌∷◌, ◌++◌, length, replicate, slice_get, slice_index_or, Option, Some, None, Contains}
use Rattle.std.proofs.Common.{refl, sym, ap, ◌∙◌, subst, arith, inl, inr}
use Rattle.std.proofs.lemmas.Bool.{or_cases, or_left, or_right, and_from, and_parts, ltb-true, lt-ltb}
use Rattle.std.proofs.lemmas.List.{length-replicate}
use Rattle.std.proofs.lemmas.Option.{slice_get_within}
use Rattle.circuit.specs.declared.gate.Gate.{Gate}
use Rattle.circuit.specs.PlainNets.{PlainView, is_constant, IsPlainNet}
use Rattle.level_balance.specs.Uses.{operands, operands_by, mark_each, needed, counts}
use Rattle.level_balance.specs.Needs.{LeadsBy, IsNeeded}
use Rattle.level_balance.proofs.LawOfGates.{In}
use Rattle.level_balance.proofs.Marks.{mark, AllIn, all_in, each_marked, each_length, each_reason, not_marked, all_kept}
use Rattle.level_balance.proofs.Marks.{closed, reason}
use Rattle.level_balance.proofs.Frames.{counts_free}
use Rattle.level_balance.proofs.Plain.{is_plain}

pub in_contains : (xs : List ℕ) (x : ℕ) → In x xs → Contains xs x
in_contains [] x h = absurd h
in_contains (y ∷ xs) x (inl e) = (0, omega arith, sym e)
in_contains (y ∷ xs) x (inr h) = let more = in_contains xs x h in (suc more.0, omega (arith, more.1), more.2)

pub contains_in : (xs : List ℕ) (x : ℕ) → Contains xs x → In x xs
contains_in [] x (k, lt, e) = absurd (omega arith)
contains_in (y ∷ xs) x (zero, lt, e) = inl (sym e)
contains_in (y ∷ xs) x (suc k, lt, e) = inr (contains_in xs x (k, omega arith, e))

leads_on : (gs : List Gate) (i : ℕ) (path : List ℕ) (j x : ℕ) → LeadsBy gs i path j
    → Contains (operands_by (slice_get gs j)) x → LeadsBy gs i (path ++ x ∷ []) x
leads_on gs i [] j x e c = (subst (λ k. Contains (operands_by (slice_get gs k)) x) (sym e) c, refl)
leads_on gs i (p ∷ path) j x h c = (h.0, leads_on gs p path j x h.1 c)

module _ (net : PlainView) (known : IsPlainNet net) where
  abbrev none : List Bool
  none = replicate (length net.gates) false

  abbrev begun : List Bool
  begun = mark_each none net.outputs

  abbrev lower : (i : ℕ) (g : Gate) → slice_get net.gates i ≡ Some g → AllIn (λ x. x < i) (operands g)
  lower = (is_plain net known).lower

  begun_length : length begun ≡ length net.gates
  begun_length = each_length none net.outputs ∙ length-replicate (length net.gates) false

  outputs_marked : AllIn (λ x. mark (needed net) x ≡ true) net.outputs
  outputs_marked =
      let few : AllIn (λ o. o < length none) net.outputs = rw (length-replicate (length net.gates) false)
      (is_plain net known).shown in
      all_kept net.gates lower (length net.gates) begun net.outputs (each_marked none net.outputs few)

  abbrev Reason : ℕ → Type 0
  Reason i = (mark begun i ≡ true)
      ⊎ ((j : ℕ) × (g : Gate) × (slice_get net.gates j ≡ Some g) × (mark (needed net) j ≡ true) × In i (operands g))

  shown_needed : (i : ℕ) → (mark none i ≡ true) ⊎ In i net.outputs → IsNeeded net i
  shown_needed i (inl e) = let z : true ≡ false = sym e ∙ not_marked (length net.gates) i in cc
  shown_needed i (inr h) = record { output = i; shown = in_contains net.outputs i h; path = []; leads = refl }

  -- a gate is marked as an output, or for a gate above it that reads it
  needed_for : (i : ℕ) → ((j : ℕ) → i < j → j < length net.gates → mark (needed net) j ≡ true → IsNeeded net j)
      → Reason i → IsNeeded net i
  needed_for i higher (inl now) = shown_needed i (each_reason none net.outputs i now)
  needed_for i higher (inr by) =
      let below : i < by.0 = all_in (λ x. x < by.0) (operands by.1) i (lower by.0 by.1 by.2) by.4 in
      let user = higher by.0 below (slice_get_within net.gates by.0 by.1 by.2) by.3 in
      let read : Contains (operands_by (slice_get net.gates by.0)) i = subst (λ o. Contains (operands_by o) i)
      (sym by.2) (in_contains (operands by.1) i by.4) in
      record {
        output = user.output;
        shown = user.shown;
        path = user.path ++ i ∷ [];
        leads = leads_on net.gates user.output user.path by.0 i user.leads read;
      }

  from_mark : (left i : ℕ) → length net.gates ≤ i + left → mark (needed net) i ≡ true → IsNeeded net i
  from_mark zero i room m = needed_for i (λ j above within e. absurd (omega arith))
      (reason net.gates lower (length net.gates) begun i m)
  from_mark (suc left) i room m = needed_for i (λ j above within e. from_mark left j (omega arith) e)
      (reason net.gates lower (length net.gates) begun i m)

  pub operand_marked : (i x : ℕ) (o : Option Gate) → slice_get net.gates i ≡ o → mark (needed net) i ≡ true
      → Contains (operands_by o) x → mark (needed net) x ≡ true
  operand_marked i x None e m c = absurd (contains_in [] x c)
  operand_marked i x (Some g) e m c =
      let size = begun_length in
      let each = closed net.gates lower (length net.gates) begun (omega arith) i g
      (slice_get_within net.gates i g e) e m in
      all_in (λ y. mark (needed net) y ≡ true) (operands g) x each (contains_in (operands g) x c)

  path_marked : (i : ℕ) (path : List ℕ) (j : ℕ) → LeadsBy net.gates i path j → mark (needed net) i ≡ true
      → mark (needed net) j ≡ true
  path_marked i [] j e m = subst (λ k. mark (needed net) k ≡ true) e m
  path_marked i (x ∷ path) j h m = path_marked x path j h.1 (operand_marked i x (slice_get net.gates i) refl m h.0)

  to_mark : (i : ℕ) → IsNeeded net i → mark (needed net) i ≡ true
  to_mark i h = path_marked h.output h.path i h.leads
      (all_in (λ x. mark (needed net) x ≡ true) net.outputs h.output outputs_marked
      (contains_in net.outputs h.output h.shown))

pub marked_needed : (net : PlainView) → IsPlainNet net → (i : ℕ)
    → (slice_index_or (needed net) i false ≡ true) ↔ IsNeeded net i
marked_needed net known i = (from_mark net known (length net.gates) i (omega arith), to_mark net known i)

pub counts_needed : (net : PlainView) → IsPlainNet net → (i : ℕ)
    → (counts net.inputs (needed net) i ≡ true) ↔ ((i < net.inputs)
    ⊎ ((is_constant net.inputs i ≡ false) × IsNeeded net i))
counts_needed net known i = (forth, back)
  where
    forth : counts net.inputs (needed net) i ≡ true → (i < net.inputs)
        ⊎ ((is_constant net.inputs i ≡ false) × IsNeeded net i)
    forth c = elim (or_cases (ltb i net.inputs)
        (slice_index_or (needed net) i false && not (is_constant net.inputs i)) c) [
          | inl small ↦ inl (ltb-true i net.inputs small)
          | inr both ↦ inr (
            counts_free net.inputs (needed net) i c,
            (marked_needed net known i).0
                (and_parts (slice_index_or (needed net) i false) (not (is_constant net.inputs i)) both).0,
          )
        ]

    back : (i < net.inputs) ⊎ ((is_constant net.inputs i ≡ false) × IsNeeded net i)
        → counts net.inputs (needed net) i ≡ true
    back (inl lt) = or_left (ltb i net.inputs)
        (slice_index_or (needed net) i false && not (is_constant net.inputs i)) (lt-ltb i net.inputs lt)
    back (inr h) = or_right (ltb i net.inputs) (slice_index_or (needed net) i false && not (is_constant net.inputs i))
        (and_from (slice_index_or (needed net) i false) (not (is_constant net.inputs i))
        ((marked_needed net known i).1 h.1) (ap not h.0))
