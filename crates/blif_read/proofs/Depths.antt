-- Where the walk closes no cycle, each path from a signal comes to an end, and the length of the longest ranks the
-- signal.
use Rattle.std.proofs.Common.{◌≡◌, ℕ, zero, suc, ◌+◌, ◌-◌, ◌<◌, ◌≤◌, max, true, cond, List, [], ◌∷◌, length, Option}
use Rattle.std.proofs.Common.{None, refl, sym, ap, ◌∙◌, subst, arith, inl, inr, add-one}
use Rattle.std.specs.Prelude.{nat_lt, slice_get, slice_index_or}
use Rattle.std.specs.List.{AllByRecursion, range_with_len}
use Rattle.std.proofs.lemmas.Bool.{cases_Bool, cases_lt, lt-ltb}
use Rattle.blif_read.specs.Parts.{operands, operands_at}
use Rattle.blif_read.specs.Walk.{first_of, on, closes, first_cycle}
use Rattle.blif_read.specs.Walked.{IsWithin}
use Rattle.blif_read.specs.Code.Marking.{Apart}
use Rattle.blif_read.specs.Netlist.{HasNoCycle}
use Rattle.blif_read.specs.declared.netlist.Def.{Def}
use Rattle.blif_read.proofs.Closing.{closes_off, closes_on, first_of_or, all_map, path_fits}
use Rattle.blif_read.proofs.Distinct.{none_or}
use Rattle.blif_read.proofs.Facts.{nothing_past}

-- each path from the signal has fewer steps than this
abbrev Ends : (ℕ → List ℕ) → ℕ → ℕ → Type 0
Ends reads zero s = ⊥
Ends reads (suc steps) s = AllByRecursion (Ends reads steps) (reads s)

-- one more than the greatest value of the items
abbrev above_all : (ℕ → ℕ) → List ℕ → ℕ
above_all f [] = 0
above_all f (q ∷ qs) = max (suc (f q)) (above_all f qs)

-- the steps of the longest path from a signal, as far as so many steps go
abbrev depth : (ℕ → List ℕ) → ℕ → ℕ → ℕ
depth reads zero s = 0
depth reads (suc steps) s = above_all (depth reads steps) (reads s)

each_none : (f : ℕ → Option (List ℕ)) (xs : List ℕ) → first_of f xs ≡ None → AllByRecursion (λ x. f x ≡ None) xs
each_none f [] e = tt
each_none f (x ∷ xs) e =
    let both = none_or (f x) (first_of f xs) (sym (first_of_or f x xs) ∙ e) in
    (both.0, each_none f xs both.1)

both_of : (P Q R : ℕ → Type 0) (xs : List ℕ) → ((x : ℕ) → P x → Q x → R x) → AllByRecursion P xs → AllByRecursion Q xs →
    AllByRecursion R xs
both_of P Q R [] f p q = tt
both_of P Q R (x ∷ xs) f p q = (f x p.0 q.0, both_of P Q R xs f p.1 q.1)

each_below : (total : ℕ) (xs : List ℕ) → ((k : ℕ) → k < length xs → slice_index_or xs k 0 < total) →
    AllByRecursion (λ q. q < total) xs
each_below total [] h = tt
each_below total (x ∷ xs) h = (h 0 (omega arith), each_below total xs (λ k lt. h (suc k) (omega arith)))

-- a walk that closes nothing comes to an end, since a path without a cycle has no more signals than there are
ends : (reads : ℕ → List ℕ) (total : ℕ) → IsWithin reads total → (steps : ℕ) (path : List ℕ) (s : ℕ) →
    steps + length path ≡ suc total → Apart path → AllByRecursion (λ q. q < total) path → s < total →
    closes reads steps path s ≡ None → Ends reads steps s
ends reads total within zero path s count apart below small none =
    let fits = path_fits total path apart below in absurd (omega arith)
ends reads total within (suc steps) path s count apart below small none = elim (cases_Bool (on path s)) [
  | inl met ↦ absurd (let some = closes_on reads steps path s met in cc)
  | inr new ↦
      both_of (λ q. closes reads steps (s ∷ path) q ≡ None) (λ q. q < total) (Ends reads steps) (reads s)
      (λ q open_ lower.
      ends reads total within steps (s ∷ path) q (omega arith) (new, apart) (small, below) lower open_)
      (each_none (closes reads steps (s ∷ path)) (reads s) (sym (closes_off reads steps path s new) ∙ none))
      (each_below total (reads s) (within s))
]

above_each : (f : ℕ → ℕ) (xs : List ℕ) → AllByRecursion (λ q. f q < above_all f xs) xs
above_each f [] = tt
above_each f (x ∷ xs) =
    let others = all_map (λ q. f q < above_all f xs) (λ q. f q < above_all f (x ∷ xs)) xs (λ q lt. omega arith) in
    (omega arith, others (above_each f xs))

same_above : (f g : ℕ → ℕ) (xs : List ℕ) → AllByRecursion (λ q. f q ≡ g q) xs → above_all f xs ≡ above_all g xs
same_above f g [] same = refl
same_above f g (x ∷ xs) same =
    ap (λ n. max (suc n) (above_all f xs)) same.0 ∙ ap (max (suc (g x))) (same_above f g xs same.1)

-- more steps find no longer path
steady : (reads : ℕ → List ℕ) (steps s : ℕ) → Ends reads steps s → depth reads (suc steps) s ≡ depth reads steps s
steady reads zero s e = absurd e
steady reads (suc steps) s e =
    same_above (depth reads (suc steps)) (depth reads steps) (reads s)
    (all_map (Ends reads steps) (λ q. depth reads (suc steps) q ≡ depth reads steps q) (reads s) (steady reads steps) e)

lower : (reads : ℕ → List ℕ) (steps s : ℕ) → Ends reads steps s →
    AllByRecursion (λ q. depth reads steps q < depth reads steps s) (reads s)
lower reads steps s e =
    subst (λ n. AllByRecursion (λ q. depth reads steps q < n) (reads s)) (steady reads steps s e)
    (above_each (depth reads steps) (reads s))

at_range : (P : ℕ → Type 0) (first count s : ℕ) → AllByRecursion P (range_with_len first count) → first ≤ s →
    s < first + count → P s
at_range P first zero s all le lt = absurd (omega arith)
at_range P first (suc count) s all le lt = elim (cases_lt first s) [
  | inl later ↦ at_range P (first + 1) count s all.1 (omega arith) (omega arith)
  | inr here ↦ (let is : first ≡ s = omega arith in subst P is all.0)
]

ends_at_none : (reads : ℕ → List ℕ) (steps s : ℕ) → reads s ≡ [] → Ends reads (suc steps) s
ends_at_none reads steps s none = subst (AllByRecursion (Ends reads steps)) (sym none) tt

each_ends : (inputs : ℕ) (defs : List Def) → IsWithin (operands inputs defs) (inputs + length defs) →
    first_cycle inputs defs ≡ None → (s : ℕ) → Ends (operands inputs defs) (suc (inputs + length defs)) s
each_ends inputs defs within none s = elim (cases_lt s inputs) [
  | inl input ↦
      let k : nat_lt s inputs ≡ true = lt-ltb s inputs input in
      let none_read = ap (λ b. cond b [] (operands_at (slice_get defs (s - inputs)))) k in
      ends_at_none (operands inputs defs) (inputs + length defs) s none_read
  | inr large ↦ elim (cases_lt s (inputs + length defs)) [
    | inl defined ↦
        let reads = operands inputs defs in
        let roots = each_none (closes reads (inputs + length defs + 1) []) (range_with_len inputs (length defs)) none in
        let root = at_range (λ s. closes reads (inputs + length defs + 1) [] s ≡ None) inputs (length defs) s roots in
        ends reads (inputs + length defs) within (suc (inputs + length defs)) [] s (omega arith) tt tt defined
        (subst (λ (n : ℕ). closes reads n [] s ≡ None) (add-one (inputs + length defs)) (root large defined))
    | inr beyond ↦ ends_at_none (operands inputs defs) (inputs + length defs) s (nothing_past inputs defs s beyond)
  ]
]

pub no_cycle : (inputs : ℕ) (defs : List Def) → IsWithin (operands inputs defs) (inputs + length defs) →
    first_cycle inputs defs ≡ None → HasNoCycle inputs defs
no_cycle inputs defs within none = record {
  rank = depth (operands inputs defs) (suc (inputs + length defs));
  ranked = record {
    lower = λ s. lower (operands inputs defs) (suc (inputs + length defs)) s (each_ends inputs defs within none s);
  };
}
