-- An order of models, each after those that it calls: what holds of the models behind a model holds of it.
use Rattle.std.proofs.Common.{◌≡◌, ℕ, zero, suc, ◌+◌, ◌<◌, ◌≤◌, ◌||◌, List, [], ◌∷◌, ◌++◌, length, take, drop, get_or}
use Rattle.std.proofs.Common.{reverse, arith, Bool, true, false, refl, sym, ap, subst, ◌∙◌, inl, inr}
use Rattle.std.specs.Prelude.{nat_lt, nat_eq}
use Rattle.std.specs.List.{AllByRecursion}
use Rattle.std.proofs.lemmas.Bool.{cases_Bool, eqb-true}
use Rattle.std.proofs.lemmas.List.{take_more, reverse-append, take-append-drop}
use Rattle.blif_flat.proofs.Members.{all_back}
use Rattle.blif_read.specs.Walk.{on}
use Rattle.blif_read.specs.Walked.{known, Settled}
use Rattle.blif_read.specs.Code.Marking.{Apart}
use Rattle.blif_read.proofs.Closing.{all_map, path_fits}

no_inputs : (done : List ℕ) (q : ℕ) → known 0 done q ≡ on done q
no_inputs done q = let no : nat_lt q 0 ≡ false = grind arith in ap (λ b. b || on done q) no

apart : (reads : ℕ → List ℕ) (done : List ℕ) → Settled 0 reads done → Apart done
apart reads [] s = tt
apart reads (d ∷ ds) s = (sym (no_inputs ds d) ∙ s.0, apart reads ds s.2)

-- an order has no more models than there are
pub order_fits : (reads : ℕ → List ℕ) (total : ℕ) (done : List ℕ) → Settled 0 reads done
    → AllByRecursion (λ n. n < total) done → length done ≤ total
order_fits reads total done s b = path_fits total done (apart reads done s) b

module _ (reads : ℕ → List ℕ) (P : ℕ → ℕ → ℕ → Type 0) (step : (j k n : ℕ) → AllByRecursion (P j k) (reads n)
    → P (suc j) (suc k) n) where
  -- what two counts of steps agree on, where both are enough
  pub agrees : (done : List ℕ) → Settled 0 reads done → (n : ℕ) → on done n ≡ true → (j k : ℕ) → length done ≤ j
      → length done ≤ k → P j k n
  agrees [] s n e j k a b = absurd (cc)
  agrees (d ∷ ds) s n e zero k a b = absurd (omega arith)
  agrees (d ∷ ds) s n e (suc j) zero a b = absurd (omega arith)
  agrees (d ∷ ds) s n e (suc j) (suc k) a b = elim (cases_Bool (nat_eq n d)) [
    | inl same ↦
        let is : d ≡ n = sym (eqb-true n d same) in
        step j k n (subst (λ x. AllByRecursion (P j k) (reads x)) is
        (all_map (λ q. known 0 ds q ≡ true) (P j k) (reads d)
        (λ q k0. agrees ds s.2 q (sym (no_inputs ds q) ∙ k0) j k (omega arith) (omega arith)) s.1))
    | inr other ↦ agrees ds s.2 n (subst (λ b. b || on ds n ≡ true) other e) (suc j) (suc k) (omega arith) (omega arith)
  ]

settled_end : (reads : ℕ → List ℕ) (xs ys : List ℕ) → Settled 0 reads (xs ++ ys) → Settled 0 reads ys
settled_end reads [] ys s = s
settled_end reads (x ∷ xs) ys s = settled_end reads xs ys s.2

-- an order up to a place, latest first
pub next_done : (order : List ℕ) (i d : ℕ) → i < length order
    → reverse (take (i + 1) order) ≡ get_or order i d ∷ reverse (take i order)
next_done order i d lt = ap reverse (take_more order i d lt) ∙ reverse-append (take i order) (get_or order i d ∷ [])

split_done : (order : List ℕ) (i : ℕ) → reverse order ≡ reverse (drop i order) ++ reverse (take i order)
split_done order i = ap reverse (sym (take-append-drop i order)) ∙ reverse-append (take i order) (drop i order)

pub settled_to : (reads : ℕ → List ℕ) (order : List ℕ) (i : ℕ) → Settled 0 reads (reverse order)
    → Settled 0 reads (reverse (take i order))
settled_to reads order i s = settled_end reads (reverse (drop i order)) (reverse (take i order))
    (subst (Settled 0 reads) (split_done order i) s)

pub all_to : (P : ℕ → Type 0) (order : List ℕ) (i : ℕ) → AllByRecursion P (reverse order)
    → AllByRecursion P (reverse (take i order))
all_to P order i s = all_back P (reverse (drop i order)) (reverse (take i order))
    (subst (AllByRecursion P) (split_done order i) s)

-- the next model of an order calls models that stand before it
pub next_reads : (reads : ℕ → List ℕ) (order : List ℕ) (i d : ℕ) → i < length order → Settled 0 reads (reverse order)
    → AllByRecursion (λ q. on (reverse (take i order)) q ≡ true) (reads (get_or order i d))
next_reads reads order i d lt s =
    let here = subst (Settled 0 reads) (next_done order i d lt) (settled_to reads order (i + 1) s) in
    all_map (λ q. known 0 (reverse (take i order)) q ≡ true) (λ q. on (reverse (take i order)) q ≡ true)
    (reads (get_or order i d)) (λ q k. sym (no_inputs (reverse (take i order)) q) ∙ k) here.1

or_true : (a : Bool) {b : Bool} → b ≡ true → a || b ≡ true
or_true true e = refl
or_true false e = e

-- a model of an order calls models of it
pub reads_done : (reads : ℕ → List ℕ) (done : List ℕ) (n : ℕ) → Settled 0 reads done → on done n ≡ true
    → AllByRecursion (λ q. on done q ≡ true) (reads n)
reads_done reads [] n s e = absurd (cc)
reads_done reads (d ∷ ds) n s e = elim (cases_Bool (nat_eq n d)) [
  | inl same ↦
      let is : d ≡ n = sym (eqb-true n d same) in
      subst (λ x. AllByRecursion (λ q. on (d ∷ ds) q ≡ true) (reads x)) is
      (all_map (λ q. known 0 ds q ≡ true) (λ q. on (d ∷ ds) q ≡ true) (reads d)
      (λ q k. or_true (nat_eq q d) (sym (no_inputs ds q) ∙ k)) s.1)
  | inr other ↦
      all_map (λ q. on ds q ≡ true) (λ q. on (d ∷ ds) q ≡ true) (reads n) (λ q k. or_true (nat_eq q d) k)
      (reads_done reads ds n s.2 (subst (λ b. b || on ds n ≡ true) other e))
]

-- what holds of each model of an order holds of that at a place
pub in_order : (P : ℕ → Type 0) (order : List ℕ) (i d : ℕ) → i < length order
    → AllByRecursion P (reverse order) → P (get_or order i d)
in_order P order i d lt all = (subst (AllByRecursion P) (next_done order i d lt) (all_to P order (i + 1) all)).0
