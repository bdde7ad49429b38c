-- Uses of signals: who names one, and how often before.
use Rattle.std.proofs.Common.{◌≡◌, ℕ, zero, suc, ◌+◌, ◌-◌, ◌<◌, ◌≤◌, Bool, true, false, cond, List, [], ◌∷◌, ◌++◌}
use Rattle.std.proofs.Common.{length, take, Some, refl, ap, sym, ◌∙◌, arith, inl, inr}
use Rattle.std.specs.Prelude.{slice_get, nat_eq}
use Rattle.std.specs.List.{count_by}
use Rattle.std.proofs.lemmas.Bool.{cases_eq, cond-true, cond-false, eqb-true, eq-eqb}
use Rattle.std.proofs.lemmas.Option.{none-some, same_Some, slice_get_within}
use Rattle.std.proofs.lemmas.List.{take_all}
use Rattle.std.proofs.lemmas.List.Sums.{sum_by-append, sum_by-cons}
use Rattle.blif_read.specs.declared.netlist.Def.{Def}
use Rattle.cell_netlist.specs.Uses.{named}

pub count_append : (s : ℕ) (xs ys : List ℕ)
    → count_by (nat_eq s) (xs ++ ys) ≡ count_by (nat_eq s) xs + count_by (nat_eq s) ys
count_append s xs ys = sum_by-append (λ (n : ℕ). cond (nat_eq s n) 1 0) xs ys

pub count_first : (s x : ℕ) (xs : List ℕ)
    → count_by (nat_eq s) (x ∷ xs) ≡ cond (nat_eq s x) 1 0 + count_by (nat_eq s) xs
count_first s x xs = sum_by-cons (λ (n : ℕ). cond (nat_eq s n) 1 0) x xs

-- what stands in a list is counted
pub count_some : (s i : ℕ) (xs : List ℕ) → slice_get xs i ≡ Some s → 0 < count_by (nat_eq s) xs
count_some s i [] at = absurd (none-some s at)
count_some s zero (x ∷ xs) at =
    let first = count_first s x xs in
    let one = cond-true {A = ℕ} (nat_eq s x) 1 0 (eq-eqb s x (sym (same_Some x s at))) in
    omega (arith, first, one)
count_some s (suc i) (x ∷ xs) at =
    let first = count_first s x xs in let rest = count_some s i xs at in omega (arith, first, rest)

-- what is counted stands there
pub count_place : (s : ℕ) (xs : List ℕ) → 0 < count_by (nat_eq s) xs → (i : ℕ) × (slice_get xs i ≡ Some s)
count_place s [] some = absurd (omega (arith, some))
count_place s (x ∷ xs) some = by (nat_eq s x) refl (count_place s xs)
  where
    by : (b : Bool) → nat_eq s x ≡ b → (0 < count_by (nat_eq s) xs → (i : ℕ) × (slice_get xs i ≡ Some s))
        → (i : ℕ) × (slice_get (x ∷ xs) i ≡ Some s)
    by true e rest = (0, ap (λ (n : ℕ). Some n) (sym (eqb-true s x e)))
    by false e rest =
        let first = count_first s x xs in
        let none = cond-false {A = ℕ} (nat_eq s x) 1 0 e in
        let place = rest (omega (arith, some, first, none)) in
        (suc place.0, place.1)

-- a definition names a signal at some place of its own
pub record Use (defs : List Def) (s : ℕ) : Type 0 where
  pub j : ℕ
  pub i : ℕ
  pub def : Def
  pub here : slice_get defs j ≡ Some def
  pub at : slice_get def.inputs i ≡ Some s

pub use_of : (defs : List Def) (s : ℕ) → 0 < count_by (nat_eq s) (named defs) → Use defs s
use_of [] s some = absurd (omega (arith, some))
use_of (x ∷ defs) s some = elim (cases_eq (count_by (nat_eq s) x.inputs) 0) [
  | inl e ↦
      let all = count_append s x.inputs (named defs) in
      let rest = use_of defs s (omega (arith, some, all, e)) in
      record { j = suc rest.j; i = rest.i; def = rest.def; here = rest.here; at = rest.at }
  | inr ne ↦
      let place = count_place s x.inputs (omega (arith, ne)) in
      record { j = 0; i = place.0; def = x; here = refl; at = place.1 }
]

pub before_more : (defs : List Def) (s j i m : ℕ) (def : Def) → slice_get defs j ≡ Some def
    → slice_get def.inputs i ≡ Some s → j < m
    → suc (count_by (nat_eq s) (named (take j defs))) ≤ count_by (nat_eq s) (named (take m defs))
before_more [] s j i m def here at lt = absurd (none-some def here)
before_more (x ∷ defs) s zero i zero def here at lt = absurd (omega (arith, lt))
before_more (x ∷ defs) s zero i (suc m) def here at lt =
    let a = count_append s x.inputs (named (take m defs)) in
    let some = count_some s i x.inputs (ap (λ (d : Def). slice_get d.inputs i) (same_Some x def here) ∙ at) in
    omega (arith, a, some)
before_more (x ∷ defs) s (suc j) i zero def here at lt = absurd (omega (arith, lt))
before_more (x ∷ defs) s (suc j) i (suc m) def here at lt =
    let a = count_append s x.inputs (named (take j defs)) in
    let b = count_append s x.inputs (named (take m defs)) in
    let rest = before_more defs s j i m def here at (omega (arith, lt)) in
    omega (arith, a, b, rest)

-- so there are fewer before it than in all
pub before_all : (defs : List Def) (s j i : ℕ) (def : Def) → slice_get defs j ≡ Some def
    → slice_get def.inputs i ≡ Some s
    → suc (count_by (nat_eq s) (named (take j defs))) ≤ count_by (nat_eq s) (named defs)
before_all defs s j i def here at =
    let all = ap (λ (ds : List Def). count_by (nat_eq s) (named ds)) (take_all (length defs) defs (omega arith)) in
    let more = before_more defs s j i (length defs) def here at (slice_get_within defs j def here) in
    omega (arith, all, more)

-- a signal with one use has one user
pub one_user : (defs : List Def) (s : ℕ) → count_by (nat_eq s) (named defs) ≡ 1 → (a b : Use defs s) → a.j ≡ b.j
one_user defs s one a b = elim (cases_eq a.j b.j) [
  | inl e ↦ e
  | inr ne ↦
      let first = λ (p q : Use defs s) (lt : p.j < q.j).
      (let low = before_more defs s p.j p.i q.j p.def p.here p.at lt in
      let high = before_all defs s q.j q.i q.def q.here q.at in
      let none : ⊥ = omega (arith, low, high, one) in none) in
      elim (cases_eq (suc a.j - b.j) 0) [
        | inl lt ↦ absurd (first a b (omega (arith, lt)))
        | inr gt ↦ absurd (first b a (omega (arith, gt, ne)))
      ]
]
