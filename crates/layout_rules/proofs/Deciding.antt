-- Facts that are decided: each of them holds, or is refuted.
use Rattle.std.proofs.Common.{◌≡◌, ℕ, zero, suc, ◌<◌, ◌≤◌, ◌⊎◌, Bool, true, false, List, length, Option, Some, None}
use Rattle.std.proofs.Common.{refl, sym, subst, ◌∙◌, arith, inl, inr, slice_get, eqb, ltb, leb}
use Rattle.std.proofs.lemmas.Bool.{cases_eq, cases_lt, eqb-true, eqb-false, ltb-true, ltb-false, leb-true, leb-false}
use Rattle.std.proofs.lemmas.Option.{same_Some, slice_get_within}

-- a fact is decided where another one is that says the same
abbrev pub dec_same : {P Q : Type 0} → (P → Q) → (Q → P) → Dec P → Dec Q
dec_same there back (yes p) = yes (there p)
dec_same there back (no none) = no (λ q. none (back q))

-- the second is tried only where the first holds, since arguments are computed before they are asked for
abbrev pub dec_and : {P Q : Type 0} → Dec P → (P → Dec Q) → Dec (P × Q)
dec_and (yes p) other = elim (other p) [ yes q ↦ yes (p, q) | no none ↦ no (λ h. none h.1) ]
dec_and (no none) other = no (λ h. none h.0)

abbrev pub dec_both : {P Q : Type 0} → Dec P → Dec Q → Dec (P × Q)
dec_both p q = dec_and p (λ h. q)

abbrev pub dec_either : {P Q : Type 0} → Dec P → Dec Q → Dec (P ⊎ Q)
dec_either (yes p) q = yes (inl p)
dec_either (no none) (yes q) = yes (inr q)
dec_either (no none) (no neither) = no (λ h. elim h [ inl p ↦ none p | inr q ↦ neither q ])

abbrev pub dec_if : {P Q : Type 0} → Dec P → (P → Dec Q) → Dec (P → Q)
dec_if (yes p) other = elim (other p) [ yes q ↦ yes (λ h. q) | no none ↦ no (λ f. none (f p)) ]
dec_if (no not_so) other = yes (λ p. absurd (not_so p))

abbrev pub dec_then : {P Q : Type 0} → Dec P → Dec Q → Dec (P → Q)
dec_then p q = dec_if p (λ h. q)

abbrev pub dec_not : {P : Type 0} → Dec P → Dec (P → ⊥)
dec_not (yes p) = no (λ f. f p)
dec_not (no none) = yes none

abbrev pub dec_true : (b : Bool) → Dec (b ≡ true)
dec_true true = yes refl
dec_true false = no (λ e. absurd cc)

abbrev pub dec_false : (b : Bool) → Dec (b ≡ false)
dec_false false = yes refl
dec_false true = no (λ e. absurd cc)

abbrev pub dec_by : {P : Type 0} (b : Bool) → (b ≡ true → P) → (b ≡ false → P → ⊥) → Dec P
dec_by true there none = yes (there refl)
dec_by false there none = no (none refl)

abbrev pub side_by : (a b : ℕ) (t : Bool) → ltb a b ≡ t → (a < b) ⊎ (b ≤ a)
side_by a b true e = inl (ltb-true a b e)
side_by a b false e = inr (ltb-false a b e)

abbrev pub side : (a b : ℕ) → (a < b) ⊎ (b ≤ a)
side a b = side_by a b (ltb a b) refl

abbrev pub dec_equal : (a b : ℕ) → Dec (a ≡ b)
dec_equal a b = dec_by (eqb a b) (eqb-true a b) (eqb-false a b)

abbrev pub dec_below : (a b : ℕ) → Dec (a < b)
dec_below a b = dec_by (ltb a b) (ltb-true a b) (λ e lt. let le : b ≤ a = ltb-false a b e in omega arith)

abbrev pub dec_up_to : (a b : ℕ) → Dec (a ≤ b)
dec_up_to a b = dec_by (leb a b) (leb-true a b) (λ e le. let lt : b < a = leb-false a b e in omega arith)

-- what cannot but hold does, where it is decided
pub affirmed : {P : Type 0} → Dec P → ((P → ⊥) → ⊥) → P
affirmed (yes p) none = p
affirmed (no not_so) none = absurd (none not_so)

-- and so equal numbers need not be told apart
pub settled : (a b : ℕ) → ((a ≡ b → ⊥) → ⊥) → a ≡ b
settled a b none = affirmed (dec_equal a b) none

-- ---- numbers below a bound

pub record Least (P : ℕ → Type 0) : Type 0 where
  pub number : ℕ
  pub holds : P number
  pub none_below : (k : ℕ) → k < number → P k → ⊥

abbrev pub least_below : (P : ℕ → Type 0) → ((k : ℕ) → Dec (P k)) → (n : ℕ) → ((k : ℕ) → k < n → P k → ⊥) ⊎ Least P
least_below P decided zero = inl (λ k lt h. absurd (omega arith))
least_below P decided (suc n) =
    elim (least_below P decided n) [ inl none ↦ with_next none (decided n) | inr least ↦ inr least ]
  where
    with_next : ((k : ℕ) → k < n → P k → ⊥) → Dec (P n) → ((k : ℕ) → k < suc n → P k → ⊥) ⊎ Least P
    with_next none (yes h) = inr (record { number = n; holds = h; none_below = none })
    with_next none (no not_so) = inl (λ k lt h. elim (cases_eq k n) [
      | inl e ↦ not_so (subst P e h)
      | inr ne ↦ none k (omega arith) h
    ])

-- of decided facts about numbers below a bound none holds, or a first one does
abbrev pub none_or_least : (P : ℕ → Type 0) (n : ℕ) → ((k : ℕ) → Dec (P k)) → ((k : ℕ) → P k → k < n)
    → ((k : ℕ) → P k → ⊥) ⊎ Least P
none_or_least P n decided within = elim (least_below P decided n) [
  | inl none ↦ inl (λ k h. none k (within k h) h)
  | inr least ↦ inr least
]

abbrev pub dec_some : (P : ℕ → Type 0) (n : ℕ) → ((k : ℕ) → Dec (P k)) → ((k : ℕ) → P k → k < n) → Dec ((k : ℕ) × P k)
dec_some P n decided within = elim (none_or_least P n decided within) [
  | inl none ↦ no (λ h. none h.0 h.1)
  | inr least ↦ yes (least.number, least.holds)
]

abbrev pub dec_all : (P : ℕ → Type 0) (n : ℕ) → ((k : ℕ) → Dec (P k)) → ((k : ℕ) → n ≤ k → P k) → Dec ((k : ℕ) → P k)
dec_all P n decided past = elim (least_below (λ k. P k → ⊥) (λ k. dec_not (decided k)) n) [
  | inl none ↦ yes (λ k. elim (cases_lt k n) [ inl lt ↦ affirmed (decided k) (none k lt) | inr le ↦ past k le ])
  | inr least ↦ no (λ all. least.holds (all least.number))
]

-- all numbers of which one thing holds, and they are below the bound, have the other
abbrev pub dec_all_those : (P Q : ℕ → Type 0) (n : ℕ) → ((k : ℕ) → Dec (P k)) → ((k : ℕ) → P k → k < n)
    → ((k : ℕ) → Dec (Q k)) → Dec ((k : ℕ) → P k → Q k)
dec_all_those P Q n decided within also = dec_all (λ k. P k → Q k) n (λ k. dec_then (decided k) (also k))
    (λ k le h. let lt : k < n = within k h in absurd (omega arith))

-- one number alone
pub record Only (P : ℕ → Type 0) : Type 0 where
  pub number : ℕ
  pub holds : P number
  pub only : (k : ℕ) → P k → k ≡ number

abbrev pub dec_only : (P : ℕ → Type 0) (n : ℕ) → ((k : ℕ) → Dec (P k)) → ((k : ℕ) → P k → k < n) → Dec (Only P)
dec_only P n decided within = elim (none_or_least P n decided within) [
  | inl none ↦ no (λ h. none h.number h.holds)
  | inr least ↦ dec_same (λ only. record { number = least.number; holds = least.holds; only = only })
      (λ h k p. h.only k p ∙ sym (h.only least.number least.holds))
      (dec_all_those P (λ k. k ≡ least.number) n decided within (λ k. dec_equal k least.number))
]

-- ---- items of a list

module _ {X : Type 0} (xs : List X) where
  -- a fact about the item at a place, if there is one
  abbrev pub dec_item : (n : ℕ) (Q : X → Type 0) → ((x : X) → slice_get xs n ≡ Some x → Dec (Q x))
      → Dec ((x : X) × (slice_get xs n ≡ Some x) × Q x)
  dec_item n Q decided = by_item (slice_get xs n) refl
    where
      by_item : (o : Option X) → slice_get xs n ≡ o → Dec ((x : X) × (slice_get xs n ≡ Some x) × Q x)
      by_item None e = no (λ h. let some = h.1 in absurd cc)
      by_item (Some x) e = dec_same (λ q. (x, e, q)) (λ h. subst Q (same_Some h.0 x (sym h.1 ∙ e)) h.2) (decided x e)

  -- a decided fact that names the item at a place, and another one about that item
  abbrev pub dec_about : (R : Type 0) (n : ℕ) (item : R → X) → ((r : R) → slice_get xs n ≡ Some (item r)) → Dec R
      → (Q : X → Type 0) → ((x : X) → Dec (Q x)) → Dec ((r : R) × Q (item r))
  dec_about R n item item_is (yes r) Q decided = dec_same (λ q. (r, q))
      (λ h. subst Q (same_Some (item h.0) (item r) (sym (item_is h.0) ∙ item_is r)) h.1) (decided (item r))
  dec_about R n item item_is (no none) Q decided = no (λ h. none h.0)

  abbrev pub dec_each_item : (n : ℕ) (Q : X → Type 0) → ((x : X) → slice_get xs n ≡ Some x → Dec (Q x))
      → Dec ((x : X) → slice_get xs n ≡ Some x → Q x)
  dec_each_item n Q decided = by_item (slice_get xs n) refl
    where
      by_item : (o : Option X) → slice_get xs n ≡ o → Dec ((x : X) → slice_get xs n ≡ Some x → Q x)
      by_item None e = yes (λ x some. absurd cc)
      by_item (Some x) e = dec_same (λ q y is. subst Q (same_Some x y (sym e ∙ is)) q) (λ f. f x e) (decided x e)

  -- a fact about some item and its place
  abbrev pub dec_some_item : (Q : ℕ → X → Type 0) → ((k : ℕ) (x : X) → slice_get xs k ≡ Some x → Dec (Q k x))
      → Dec ((k : ℕ) × ((x : X) × (slice_get xs k ≡ Some x) × Q k x))
  dec_some_item Q decided = dec_some (λ k. (x : X) × (slice_get xs k ≡ Some x) × Q k x) (length xs)
      (λ k. dec_item k (Q k) (decided k)) (λ k h. slice_get_within xs k h.0 h.1)

  abbrev pub dec_all_items : (Q : ℕ → X → Type 0) → ((k : ℕ) (x : X) → slice_get xs k ≡ Some x → Dec (Q k x))
      → Dec ((k : ℕ) (x : X) → slice_get xs k ≡ Some x → Q k x)
  dec_all_items Q decided = dec_all (λ k. (x : X) → slice_get xs k ≡ Some x → Q k x) (length xs)
      (λ k. dec_each_item k (Q k) (decided k))
      (λ k le x is. let lt = slice_get_within xs k x is in absurd (omega arith))
