-- The fault that is told of a list is one of the list, and comes before each of them.
use Rattle.std.proofs.Common.{◌≡◌, ℕ, zero, suc, ◌<◌, ◌≤◌, ◌||◌, ◌&&◌, Bool, true, false, cond, ◌⊎◌, inl, inr, List, []}
use Rattle.std.proofs.Common.{◌∷◌, ◌++◌, map, length, Option, Some, None, Contains, refl, sym, ap, ◌∙◌, subst, arith}
use Rattle.std.specs.Prelude.{nat_lt, nat_le, ◌==◌, slice_index_or}
use Rattle.std.specs.List.{flat_map}
use Rattle.std.proofs.lemmas.Bool.{ltb-true, leb-true, eqb-true}
use Rattle.std.proofs.lemmas.Bool.Decides.{leb_tells, eqb_tells}
use Rattle.std.proofs.lemmas.List.Elements.{Contains-append_left, Contains-append_right, Contains-append_cases}
use Rattle.blif_flat.specs.DesignFaults.{rank, IsToldBefore}
use Rattle.blif_flat.specs.Code.Joining.{at_line, is_before, least, least_of, where_so}
use Rattle.blif_flat.specs.declared.design.FlatKind.{FlatKind}
use Rattle.blif_flat.specs.declared.faults.order.Told.{Told}

-- ---- the order of faults

abbrev pub IsBefore : Told → Told → Type 0
IsBefore a b = IsToldBefore a.line a.kind b.line b.kind

before_from : (l m r s : ℕ) → nat_lt l m || (l == m && nat_le r s) ≡ true → (l < m) ⊎ ((l ≡ m) × (r ≤ s))
before_from l m r s e = by (nat_lt l m) (l == m) (nat_le r s) refl refl refl e
  where
    by : (a b c : Bool) → nat_lt l m ≡ a → (l == m) ≡ b → nat_le r s ≡ c → a || (b && c) ≡ true
        → (l < m) ⊎ ((l ≡ m) × (r ≤ s))
    by true b c p q t e = inl (ltb-true l m p)
    by false true true p q t e = inr (eqb-true l m q, leb-true r s t)
    by false true false p q t e = absurd (cc)
    by false false c p q t e = absurd (cc)

before_else : (l m r s : ℕ) → nat_lt l m || (l == m && nat_le r s) ≡ false → (m < l) ⊎ ((m ≡ l) × (s ≤ r))
before_else l m r s e = by (eqb_tells l m) (leb_tells r s) (leb_tells (suc l) m)
  where
    by : ((l == m) ≡ true) × (l ≡ m) ⊎ ((l == m) ≡ false) × (l ≡ m → ⊥) → (nat_le r s ≡ true) × (r ≤ s)
        ⊎ (nat_le r s ≡ false) × (s < r)
        → (nat_lt l m ≡ true) × (suc l ≤ m) ⊎ (nat_lt l m ≡ false) × (m < suc l) → (m < l) ⊎ ((m ≡ l) × (s ≤ r))
    by a b (inl c) = absurd (let f : nat_lt l m || (l == m && nat_le r s) ≡ true =
        ap (λ x. x || (l == m && nat_le r s)) c.0 in cc)
    by (inl a) (inl b) (inr c) =
        absurd (let f : nat_lt l m || (l == m && nat_le r s) ≡ true = rw (c.0, a.0, b.0) refl in cc)
    by (inl a) (inr b) (inr c) = inr (sym a.1, omega arith)
    by (inr a) b (inr c) = inl (omega (arith, a.1))

pub is_before_true : (a b : Told) → is_before a b ≡ true → IsBefore a b
is_before_true a b e = before_from a.line b.line (rank a.kind) (rank b.kind) e

pub is_before_false : (a b : Told) → is_before a b ≡ false → IsBefore b a
is_before_false a b e = before_else a.line b.line (rank a.kind) (rank b.kind) e

before_chain : (l m n r s t : ℕ) → (l < m) ⊎ ((l ≡ m) × (r ≤ s)) → (m < n) ⊎ ((m ≡ n) × (s ≤ t))
    → (l < n) ⊎ ((l ≡ n) × (r ≤ t))
before_chain l m n r s t (inl a) (inl b) = inl (omega arith)
before_chain l m n r s t (inl a) (inr b) = inl (omega arith)
before_chain l m n r s t (inr a) (inl b) = inl (omega arith)
before_chain l m n r s t (inr a) (inr b) = inr (omega arith, omega arith)

pub before_both : (a b c : Told) → IsBefore a b → IsBefore b c → IsBefore a c
before_both a b c p q = before_chain a.line b.line c.line (rank a.kind) (rank b.kind) (rank c.kind) p q

pub before_itself : (a : Told) → IsBefore a a
before_itself a = inr (refl, omega arith)

-- ---- the best of a list

-- a fault is the best of the one before and those of a list
pub record IsBest (best : Option Told) (list : List Told) (told : Told) : Type 0 where
  pub from : (best ≡ Some told) ⊎ Contains list told
  pub before_best : (other : Told) → best ≡ Some other → IsBefore told other
  pub before_each : (other : Told) → Contains list other → IsBefore told other

abbrev pub IsBestOf : Option Told → List Told → Option Told → Type 0
IsBestOf best list (Some told) = IsBest best list told
IsBestOf best list None = (best ≡ None) × (list ≡ [])

pub head_or : {X : Type 0} (x : X) (xs : List X) (y : X) → Contains (x ∷ xs) y → (x ≡ y) ⊎ Contains xs y
head_or {X} x xs y c = at c.0 c.1 c.2
  where
    at : (k : ℕ) → k < length (x ∷ xs) → slice_index_or (x ∷ xs) k y ≡ y → (x ≡ y) ⊎ Contains xs y
    at zero lt e = inl e
    at (suc k) lt e = inr (k, omega arith, e)

pub head_in : {X : Type 0} (x : X) (xs : List X) → Contains (x ∷ xs) x
head_in x xs = (0, omega arith, refl)

pub tail_in : {X : Type 0} (x : X) (xs : List X) (y : X) → Contains xs y → Contains (x ∷ xs) y
tail_in x xs y c = Contains-append_right (x ∷ []) xs y c

pub none_in : {X : Type 0} (y : X) → Contains [] y → ⊥
none_in y c = let h = c.1 in omega arith

-- the best of one more is one of the two, and before both
pub record IsLesser (best : Option Told) (told lesser : Told) : Type 0 where
  pub is : least best told ≡ Some lesser
  pub one : (best ≡ Some lesser) ⊎ (told ≡ lesser)
  pub before_best : (other : Told) → best ≡ Some other → IsBefore lesser other
  pub before_told : IsBefore lesser told

pub lesser : (best : Option Told) (told : Told) → (x : Told) × IsLesser best told x
lesser None told = (
  told,
  record {
    is = refl;
    one = inr refl;
    before_best = λ other e. absurd (cc);
    before_told = before_itself told;
  },
)
lesser (Some best) told = by (is_before best told) refl
  where
    by : (b : Bool) → is_before best told ≡ b → (x : Told) × IsLesser (Some best) told x
    by true e = (
      best,
      record {
        is = ap (λ c. Some (cond c best told)) e;
        one = inl refl;
        before_best = λ other f. let g : best ≡ other = cc in subst (IsBefore best) g (before_itself best);
        before_told = is_before_true best told e;
      },
    )
    by false e = (
      told,
      record {
        is = ap (λ c. Some (cond c best told)) e;
        one = inr refl;
        before_best = λ other f. let g : best ≡ other = cc in subst (IsBefore told) g (is_before_false best told e);
        before_told = before_itself told;
      },
    )

best_more : (best : Option Told) (told : Told) (list : List Told) (x : Told) → IsLesser best told x → (r : Option Told)
    → IsBestOf (Some x) list r → IsBestOf best (told ∷ list) r
best_more best told list x l None h = absurd (let e = h.0 in cc)
best_more best told list x l (Some r) h = record {
  from = by h.from l.one;
  before_best = λ other e. before_both r x other (h.before_best x refl) (l.before_best other e);
  before_each = λ other c. each other (head_or told list other c);
}
  where
    here : Some x ≡ Some r → (best ≡ Some x) ⊎ (told ≡ x) → (best ≡ Some r) ⊎ Contains (told ∷ list) r
    here e (inl p) = inl (p ∙ e)
    here e (inr q) = let f : x ≡ r = cc in inr (subst (Contains (told ∷ list)) (q ∙ f) (head_in told list))

    by : (Some x ≡ Some r) ⊎ Contains list r → (best ≡ Some x) ⊎ (told ≡ x) → (best ≡ Some r) ⊎ Contains (told ∷ list) r
    by (inl e) o = here e o
    by (inr c) o = inr (tail_in told list r c)

    each : (other : Told) → (told ≡ other) ⊎ Contains list other → IsBefore r other
    each other (inl e) = subst (IsBefore r) e (before_both r x told (h.before_best x refl) l.before_told)
    each other (inr c) = h.before_each other c

best_none : (best : Option Told) → IsBestOf best [] best
best_none None = (refl, refl)
best_none (Some b) = record {
  from = inl refl;
  before_best = λ other e. let g : b ≡ other = cc in subst (IsBefore b) g (before_itself b);
  before_each = λ other c. absurd (none_in other c);
}

pub best_of_list : (best : Option Told) (list : List Told) → IsBestOf best list (least_of best list)
best_of_list best [] = best_none best
best_of_list best (told ∷ list) =
    let l = lesser best told in
    best_more best told list l.0 l.1 (least_of (least best told) list)
    (subst (λ o. IsBestOf (Some l.0) list (least_of o list)) (sym l.1.is) (best_of_list (Some l.0) list))

pub least_append : (best : Option Told) (xs ys : List Told) → least_of best (xs ++ ys) ≡ least_of (least_of best xs) ys
least_append best [] ys = refl
least_append best (x ∷ xs) ys = least_append (least best x) xs ys

-- ---- elements of lists

pub in_where : (b : Bool) (line : ℕ) (kind : FlatKind) (told : Told) → Contains (where_so b line kind) told → (b ≡ true)
    × (at_line line kind ≡ told)
in_where true line kind told c = by (head_or (at_line line kind) [] told c)
  where
    by : (at_line line kind ≡ told) ⊎ Contains [] told → (true ≡ true) × (at_line line kind ≡ told)
    by (inl e) = (refl, e)
    by (inr d) = absurd (none_in told d)
in_where false line kind told c = absurd (none_in told c)

pub where_in : (b : Bool) (line : ℕ) (kind : FlatKind) → b ≡ true → Contains (where_so b line kind) (at_line line kind)
where_in b line kind e = subst (λ x. Contains (where_so x line kind) (at_line line kind)) (sym e)
    (head_in (at_line line kind) [])

pub record FromOne {X Y : Type 0} (f : X → List Y) (xs : List X) (y : Y) : Type 0 where
  pub one : X
  pub among : Contains xs one
  pub there : Contains (f one) y

pub in_flat : {X Y : Type 0} (f : X → List Y) (xs : List X) (y : Y) → Contains (flat_map f xs) y → FromOne f xs y
in_flat {X} {Y} f [] y c = absurd (none_in y c)
in_flat {X} {Y} f (x ∷ xs) y c = by (λ d. in_flat f xs y d) (Contains-append_cases (f x) (flat_map f xs) y c)
  where
    by : (Contains (flat_map f xs) y → FromOne f xs y) → Contains (f x) y
        ⊎ Contains (flat_map f xs) y → FromOne f (x ∷ xs) y
    by more (inl d) = record { one = x; among = head_in x xs; there = d }
    by more (inr d) = let r = more d in record { one = r.one; among = tail_in x xs r.one r.among; there = r.there }

pub flat_in : {X Y : Type 0} (f : X → List Y) (xs : List X) (x : X) (y : Y) → Contains xs x → Contains (f x) y
    → Contains (flat_map f xs) y
flat_in {X} {Y} f [] x y c d = absurd (none_in x c)
flat_in {X} {Y} f (z ∷ xs) x y c d = by (λ e. flat_in f xs x y e d) (head_or z xs x c)
  where
    by : (Contains xs x → Contains (flat_map f xs) y) → (z ≡ x) ⊎ Contains xs x → Contains (flat_map f (z ∷ xs)) y
    by more (inl e) = Contains-append_left (f z) (flat_map f xs) y (subst (λ w. Contains (f w) y) (sym e) d)
    by more (inr e) = Contains-append_right (f z) (flat_map f xs) y (more e)

pub in_map : {X Y : Type 0} (f : X → Y) (xs : List X) (x : X) → Contains xs x → Contains (map f xs) (f x)
in_map f [] x c = absurd (none_in x c)
in_map {X} {Y} f (z ∷ xs) x c = by (λ d. in_map f xs x d) (head_or z xs x c)
  where
    by : (Contains xs x → Contains (map f xs) (f x)) → (z ≡ x) ⊎ Contains xs x → Contains (map f (z ∷ xs)) (f x)
    by more (inl e) = subst (λ w. Contains (map f (z ∷ xs)) (f w)) e (head_in (f z) (map f xs))
    by more (inr d) = tail_in (f z) (map f xs) (f x) (more d)

pub record FromMap {X Y : Type 0} (f : X → Y) (xs : List X) (y : Y) : Type 0 where
  pub one : X
  pub among : Contains xs one
  pub is : f one ≡ y

pub from_map : {X Y : Type 0} (f : X → Y) (xs : List X) (y : Y) → Contains (map f xs) y → FromMap f xs y
from_map f [] y c = absurd (none_in y c)
from_map {X} {Y} f (z ∷ xs) y c = by (λ d. from_map f xs y d) (head_or (f z) (map f xs) y c)
  where
    by : (Contains (map f xs) y → FromMap f xs y) → (f z ≡ y) ⊎ Contains (map f xs) y → FromMap f (z ∷ xs) y
    by more (inl e) = record { one = z; among = head_in z xs; is = e }
    by more (inr d) = let r = more d in record { one = r.one; among = tail_in z xs r.one r.among; is = r.is }
