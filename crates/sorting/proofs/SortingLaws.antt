-- Laws of sorting: what a list in the order of a key keeps, and that a stable sort gives it.
use Rattle.std.specs.Prelude.{◌≡◌, ℕ, ◌+◌, ◌<◌, ◌≤◌, Bool, true, false, cond, not, ◌&&◌, List, [], ◌∷◌, length}
use Rattle.std.proofs.Common.{zero, suc, refl, sym, ap, ◌∙◌, subst, inl, inr, arith, ltb, leb, eqb, get_or}
use Rattle.std.proofs.lemmas.List.Elements.{All-from_recursion, filter_agree}
use Rattle.std.proofs.lemmas.Bool.{cases_lt, cases_eq, cases_order, lt-ltb, le-ltb, le-leb, lt-leb, eq-eqb, ne_eqb}
use Rattle.std.specs.List.{filter, AllByRecursion}
use Rattle.std.specs.List.Sorted.{IsPermutation, IsSortedByKey, IsStableByKey, ties}
use Rattle.std.specs.Ordering.{nat_cmp, is_lt}
use Rattle.std.proofs.lemmas.List.Sorted.{IsNonDecreasingBy-from_sort}
use Rattle.std.proofs.lemmas.List.Sorted.{IsPermutation-refl, IsPermutation-trans, IsPermutation-cons}
use Rattle.std.proofs.lemmas.List.Sorted.{IsPermutation-middle}
use Rattle.sorting.specs.Sorting.{put_by, by_key, NotFalling, Rising, EachPair, passing, of_key}

-- a list in order begins wherever its first key allows
pub not_falling_from : {X : Type 0} (key : X → ℕ) (a b : ℕ) (xs : List X) → NotFalling key b xs
    → a ≤ b → NotFalling key a xs
not_falling_from key a b [] up le = tt
not_falling_from key a b (x ∷ xs) up le = (omega (arith, up.0), up.1)

put_in_order : {X : Type 0} (key : X → ℕ) (b : ℕ) (x : X) (ys : List X) → b ≤ key x → NotFalling key b ys
    → NotFalling key b (put_by key x ys)
put_in_order key b x [] le up = (le, tt)
put_in_order key b x (y ∷ ys) le up = elim (cases_lt (key y) (key x)) [
  | inl below ↦ let k : leb (key x) (key y) ≡ false = lt-leb (key x) (key y) below in
      rw k (up.0, put_in_order key (key y) x ys (omega arith) up.1)
  | inr above ↦ let k : leb (key x) (key y) ≡ true = le-leb (key x) (key y) above in
      rw k (le, (above, up.1))
]

pub by_key_in_order : {X : Type 0} (key : X → ℕ) (xs : List X) → NotFalling key 0 (by_key key xs)
by_key_in_order key [] = tt
by_key_in_order key (x ∷ xs) = put_in_order key 0 x (by_key key xs) (omega arith) (by_key_in_order key xs)

-- what holds of each element still does
put_all : {X : Type 0} (P : X → Type 0) (key : X → ℕ) (x : X) (ys : List X) → P x → AllByRecursion P ys
    → AllByRecursion P (put_by key x ys)
put_all P key x [] one all = (one, all)
put_all P key x (y ∷ ys) one all = elim (cases_lt (key y) (key x)) [
  | inl below ↦ let k : leb (key x) (key y) ≡ false = lt-leb (key x) (key y) below in
      rw k (all.0, put_all P key x ys one all.1)
  | inr above ↦ let k : leb (key x) (key y) ≡ true = le-leb (key x) (key y) above in
      rw k (one, all)
]

pub by_key_all : {X : Type 0} (P : X → Type 0) (key : X → ℕ) (xs : List X) → AllByRecursion P xs
    → AllByRecursion P (by_key key xs)
by_key_all P key [] all = all
by_key_all P key (x ∷ xs) all = put_all P key x (by_key key xs) all.0 (by_key_all P key xs all.1)

-- and what holds of each two
put_pairs : {X : Type 0} (R : X → X → Type 0) → ((x y : X) → R x y → R y x) → (key : X → ℕ) (x : X) (ys : List X)
    → AllByRecursion (R x) ys → EachPair R ys → EachPair R (put_by key x ys)
put_pairs R turn key x [] one all = (one, all)
put_pairs R turn key x (y ∷ ys) one all = elim (cases_lt (key y) (key x)) [
  | inl below ↦ let k : leb (key x) (key y) ≡ false = lt-leb (key x) (key y) below in
      rw k (put_all (R y) key x ys (turn x y one.0) all.0, put_pairs R turn key x ys one.1 all.1)
  | inr above ↦ let k : leb (key x) (key y) ≡ true = le-leb (key x) (key y) above in
      rw k (one, all)
]

pub by_key_pairs : {X : Type 0} (R : X → X → Type 0) → ((x y : X) → R x y → R y x) → (key : X → ℕ) (xs : List X)
    → EachPair R xs → EachPair R (by_key key xs)
by_key_pairs R turn key [] all = all
by_key_pairs R turn key (x ∷ xs) all = put_pairs R turn key x (by_key key xs) (by_key_all (R x) key xs all.0)
    (by_key_pairs R turn key xs all.1)

pub passing-cons : {X : Type 0} (p : X → Bool) (x : X) (xs : List X)
    → passing p (x ∷ xs) ≡ cond (p x) 1 0 + passing p xs
passing-cons p x xs = go (p x) refl
  where
    go : (b : Bool) → p x ≡ b → passing p (x ∷ xs) ≡ cond b 1 0 + passing p xs
    go true q = rw q (omega arith)
    go false q = rw q (omega arith)

pub passing-yes : {X : Type 0} (p : X → Bool) (x : X) (xs : List X) → p x ≡ true
    → passing p (x ∷ xs) ≡ suc (passing p xs)
passing-yes p x xs q = rw q refl

pub passing-no : {X : Type 0} (p : X → Bool) (x : X) (xs : List X) → p x ≡ false → passing p (x ∷ xs) ≡ passing p xs
passing-no p x xs q = rw q refl

put_passing : {X : Type 0} (p : X → Bool) (key : X → ℕ) (x : X) (ys : List X)
    → passing p (put_by key x ys) ≡ passing p (x ∷ ys)
put_passing p key x [] = refl
put_passing p key x (y ∷ ys) = elim (cases_lt (key y) (key x)) [
  | inl below ↦ let k : leb (key x) (key y) ≡ false = lt-leb (key x) (key y) below in
      let h : passing p (y ∷ put_by key x ys) ≡ passing p (x ∷ (y ∷ ys)) =
      omega (
        arith,
        passing-cons p y (put_by key x ys),
        passing-cons p x
            (y ∷ ys),
        passing-cons p y ys,
        passing-cons p x ys,
        put_passing p key x ys,
      ) in
      rw k h
  | inr above ↦ let k : leb (key x) (key y) ≡ true = le-leb (key x) (key y) above in rw k refl
]

pub by_key_passing : {X : Type 0} (p : X → Bool) (key : X → ℕ) (xs : List X) → passing p (by_key key xs) ≡ passing p xs
by_key_passing p key [] = refl
by_key_passing p key (x ∷ xs) = put_passing p key x (by_key key xs)
    ∙ omega (arith, passing-cons p x (by_key key xs), passing-cons p x xs, by_key_passing p key xs)

put_length : {X : Type 0} (key : X → ℕ) (x : X) (ys : List X) → length (put_by key x ys) ≡ length ys + 1
put_length key x [] = refl
put_length key x (y ∷ ys) = elim (cases_lt (key y) (key x)) [
  | inl below ↦ let k : leb (key x) (key y) ≡ false = lt-leb (key x) (key y) below in rw k
      (omega (arith, put_length key x ys))
  | inr above ↦ let k : leb (key x) (key y) ≡ true = le-leb (key x) (key y) above in rw k (omega arith)
]

pub by_key_length : {X : Type 0} (key : X → ℕ) (xs : List X) → length (by_key key xs) ≡ length xs
by_key_length key [] = refl
by_key_length key (x ∷ xs) = omega (arith, put_length key x (by_key key xs), by_key_length key xs)

-- distinct keys in order rise
above_all : {X : Type 0} (key : X → ℕ) (b c : ℕ) (ys : List X) → b ≤ c → NotFalling key c ys
    → AllByRecursion (λ y. b ≡ key y → ⊥) ys → NotFalling key (b + 1) ys
above_all key b c [] le up apart = tt
above_all key b c (y ∷ ys) le up apart =
    (elim (cases_lt b (key y)) [ inl lt ↦ omega arith | inr ge ↦ absurd (apart.0 (omega (arith, up.0))) ], up.1)

pub rising_from : {X : Type 0} (key : X → ℕ) (b : ℕ) (xs : List X) → NotFalling key b xs
    → EachPair (λ x y. key x ≡ key y → ⊥) xs → Rising key b xs
rising_from key b [] up apart = tt
rising_from key b (x ∷ xs) up apart =
    (up.0, rising_from key (key x + 1) xs (above_all key (key x) (key x) xs (omega arith) up.1 apart.0) apart.1)

-- the order among those of one key is kept
put_same_key : {X : Type 0} (key : X → ℕ) (n : ℕ) (x : X) (ys : List X)
    → of_key key n (put_by key x ys) ≡ of_key key n (x ∷ ys)
put_same_key key n x [] = refl
put_same_key {X} key n x (y ∷ ys) = elim (cases_lt (key y) (key x)) [
  | inr above ↦ let k : leb (key x) (key y) ≡ true = le-leb (key x) (key y) above in rw k refl
  | inl below ↦
      let k : leb (key x) (key y) ≡ false = lt-leb (key x) (key y) below in
      let rest : of_key key n (put_by key x ys) ≡ of_key key n (x ∷ ys) = put_same_key key n x ys in
      elim (cases_eq n (key y)) [
        | inl e ↦
            let t : eqb n (key y) ≡ true = eq-eqb n (key y) e in
            let f : eqb n (key x) ≡ false = ne_eqb n (key x) (λ q. absurd (omega (arith, q, e, below))) in
            let r = rw f at rest in
            rw (k, t, f) (ap (λ (l : List X). y ∷ l) r)
        | inr ne ↦
            let t : eqb n (key y) ≡ false = ne_eqb n (key y) ne in
            rw (k, t) rest
      ]
]

pub by_key_same_key : {X : Type 0} (key : X → ℕ) (n : ℕ) (xs : List X) → of_key key n (by_key key xs) ≡ of_key key n xs
by_key_same_key key n [] = refl
by_key_same_key {X} key n (x ∷ xs) = put_same_key key n x (by_key key xs)
    ∙ go (eqb n (key x)) refl (by_key_same_key key n xs)
  where
    go : (b : Bool) → eqb n (key x) ≡ b → of_key key n (by_key key xs) ≡ of_key key n xs
        → of_key key n (x ∷ by_key key xs) ≡ of_key key n (x ∷ xs)
    go true q r = rw q (ap (λ (l : List X). x ∷ l) r)
    go false q r = rw q r

-- two lists in order that have the same elements of each key, in one order, are equal
none_of_key : {X : Type 0} (key : X → ℕ) (n b : ℕ) (xs : List X) → NotFalling key b xs → n < b → of_key key n xs ≡ []
none_of_key key n b [] up lt = refl
none_of_key key n b (x ∷ xs) up lt =
    let f : eqb n (key x) ≡ false = ne_eqb n (key x) (λ q. absurd (omega (arith, q, up.0, lt))) in
    rw f (none_of_key key n (key x) xs up.1 (omega (arith, up.0)))

head_of_key : {X : Type 0} (key : X → ℕ) (x : X) (xs : List X) → of_key key (key x) (x ∷ xs) ≡ x ∷ of_key key (key x) xs
head_of_key key x xs = let t : eqb (key x) (key x) ≡ true = eq-eqb (key x) (key x) refl in rw t refl

pub same_in_order : {X : Type 0} (key : X → ℕ) (b c : ℕ) (xs ys : List X) → NotFalling key b xs → NotFalling key c ys
    → ((z : X) → of_key key (key z) xs ≡ of_key key (key z) ys) → xs ≡ ys
same_in_order key b c [] [] up up' same = refl
same_in_order key b c [] (y ∷ ys) up up' same = absurd (let h : [] ≡ y ∷ of_key key (key y) ys = same y
    ∙ head_of_key key y ys in cc)
same_in_order key b c (x ∷ xs) [] up up' same = absurd (let h : [] ≡ x ∷ of_key key (key x) xs = sym (same x)
    ∙ head_of_key key x xs in cc)
same_in_order {X} key b c (x ∷ xs) (y ∷ ys) up up' same =
    elim (cases_lt (key x) (key y)) [
      | inl lt ↦ absurd (let h : x ∷ of_key key (key x) xs ≡ [] = sym (head_of_key key x xs) ∙ same x
          ∙ none_of_key key (key x) (key y) (y ∷ ys) (omega arith, up'.1) lt in cc)
      | inr ge ↦ elim (cases_lt (key y) (key x)) [
        | inl lt ↦ absurd (let h : y ∷ of_key key (key y) ys ≡ [] = sym (head_of_key key y ys) ∙ sym (same y)
            ∙ none_of_key key (key y) (key x) (x ∷ xs) (omega arith, up.1) lt in cc)
        | inr le ↦
            let e : key y ≡ key x = omega arith in
            let h : x ∷ of_key key (key x) xs ≡ y ∷ of_key key (key x) ys = sym (head_of_key key x xs) ∙ same x
            ∙ subst (λ (k : ℕ). of_key key k (y ∷ ys) ≡ y ∷ of_key key k ys) e (head_of_key key y ys) in
            let first : x ≡ y = cc in
            cons_same first (same_in_order key (key x) (key y) xs ys up.1 up'.1
            (λ z. rest (key z) (eqb (key z) (key x)) refl first (same z)))
      ]
    ]
  where
    cons_same : x ≡ y → xs ≡ ys → x ∷ xs ≡ y ∷ ys
    cons_same p q = cc

    rest : (n : ℕ) (t : Bool) → eqb n (key x) ≡ t → x ≡ y → of_key key n (x ∷ xs) ≡ of_key key n (y ∷ ys)
        → of_key key n xs ≡ of_key key n ys
    rest n true q e s =
        let q' : eqb n (key y) ≡ true = subst (λ (z : X). eqb n (key z) ≡ true) e q in
        let s' = rw (q, q') at s in
        cc
    rest n false q e s =
        let q' : eqb n (key y) ≡ false = subst (λ (z : X). eqb n (key z) ≡ false) e q in
        rw (q, q') at s

-- what a stable sort gives is the list by its key
pub by_key_is : {X : Type 0} (key : X → ℕ) (b : ℕ) (xs ys : List X) → NotFalling key b ys
    → ((z : X) → of_key key (key z) ys ≡ of_key key (key z) xs) → ys ≡ by_key key xs
by_key_is key b xs ys up same = same_in_order key b 0 ys (by_key key xs) up (by_key_in_order key xs)
    (λ z. same z ∙ sym (by_key_same_key key (key z) xs))

-- numbers from a on, below c, no two equal, are at most c - a
fits_below : {X : Type 0} (key : X → ℕ) (b c : ℕ) (xs : List X) → Rising key b xs → AllByRecursion (λ x. key x < c) xs
    → b ≤ c → b + length xs ≤ c
fits_below key b c [] up below le = omega (arith, le)
fits_below key b c (x ∷ xs) up below le =
    omega (arith, up.0, fits_below key (key x + 1) c xs up.1 below.1 (omega (arith, below.0)))

raise : {X : Type 0} (key : X → ℕ) (a b : ℕ) (xs : List X) → NotFalling key b xs
    → AllByRecursion (λ x. a ≤ key x) xs → NotFalling key a xs
raise key a b [] up least = tt
raise key a b (x ∷ xs) up least = (least.0, up.1)

pub distinct_fit : {X : Type 0} (key : X → ℕ) (a c : ℕ) (xs : List X) → EachPair (λ x y. key x ≡ key y → ⊥) xs
    → AllByRecursion (λ x. a ≤ key x) xs → AllByRecursion (λ x. key x < c) xs → a ≤ c → a + length xs ≤ c
distinct_fit key a c xs apart least below le =
    let up : NotFalling key a (by_key key xs) = raise key a 0 (by_key key xs) (by_key_in_order key xs)
    (by_key_all (λ x. a ≤ key x) key xs least) in
    let rising : Rising key a (by_key key xs) = rising_from key a (by_key key xs) up
    (by_key_pairs (λ x y. key x ≡ key y → ⊥) (λ x y ne e. ne (sym e)) key xs apart) in
    omega (
      arith,
      by_key_length key xs,
      fits_below key a c (by_key key xs) rising
          (by_key_all (λ x. key x < c) key xs below) le,
    )

-- what holds of each element of the list in order holds of each of the list
all_put : {X : Type 0} (P : X → Type 0) (key : X → ℕ) (x : X) (ys : List X) → AllByRecursion P (put_by key x ys)
    → P x × AllByRecursion P ys
all_put P key x [] all = all
all_put {X} P key x (y ∷ ys) all = go (leb (key x) (key y)) refl (λ k. all_put P key x ys (rw k at all).1) all
  where
    go : (b : Bool) → leb (key x) (key y) ≡ b → (leb (key x) (key y) ≡ false → P x × AllByRecursion P ys)
        → AllByRecursion P (put_by key x (y ∷ ys)) → P x × AllByRecursion P (y ∷ ys)
    go true q rest a = rw q at a
    go false q rest a = let r = rest q in let h = rw q at a in (r.0, (h.0, r.1))

pub all_by_key : {X : Type 0} (P : X → Type 0) (key : X → ℕ) (xs : List X)
    → AllByRecursion P (by_key key xs) → AllByRecursion P xs
all_by_key P key [] all = all
all_by_key P key (x ∷ xs) all = let h = all_put P key x (by_key key xs) all in (h.0, all_by_key P key xs h.1)

pub rising_at : {X : Type 0} (key : X → ℕ) (b : ℕ) (xs : List X) → Rising key b xs → (k : ℕ) (d : X) → k < length xs
    → b ≤ key (get_or xs k d)
rising_at key b [] up k d lt = absurd (omega arith)
rising_at key b (x ∷ xs) up zero d lt = up.0
rising_at key b (x ∷ xs) up (suc k) d lt = omega (arith, up.0, rising_at key (key x + 1) xs up.1 k d (omega arith))

none_lower : {X : Type 0} (key : X → ℕ) (b n : ℕ) (xs : List X) → Rising key b xs → n ≤ b
    → passing (λ x. ltb (key x) n) xs ≡ 0
none_lower key b n [] up le = refl
none_lower key b n (x ∷ xs) up le = let k : ltb (key x) n ≡ false = le-ltb (key x) n (omega (arith, up.0)) in rw k
    (none_lower key (key x + 1) n xs up.1 (omega (arith, up.0)))

-- an element's place is how many keys are below its own
pub rank_is_place : {X : Type 0} (key : X → ℕ) (b : ℕ) (xs : List X) → Rising key b xs → (k : ℕ) (d : X) → k < length xs
    → passing (λ x. ltb (key x) (key (get_or xs k d))) xs ≡ k
rank_is_place key b [] up k d lt = absurd (omega arith)
rank_is_place key b (x ∷ xs) up zero d lt = none_lower key (key x) (key x) (x ∷ xs) (omega arith, up.1) (omega arith)
rank_is_place key b (x ∷ xs) up (suc k) d lt =
    let h : ltb (key x) (key (get_or xs k d)) ≡ true = lt-ltb (key x) (key (get_or xs k d))
    (omega (arith, rising_at key (key x + 1) xs up.1 k d (omega arith))) in
    omega (
      arith,
      passing-yes (λ z. ltb (key z) (key (get_or xs k d))) x xs h,
      rank_is_place key
          (key x + 1) xs up.1 k d (omega arith),
    )

pub pair_at : {X : Type 0} (R : X → X → Type 0) (xs : List X) → EachPair R xs → (i j : ℕ) (d : X) → i < j
    → j < length xs → R (get_or xs i d) (get_or xs j d)
pair_at R [] all i j d lt in' = absurd (omega arith)
pair_at R (x ∷ xs) all zero zero d lt in' = absurd (omega arith)
pair_at R (x ∷ xs) all zero (suc j) d lt in' = All-from_recursion (R x) xs all.0 j d (omega arith)
pair_at R (x ∷ xs) all (suc i) zero d lt in' = absurd (omega arith)
pair_at R (x ∷ xs) all (suc i) (suc j) d lt in' = pair_at R xs all.1 i j d (omega arith) (omega arith)

-- std's words for the same
put_moves : {X : Type 0} (key : X → ℕ) (x : X) (ys : List X) → IsPermutation (x ∷ ys) (put_by key x ys)
put_moves key x [] = IsPermutation-refl (x ∷ [])
put_moves {X} key x (y ∷ ys) = go (leb (key x) (key y)) refl (put_moves key x ys)
  where
    go : (b : Bool) → leb (key x) (key y) ≡ b → IsPermutation (x ∷ ys) (put_by key x ys)
        → IsPermutation (x ∷ (y ∷ ys)) (put_by key x (y ∷ ys))
    go true q rest = rw q (IsPermutation-refl (x ∷ (y ∷ ys)))
    go false q rest = rw q (IsPermutation-trans (x ∷ (y ∷ ys)) (y ∷ (x ∷ ys)) (y ∷ put_by key x ys)
        (IsPermutation-middle (x ∷ []) y ys) (IsPermutation-cons y (x ∷ ys) (put_by key x ys) rest))

pub by_key_moves : {X : Type 0} (key : X → ℕ) (xs : List X) → IsPermutation xs (by_key key xs)
by_key_moves key [] = IsPermutation-refl []
by_key_moves key (x ∷ xs) = IsPermutation-trans (x ∷ xs) (x ∷ by_key key xs) (put_by key x (by_key key xs))
    (IsPermutation-cons x xs (by_key key xs) (by_key_moves key xs)) (put_moves key x (by_key key xs))

-- what a stable sort by a number gives
pub not_falling_from_places : {X : Type 0} (key : X → ℕ) (b : ℕ) (xs : List X)
    → ((d : X) → 0 < length xs → b ≤ key (get_or xs 0 d))
    → ((i : ℕ) (d : X) → suc i < length xs → key (get_or xs i d) ≤ key (get_or xs (suc i) d)) → NotFalling key b xs
not_falling_from_places key b [] first each = tt
not_falling_from_places key b (x ∷ xs) first each = (
  first x (omega arith),
  not_falling_from_places key (key x) xs (λ d some. each 0 d (omega arith))
      (λ i d lt. each (suc i) d (omega arith)),
)

pub not_falling_from_sort : {X : Type 0} (key : X → ℕ) (xs : List X)
    → IsSortedByKey key nat_cmp xs → NotFalling key 0 xs
not_falling_from_sort key xs sorted = not_falling_from_places key 0 xs (λ d some. omega arith)
    (λ i d lt. IsNonDecreasingBy-from_sort key xs sorted i (suc i) d (omega arith) lt)

ties_at : (m n : ℕ) → (not (is_lt (nat_cmp m n)) && not (is_lt (nat_cmp n m))) ≡ eqb m n
ties_at m n = elim (cases_order m n) [
  | inl e ↦ subst (λ (k : ℕ). (not (is_lt (nat_cmp m k)) && not (is_lt (nat_cmp k m))) ≡ eqb m k) e
      (rw (le-ltb m m (omega arith), eq-eqb m m refl) refl)
  | inr ne ↦ elim ne [
    | inl lt ↦ rw (lt-ltb m n lt, ne_eqb m n (λ e. absurd (omega (arith, e)))) refl
    | inr gt ↦ rw (le-ltb m n (omega arith), lt-ltb n m gt, ne_eqb m n (λ e. absurd (omega (arith, e)))) refl
  ]
]

pub by_key_from_sort : {X : Type 0} (key : X → ℕ) (xs ys : List X) → IsSortedByKey key nat_cmp ys
    → IsStableByKey key nat_cmp xs ys → ys ≡ by_key key xs
by_key_from_sort {X} key xs ys sorted stable = by_key_is key 0 xs ys (not_falling_from_sort key ys sorted)
    (λ z. sym (tied z ys) ∙ stable z ∙ tied z xs)
  where
    tied : (z : X) (zs : List X) → filter (ties (λ x y. is_lt (nat_cmp (key x) (key y))) z) zs ≡ of_key key (key z) zs
    tied z zs = filter_agree (ties (λ x y. is_lt (nat_cmp (key x) (key y))) z) (λ y. eqb (key z) (key y))
        (λ y. ties_at (key z) (key y)) zs
