-- What stands in joined and mapped lists, and lists in which everything stands once.
use Rattle.std.proofs.Common.{◌≡◌, ℕ, zero, suc, ◌+◌, ◌-◌, ◌<◌, ◌≤◌, refl, sym, ap, subst, ◌∙◌, arith, ◌⊎◌, inl, inr}
use Rattle.std.proofs.Common.{List, [], ◌∷◌, ◌++◌, map, Some, slice_get}
use Rattle.std.specs.List.{flat_map, AllByRecursion}
use Rattle.std.proofs.lemmas.Option.{same_Some}
use Rattle.sorting.specs.Numbers.{numbers}

abbrev pub In : {A : Type 0} → A → List A → Type 0
In {A} x xs = (i : ℕ) × (slice_get xs i ≡ Some x)

pub in_head : {A : Type 0} (x y : A) (xs : List A) → In x (y ∷ xs) → (x ≡ y) ⊎ In x xs
in_head x y xs (zero, e) = inl (sym (same_Some _ _ e))
in_head x y xs (suc i, e) = inr (i, e)

pub not_in_nil : {A : Type 0} (x : A) → In x [] → ⊥
not_in_nil x (i, e) = absurd cc

pub in_append : {A : Type 0} (x : A) (xs ys : List A) → In x (xs ++ ys) → In x xs ⊎ In x ys
in_append x [] ys h = inr h
in_append x (y ∷ xs) ys (zero, e) = inl (zero, e)
in_append x (y ∷ xs) ys (suc i, e) = elim (in_append x xs ys (i, e)) [ inl h ↦ inl (suc h.0, h.1) | inr h ↦ inr h ]

pub in_left : {A : Type 0} (x : A) (xs ys : List A) → In x xs → In x (xs ++ ys)
in_left x [] ys (i, e) = absurd cc
in_left x (y ∷ xs) ys (zero, e) = (zero, e)
in_left x (y ∷ xs) ys (suc i, e) = let h = in_left x xs ys (i, e) in (suc h.0, h.1)

pub in_right : {A : Type 0} (x : A) (xs ys : List A) → In x ys → In x (xs ++ ys)
in_right x [] ys h = h
in_right x (y ∷ xs) ys h = let k = in_right x xs ys h in (suc k.0, k.1)

pub in_map : {A B : Type 0} (f : A → B) (y : B) (xs : List A) → In y (map f xs) → (x : A) × In x xs × (y ≡ f x)
in_map f y [] (i, e) = absurd cc
in_map f y (x ∷ xs) (zero, e) = (x, (zero, refl), sym (same_Some _ _ e))
in_map f y (x ∷ xs) (suc i, e) = let h = in_map f y xs (i, e) in (h.0, (suc h.1.0, h.1.1), h.2)

pub map_in : {A B : Type 0} (f : A → B) (x : A) (xs : List A) → In x xs → In (f x) (map f xs)
map_in f x [] (i, e) = absurd cc
map_in f x (y ∷ xs) (zero, e) = (zero, ap (λ (z : _). Some (f z)) (same_Some _ _ e))
map_in f x (y ∷ xs) (suc i, e) = let h = map_in f x xs (i, e) in (suc h.0, h.1)

pub in_flat_map : {A B : Type 0} (f : A → List B) (y : B) (xs : List A) → In y (flat_map f xs) → (x : A) × In x xs
    × In y (f x)
in_flat_map f y [] h = absurd (not_in_nil y h)
in_flat_map f y (x ∷ xs) h = elim (in_append y (f x) (flat_map f xs) h) [
  | inl k ↦ (x, (zero, refl), k)
  | inr k ↦ let m = in_flat_map f y xs k in (m.0, (suc m.1.0, m.1.1), m.2)
]

pub flat_map_in : {A B : Type 0} (f : A → List B) (x : A) (y : B) (xs : List A) → In x xs → In y (f x)
    → In y (flat_map f xs)
flat_map_in f x y [] (i, e) h = absurd cc
flat_map_in f x y (z ∷ xs) (zero, e) h =
    in_left y (f z) (flat_map f xs) (subst (λ (w : _). In y (f w)) (sym (same_Some _ _ e)) h)
flat_map_in f x y (z ∷ xs) (suc i, e) h = in_right y (f z) (flat_map f xs) (flat_map_in f x y xs (i, e) h)

pub in_count : (k n r : ℕ) → In r (numbers k n) → (k ≤ r) × (r < k + n)
in_count k zero r h = absurd (not_in_nil r h)
in_count k (suc n) r h = elim (in_head r k (numbers (suc k) n) h) [
  | inl e ↦ (omega arith, omega arith)
  | inr m ↦ let x = in_count (suc k) n r m in (omega arith, omega arith)
]

pub count_in : (k n r : ℕ) → k ≤ r → r < k + n → In r (numbers k n)
count_in k zero r a b = absurd (omega arith)
count_in k (suc n) r a b = go (r - k) (omega arith)
  where
    at : (k n d : ℕ) → d < n → slice_get (numbers k n) d ≡ Some (k + d)
    at k zero d h = absurd (omega arith)
    at k (suc n) zero h = ap (λ (x : ℕ). Some x) (omega arith)
    at k (suc n) (suc d) h = at (suc k) n d (omega arith) ∙ ap (λ (x : ℕ). Some x) (omega arith)

    go : (d : ℕ) → k + d ≡ r → In r (numbers k (suc n))
    go d e = (d, at k (suc n) d (omega arith) ∙ ap (λ (x : ℕ). Some x) e)

pub in_upto : (n r : ℕ) → In r (numbers 0 n) → r < n
in_upto n r h = let k = in_count 0 n r h in omega arith

pub upto_in : (n r : ℕ) → r < n → In r (numbers 0 n)
upto_in n r h = count_in 0 n r (omega arith) (omega arith)

-- everything stands once
abbrev pub Once : {A : Type 0} → List A → Type 0
Once {A} xs = (i j : ℕ) (x : A) → slice_get xs i ≡ Some x → slice_get xs j ≡ Some x → i ≡ j

pub once_nil : {A : Type 0} → Once {A = A} []
once_nil i j x e f = absurd cc

pub once_cons : {A : Type 0} (y : A) (xs : List A) → (In y xs → ⊥) → Once xs → Once (y ∷ xs)
once_cons y xs new once zero zero x e f = refl
once_cons y xs new once zero (suc j) x e f = absurd (new (j, f ∙ sym e))
once_cons y xs new once (suc i) zero x e f = absurd (new (i, e ∙ sym f))
once_cons y xs new once (suc i) (suc j) x e f = ap suc (once i j x e f)

pub once_tail : {A : Type 0} (y : A) (xs : List A) → Once (y ∷ xs) → Once xs
once_tail y xs once i j x e f = let k : suc i ≡ suc j = once (suc i) (suc j) x e f in omega arith

pub once_append : {A : Type 0} (xs ys : List A) → Once xs → Once ys → ((x : A) → In x xs → In x ys → ⊥)
    → Once (xs ++ ys)
once_append [] ys a b apart = b
once_append (x ∷ xs) ys a b apart =
    once_cons x (xs ++ ys)
    (λ h. elim (in_append x xs ys h) [
      | inl k ↦ absurd (let e : zero ≡ suc k.0 = a zero (suc k.0) x refl k.1 in omega arith)
      | inr k ↦ apart x
          (zero, refl) k
    ]) (once_append xs ys (once_tail x xs a) b (λ y h k. apart y (suc h.0, h.1) k))

-- pieces that stand apart, each with everything once
pub once_flat_map : {A B : Type 0} (f : A → List B) (xs : List A) → Once xs → ((x : A) → In x xs → Once (f x))
    → ((x z : A) (y : B) → In x xs → In z xs → In y (f x) → In y (f z) → x ≡ z) → Once (flat_map f xs)
once_flat_map f [] once each apart = once_nil
once_flat_map f (x ∷ xs) once each apart = once_append (f x) (flat_map f xs) (each x (zero, refl))
    (once_flat_map f xs (once_tail x xs once) (λ z h. each z (suc h.0, h.1))
    (λ z w y h k. apart z w y (suc h.0, h.1) (suc k.0, k.1)))
    (λ y h k. let m = in_flat_map f y xs k in let e = apart x m.0 y (zero, refl) (suc m.1.0, m.1.1) h m.2 in
    absurd (let p : zero ≡ suc m.1.0 = once zero (suc m.1.0) x refl (m.1.1 ∙ ap (λ (z : _). Some z) (sym e)) in
    omega arith))

pub once_map : {A B : Type 0} (f : A → B) (xs : List A) → ((x z : A) → f x ≡ f z → x ≡ z) → Once xs → Once (map f xs)
once_map f [] same once = once_nil
once_map f (x ∷ xs) same once = once_cons (f x) (map f xs) (λ h. let m = in_map f (f x) xs h in
    absurd (let p : zero ≡ suc m.1.0 = once zero (suc m.1.0) x refl
    (m.1.1 ∙ ap (λ (z : _). Some z) (sym (same x m.0 m.2))) in omega arith)) (once_map f xs same (once_tail x xs once))

pub once_count : (k n : ℕ) → Once (numbers k n)
once_count k zero = once_nil
once_count k (suc n) = once_cons k (numbers (suc k) n) (λ h. let x = in_count (suc k) n k h in absurd (omega arith))
    (once_count (suc k) n)

-- what holds of all

pub all_in : {A : Type 0} (P : A → Type 0) (x : A) (xs : List A) → AllByRecursion P xs → In x xs → P x
all_in P x [] all h = absurd (not_in_nil x h)
all_in P x (y ∷ xs) all (zero, e) = subst P (same_Some _ _ e) all.0
all_in P x (y ∷ xs) all (suc i, e) = all_in P x xs all.1 (i, e)

pub in_all : {A : Type 0} (P : A → Type 0) (xs : List A) → ((x : A) → In x xs → P x) → AllByRecursion P xs
in_all P [] each = tt
in_all P (x ∷ xs) each = (each x (zero, refl), in_all P xs (λ y h. each y (suc h.0, h.1)))
