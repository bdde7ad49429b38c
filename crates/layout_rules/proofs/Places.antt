-- At which places of a written-out list a test is passed, computed.
use Rattle.std.proofs.Common.{◌≡◌, ℕ, zero, suc, ◌+◌, ◌⊎◌, Bool, true, false, List, [], ◌∷◌, length, Some, refl, sym}
use Rattle.std.proofs.Common.{ap, subst, ◌∙◌, arith, inl, inr, slice_get, slice_index, zip}
use Rattle.std.proofs.lemmas.Option.{same_Some}
use Rattle.geom.specs.declared.shapes.Shape.{Shape}
use Rattle.layout_rules.specs.Reports.{Passes, PassTogether}

-- the places from k on
abbrev pub places_from : {X : Type 0} → (X → Bool) → ℕ → List X → List ℕ
places_from test k [] = []
places_from test k (x ∷ xs) =
    elim (test x) [ true ↦ k ∷ places_from test (suc k) xs | false ↦ places_from test (suc k) xs ]

abbrev pub places : {X : Type 0} → (X → Bool) → List X → List ℕ
places test xs = places_from test 0 xs

abbrev pub IsOneOf : ℕ → List ℕ → Type 0
IsOneOf n [] = ⊥
IsOneOf n (k ∷ ks) = (n ≡ k) ⊎ IsOneOf n ks

from_yes : {X : Type 0} (test : X → Bool) (k : ℕ) (x : X) (xs : List X) → test x ≡ true
    → places_from test k (x ∷ xs) ≡ k ∷ places_from test (suc k) xs
from_yes test k x xs e = rw (e, places_from) refl

from_no : {X : Type 0} (test : X → Bool) (k : ℕ) (x : X) (xs : List X) → test x ≡ false
    → places_from test k (x ∷ xs) ≡ places_from test (suc k) xs
from_no test k x xs e = rw (e, places_from) refl

place_from : {X : Type 0} (test : X → Bool) (k : ℕ) (xs : List X) (n : ℕ) (x : X) → slice_get xs n ≡ Some x
    → test x ≡ true → IsOneOf (k + n) (places_from test k xs)
place_from test k [] n x p e = absurd cc
place_from test k (y ∷ ys) zero x p e =
    let here : test y ≡ true = ap test (same_Some y x p) ∙ e in
    subst (IsOneOf (k + 0)) (sym (from_yes test k y ys here)) (inl (omega arith))
place_from test k (y ∷ ys) (suc n) x p e = by_test (place_from test (suc k) ys n x p e) (test y) refl
  where
    next : suc k + n ≡ k + suc n
    next = omega arith

    by_test : IsOneOf (suc k + n) (places_from test (suc k) ys) → (b : Bool) → test y ≡ b
        → IsOneOf (k + suc n) (places_from test k (y ∷ ys))
    by_test less true h = subst (IsOneOf (k + suc n)) (sym (from_yes test k y ys h))
        (inr (subst (λ (m : ℕ). IsOneOf m (places_from test (suc k) ys)) next less))
    by_test less false h = subst (IsOneOf (k + suc n)) (sym (from_no test k y ys h))
        (subst (λ (m : ℕ). IsOneOf m (places_from test (suc k) ys)) next less)

-- whatever passes has one of the places
pub place_at : {X : Type 0} (test : X → Bool) (xs : List X) (n : ℕ) (x : X) → slice_get xs n ≡ Some x → test x ≡ true
    → IsOneOf n (places test xs)
place_at test xs n x p e =
    let zero-n : 0 + n ≡ n = omega arith in
    subst (λ (m : ℕ). IsOneOf m (places test xs)) zero-n (place_from test 0 xs n x p e)

pub one_of : {n k : ℕ} → IsOneOf n (k ∷ []) → n ≡ k
one_of (inl e) = e
one_of (inr h) = absurd h

pub place_of : (test : Shape → Bool) (shapes : List Shape) (n : ℕ) → Passes test shapes n
    → IsOneOf n (places test shapes)
place_of test shapes n p = place_at test shapes n p.shape p.shape_is p.passes_so

-- what holds at each of some numbers holds at one of them
abbrev pub AtEach : (ℕ → Type 0) → List ℕ → Type 0
AtEach P [] = Unit {0}
AtEach P (k ∷ ks) = P k × AtEach P ks

pub at_one : (P : ℕ → Type 0) (n : ℕ) (ks : List ℕ) → IsOneOf n ks → AtEach P ks → P n
at_one P n [] h all = absurd h
at_one P n (k ∷ ks) (inl e) all = subst P (sym e) all.0
at_one P n (k ∷ ks) (inr h) all = at_one P n ks h all.1

-- a pair of a shape and its number stands at its place in the zipped list
pub zip_at : (shapes : List Shape) (nets : List ℕ) (n : ℕ) (s : Shape) → length nets ≡ length shapes
    → slice_get shapes n ≡ Some s → slice_get (zip shapes nets) n ≡ Some (s, slice_index nets n)
zip_at [] nets n s long p = absurd cc
zip_at (t ∷ ts) [] n s long p = absurd (let k : suc (length ts) ≡ 0 = sym long in omega arith)
zip_at (t ∷ ts) (m ∷ nets) zero s long p = ap (λ (x : Shape). Some (x, m)) (same_Some t s p)
zip_at (t ∷ ts) (m ∷ nets) (suc n) s long p = zip_at ts nets n s
    (let k : suc (length nets) ≡ suc (length ts) = long in omega arith) p

pub second_place : (test : Shape → Shape → Bool) (shapes : List Shape) (a b : ℕ) (s : Shape)
    → slice_get shapes a ≡ Some s → PassTogether test shapes a b → IsOneOf b (places (test s) shapes)
second_place test shapes a b s p pair =
    let same : pair.first ≡ s = same_Some pair.first s (sym pair.first_is ∙ p) in
    subst (λ (v : Shape). IsOneOf b (places (test v) shapes)) same
    (place_at (test pair.first) shapes b pair.second pair.second_is pair.passes_so)
