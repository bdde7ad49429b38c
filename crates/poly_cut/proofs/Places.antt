-- Places in lists that are mapped, set and pushed to.
use Rattle.std.proofs.Common.{◌≡◌, ℕ, zero, suc, ◌⊎◌, List, [], ◌∷◌, ◌++◌, map, length, Some, refl, sym, ap, arith, inl}
use Rattle.std.proofs.Common.{inr}
use Rattle.std.specs.Prelude.{slice_get, slice_set}
use Rattle.std.proofs.lemmas.Option.{same_Some}

pub push_cases : {X : Type 0} (xs : List X) (y x : X) (k : ℕ) → slice_get (xs ++ y ∷ []) k ≡ Some x
    → (slice_get xs k ≡ Some x) ⊎ ((k ≡ length xs) × (y ≡ x))
push_cases [] y x zero e = inr (refl, same_Some y x e)
push_cases [] y x (suc k) e = absurd cc
push_cases (z ∷ xs) y x zero e = inl e
push_cases (z ∷ xs) y x (suc k) e = elim (push_cases xs y x k e) [
  | inl old ↦ inl old
  | inr new ↦ inr (ap suc new.0, new.1)
]

pub set_cases : {X : Type 0} (xs : List X) (n : ℕ) (y x : X) (k : ℕ) → slice_get (slice_set xs n y) k ≡ Some x
    → (slice_get xs k ≡ Some x) ⊎ ((k ≡ n) × (y ≡ x))
set_cases [] n y x k e = absurd cc
set_cases (z ∷ xs) zero y x zero e = inr (refl, same_Some y x e)
set_cases (z ∷ xs) zero y x (suc k) e = inl e
set_cases (z ∷ xs) (suc n) y x zero e = inl e
set_cases (z ∷ xs) (suc n) y x (suc k) e = elim (set_cases xs n y x k e) [
  | inl old ↦ inl old
  | inr new ↦ inr (ap suc new.0, new.1)
]

pub set_length : {X : Type 0} (xs : List X) (n : ℕ) (y : X) → length (slice_set xs n y) ≡ length xs
set_length [] n y = refl
set_length (x ∷ xs) zero y = refl
set_length (x ∷ xs) (suc n) y = ap suc (set_length xs n y)

pub set_same : {X : Type 0} (xs : List X) (n : ℕ) (x : X) → slice_get xs n ≡ Some x → slice_set xs n x ≡ xs
set_same [] n x e = refl
set_same {X = X} (y ∷ xs) zero x e = ap (λ (k : X). k ∷ xs) (sym (same_Some y x e))
set_same {X = X} (y ∷ xs) (suc n) x e = ap (λ (l : List X). y ∷ l) (set_same xs n x e)

pub set_got : {X : Type 0} (xs : List X) (n : ℕ) (x y : X) → slice_get xs n ≡ Some y
    → slice_get (slice_set xs n x) n ≡ Some x
set_got [] n x y e = absurd cc
set_got (z ∷ xs) zero x y e = refl
set_got (z ∷ xs) (suc n) x y e = set_got xs n x y e

pub set_other : {X : Type 0} (xs : List X) (n m : ℕ) (x : X) → (m ≡ n → ⊥)
    → slice_get (slice_set xs n x) m ≡ slice_get xs m
set_other [] n m x ne = refl
set_other (z ∷ xs) zero zero x ne = absurd (ne refl)
set_other (z ∷ xs) zero (suc m) x ne = refl
set_other (z ∷ xs) (suc n) zero x ne = refl
set_other (z ∷ xs) (suc n) (suc m) x ne = set_other xs n m x (λ e. ne (ap suc e))

pub push_got : {X : Type 0} (xs : List X) (n : ℕ) (x y : X) → slice_get xs n ≡ Some x
    → slice_get (xs ++ y ∷ []) n ≡ Some x
push_got [] n x y e = absurd cc
push_got (z ∷ xs) zero x y e = e
push_got (z ∷ xs) (suc n) x y e = push_got xs n x y e

pub push_last : {X : Type 0} (xs : List X) (y : X) → slice_get (xs ++ y ∷ []) (length xs) ≡ Some y
push_last [] y = refl
push_last (z ∷ xs) y = push_last xs y

-- ---- mapped

pub got_map : {X Y : Type 0} (f : X → Y) (xs : List X) (n : ℕ) (x : X) → slice_get xs n ≡ Some x
    → slice_get (map f xs) n ≡ Some (f x)
got_map f [] n x e = absurd cc
got_map {X = X} f (y ∷ xs) zero x e = ap (λ (k : X). Some (f k)) (same_Some y x e)
got_map f (y ∷ xs) (suc n) x e = got_map f xs n x e

pub map_got : {X Y : Type 0} (f : X → Y) (xs : List X) (n : ℕ) (y : Y) → slice_get (map f xs) n ≡ Some y
    → (x : X) × ((slice_get xs n ≡ Some x) × (f x ≡ y))
map_got f [] n y e = absurd cc
map_got f (x ∷ xs) zero y e = (x, (refl, same_Some (f x) y e))
map_got f (x ∷ xs) (suc n) y e = map_got f xs n y e

pub map_length : {X Y : Type 0} (f : X → Y) (xs : List X) → length (map f xs) ≡ length xs
map_length f [] = refl
map_length f (x ∷ xs) = ap suc (map_length f xs)

pub same_map : {X Y : Type 0} (f g : X → Y) (xs : List X) → ((n : ℕ) (x : X) → slice_get xs n ≡ Some x → f x ≡ g x)
    → map f xs ≡ map g xs
same_map f g [] h = refl
same_map f g (x ∷ xs) h = λ k. h 0 x refl k ∷ same_map f g xs (λ n y. h (suc n) y) k

pub set_map : {X Y : Type 0} (f g : X → Y) (xs : List X) (n : ℕ) (v : Y) (x : X)
    → ((m : ℕ) (y : X) → (m ≡ n → ⊥) → slice_get xs m ≡ Some y → f y ≡ g y) → v ≡ g x
    → slice_set (map f xs) n v ≡ map g (slice_set xs n x)
set_map f g [] n v x h e = refl
set_map f g (y ∷ xs) zero v x h e = λ k. e k ∷ same_map f g xs (λ m z q. h (suc m) z (λ w. absurd (omega arith)) q) k
set_map f g (y ∷ xs) (suc n) v x h e = λ k. h 0 y (λ w. absurd (omega arith)) refl k
    ∷ set_map f g xs n v x (λ m z ne q. h (suc m) z (λ w. ne (omega arith)) q) e k

pub push_map : {X Y : Type 0} (f g : X → Y) (xs : List X) (v : Y) (x : X)
    → ((n : ℕ) (y : X) → slice_get xs n ≡ Some y → f y ≡ g y) → v ≡ g x → map f xs ++ v ∷ [] ≡ map g (xs ++ x ∷ [])
push_map f g [] v x h e = λ k. e k ∷ []
push_map f g (y ∷ xs) v x h e = λ k. h 0 y refl k ∷ push_map f g xs v x (λ n z. h (suc n) z) e k
