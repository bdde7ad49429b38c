-- Tests that agree on all items of a list choose the same items of it.
use Rattle.std.proofs.Common.{◌≡◌, ℕ, suc, Bool, true, false, cond, ◌&&◌, List, [], ◌∷◌, Some, refl, sym, ap, ◌∙◌}
use Rattle.std.specs.Prelude.{filter, map, slice_get}

-- the two agree on each item
abbrev pub AgreeOn : {X Y : Type 0} → (X → Y) → (X → Y) → List X → Type 0
AgreeOn {X} f g xs = (n : ℕ) (x : X) → slice_get xs n ≡ Some x → f x ≡ g x

pub filter_same : {X : Type 0} (p q : X → Bool) (xs : List X) → AgreeOn p q xs → filter p xs ≡ filter q xs
filter_same p q [] same = refl
filter_same {X} p q (x ∷ xs) same =
    by_test (p x) refl (filter_same p q xs (λ n y at. same (suc n) y at))
  where
    by_test : (b : Bool) → p x ≡ b → filter p xs ≡ filter q xs → filter p (x ∷ xs) ≡ filter q (x ∷ xs)
    by_test b e rest =
        ap (λ (v : Bool). cond {A = List X} v (x ∷ filter p xs) (filter p xs)) (same 0 x refl)
        ∙ ap (λ (l : List X). cond {A = List X} (q x) (x ∷ l) l) rest

-- and functions that agree on them give the same of what is chosen
pub map_same : {X : Type 0} (f g : X → ℕ) (q : X → Bool) (xs : List X) → AgreeOn f g xs
    → map f (filter q xs) ≡ map g (filter q xs)
map_same f g q [] same = refl
map_same {X} f g q (x ∷ xs) same = by_test (q x) refl (map_same f g q xs (λ n y at. same (suc n) y at))
  where
    by_test : (b : Bool) → q x ≡ b → map f (filter q xs) ≡ map g (filter q xs)
        → map f (filter q (x ∷ xs)) ≡ map g (filter q (x ∷ xs))
    by_test true e rest =
        ap (λ (v : Bool). map f (cond {A = List X} v (x ∷ filter q xs) (filter q xs))) e
        ∙ (ap (λ (v : ℕ). v ∷ map f (filter q xs)) (same 0 x refl) ∙ (ap (λ (l : List ℕ). g x ∷ l) rest
        ∙ sym (ap (λ (v : Bool). map g (cond {A = List X} v (x ∷ filter q xs) (filter q xs))) e)))
    by_test false e rest =
        ap (λ (v : Bool). map f (cond {A = List X} v (x ∷ filter q xs) (filter q xs))) e
        ∙ (rest ∙ sym (ap (λ (v : Bool). map g (cond {A = List X} v (x ∷ filter q xs) (filter q xs))) e))

-- what passes two tests in turn
pub filter_twice : {X : Type 0} (p q : X → Bool) (xs : List X) → filter q (filter p xs) ≡ filter (λ x. p x && q x) xs
filter_twice p q [] = refl
filter_twice {X} p q (x ∷ xs) = by_test (p x) refl (filter_twice p q xs)
  where
    by_test : (b : Bool) → p x ≡ b → filter q (filter p xs) ≡ filter (λ y. p y && q y) xs
        → filter q (filter p (x ∷ xs)) ≡ filter (λ y. p y && q y) (x ∷ xs)
    by_test true e rest =
        ap (λ (v : Bool). filter q (cond {A = List X} v (x ∷ filter p xs) (filter p xs))) e
        ∙ (ap (λ (l : List X). cond {A = List X} (q x) (x ∷ l) l) rest
        ∙ sym (ap (λ (v : Bool). cond {A = List X} (v && q x) (x ∷ filter (λ y. p y && q y) xs)
        (filter (λ y. p y && q y) xs)) e))
    by_test false e rest =
        ap (λ (v : Bool). filter q (cond {A = List X} v (x ∷ filter p xs) (filter p xs))) e
        ∙ (rest
        ∙ sym (ap (λ (v : Bool). cond {A = List X} (v && q x) (x ∷ filter (λ y. p y && q y) xs)
        (filter (λ y. p y && q y) xs)) e))
