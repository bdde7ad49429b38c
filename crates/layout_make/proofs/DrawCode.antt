-- Steps of the loops that draw.
use Rattle.std.proofs.Common.{◌≡◌, ℕ, zero, suc, ◌+◌, ◌≤◌, sym, ap, ◌∙◌, arith, List, [], ◌∷◌, ◌++◌, length, map, drop}
use Rattle.std.proofs.Common.{append_assoc, Some, slice_get}
use Rattle.std.proofs.lemmas.List.{map-append, append-nil}
use Rattle.sorting.specs.Numbers.{numbers}
use Rattle.layout_make.proofs.RowCode.{drop_at, drop_all}

-- adding

pub map_next : {A B : Type 0} (f : A → B) (xs : List A) (n : ℕ) (x : A) (old items all : List B)
    → slice_get xs n ≡ Some x → old ++ map f (drop n xs) ≡ all → items ≡ old ++ f x ∷ []
    → items ++ map f (drop (n + 1) xs) ≡ all
map_next {B = B} f xs n x old items all at so is =
    ap (λ (ys : List B). ys ++ map f (drop (n + 1) xs)) is ∙ append_assoc old (f x ∷ []) (map f (drop (n + 1) xs))
    ∙ ap (λ (ys : List B). old ++ ys) (sym (ap (map f) (drop_at xs n x at))) ∙ so

pub map_done : {A B : Type 0} (f : A → B) (xs : List A) (n : ℕ) (items all : List B) → length xs ≤ n
    → items ++ map f (drop n xs) ≡ all → items ≡ all
map_done {B = B} f xs n items all le so = sym (append-nil items)
    ∙ ap (λ (ys : List B). items ++ ys) (sym (ap (map f) (drop_all xs n le))) ∙ so

numbers_last : (k n : ℕ) → numbers k (suc n) ≡ numbers k n ++ (k + n) ∷ []
numbers_last k zero = ap (λ (m : ℕ). m ∷ []) (let h : k ≡ k + zero = omega arith in h)
numbers_last k (suc n) =
    ap (λ (ms : List ℕ). k ∷ ms)
    (numbers_last (suc k) n ∙ ap (λ (m : ℕ). numbers (suc k) n ++ m ∷ [])
    (let h : suc k + n ≡ k + suc n = omega arith in h))

pub numbers_next : {B : Type 0} (f : ℕ → B) (n : ℕ) (base old items : List B) → old ≡ base ++ map f (numbers 0 n)
    → items ≡ old ++ f n ∷ [] → items ≡ base ++ map f (numbers 0 (n + 1))
numbers_next {B} f n base old items so is =
    is ∙ ap (λ (ys : List B). ys ++ f n ∷ []) so ∙ append_assoc base (map f (numbers 0 n)) (f n ∷ [])
    ∙ ap (λ (ys : List B). base ++ ys) (sym (map-append f (numbers 0 n) (n ∷ []))
    ∙ ap (map f) (ap (λ (m : ℕ). numbers 0 n ++ m ∷ []) (let h : n ≡ 0 + n = omega arith in h)
    ∙ sym (numbers_last 0 n) ∙ ap (numbers 0) (let h : suc n ≡ n + 1 = omega arith in h)))
