-- Items of a list, one after another.
use Rattle.std.proofs.Common.{◌≡◌, ℕ, zero, suc, ◌+◌, ◌<◌, List, [], ◌∷◌, ◌++◌, map, take, drop, length, refl, sym, ap}
use Rattle.std.proofs.Common.{◌∙◌, arith, drop-cons}
use Rattle.std.specs.Prelude.{slice_index_or}
use Rattle.std.proofs.lemmas.List.{take_more, map-append}

pub next_item : {A : Type 0} (xs : List A) (i : ℕ) (e : A) → i < length xs → e ≡ slice_index_or xs i e
    → drop i xs ≡ e ∷ drop (i + 1) xs
next_item {A} xs i e h q =
    let n : suc i ≡ i + 1 = omega arith in
    drop-cons xs i e h ∙ ap (λ (x : A). x ∷ drop (suc i) xs) (sym q) ∙ ap (λ (k : ℕ). e ∷ drop k xs) n

pub one_more : {A : Type 0} (xs : List A) (i : ℕ) (e : A) → i < length xs → e ≡ slice_index_or xs i e
    → take (i + 1) xs ≡ take i xs ++ e ∷ []
one_more {A} xs i e h q = take_more xs i e h ∙ ap (λ (x : A). take i xs ++ x ∷ []) (sym q)

-- an item that stands does not depend on what stands in for none
pub any_default : {A : Type 0} (xs : List A) (i : ℕ) (d e : A) → i < length xs
    → slice_index_or xs i d ≡ slice_index_or xs i e
any_default [] i d e h = absurd (omega arith)
any_default (x ∷ xs) zero d e h = refl
any_default (x ∷ xs) (suc i) d e h = any_default xs i d e (omega arith)

-- one item more of those that are made of the items of a list
pub made_more : {A B : Type 0} (f : A → B) (xs : List A) (i : ℕ) (x : A) (old new : List B) (y : B) → i < length xs
    → x ≡ slice_index_or xs i x
    → y ≡ f x → new ≡ old ++ y ∷ [] → old ≡ map f (take i xs) → new ≡ map f (take (i + 1) xs)
made_more {A} {B} f xs i x old new y h q made add same =
    add ∙ (λ k. same k ++ made k ∷ []) ∙ sym (map-append f (take i xs) (x ∷ []))
    ∙ ap (λ (l : List A). map f l) (sym (one_more xs i x h q))
