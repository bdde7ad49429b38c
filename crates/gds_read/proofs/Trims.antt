-- Texts without their trailing zero bytes.
use Rattle.std.proofs.Common.{◌≡◌, ◌≢◌, ℕ, zero, suc, ◌+◌, ◌-◌, ◌<◌, ◌≤◌, List, [], ◌∷◌, ◌++◌, take, length, get_or}
use Rattle.std.proofs.Common.{Bool, true, false, eqb, ◌||◌, refl, sym, ap, ◌∙◌, arith}
use Rattle.std.proofs.lemmas.List.{take_more, take_all}
use Rattle.std.proofs.lemmas.Bool.Decides.{nat_tests}
use Rattle.std.proofs.lemmas.Bool.{or_left, or_right}
use Rattle.gds_records.specs.Records.{kept, trimmed}
use Rattle.gds_records.specs.Values.{holds_zero}

pub found_zero : (xs : List ℕ) (i : ℕ) → i < length xs → get_or xs i 0 ≡ 0 → holds_zero xs ≡ true
found_zero [] i h e = absurd (omega arith)
found_zero (x ∷ xs) zero h e = or_left (eqb x 0) (holds_zero xs) (grind (arith, nat_tests))
found_zero (x ∷ xs) (suc i) h e = or_right (eqb x 0) (holds_zero xs) (found_zero xs i (omega arith) e)

trimmed_zero : (xs : List ℕ) → trimmed (xs ++ 0 ∷ []) ≡ trimmed xs
trimmed_zero [] = refl
trimmed_zero (x ∷ xs) = ap (λ (t : List ℕ). kept x t) (trimmed_zero xs)

kept_more : (x : ℕ) (xs : List ℕ) (b : ℕ) → kept x (xs ++ suc b ∷ []) ≡ x ∷ (xs ++ suc b ∷ [])
kept_more zero [] b = refl
kept_more zero (y ∷ xs) b = refl
kept_more (suc x) xs b = refl

trimmed_other : (xs : List ℕ) (b : ℕ) → trimmed (xs ++ suc b ∷ []) ≡ xs ++ suc b ∷ []
trimmed_other [] b = refl
trimmed_other (x ∷ xs) b = ap (λ (t : List ℕ). kept x t) (trimmed_other xs b) ∙ kept_more x xs b

-- one byte less, where the last is zero
pub trim_step : (xs : List ℕ) (end : ℕ) (last : ℕ) → end ≤ length xs → 0 < end → last ≡ get_or xs (end - 1) 0 → last ≡ 0
    → trimmed (take end xs) ≡ trimmed xs → trimmed (take (end - 1) xs) ≡ trimmed xs
trim_step xs end last h p g z e =
    let n : end ≡ end - 1 + 1 = omega arith in
    let w : get_or xs (end - 1) 0 ≡ 0 = sym g ∙ z in
    sym (trimmed_zero (take (end - 1) xs)) ∙ ap (λ (b : ℕ). trimmed (take (end - 1) xs ++ b ∷ [])) (sym w)
    ∙ ap (λ (t : List ℕ). trimmed t) (sym (take_more xs (end - 1) 0 (omega arith)))
    ∙ ap (λ (k : ℕ). trimmed (take k xs)) (sym n) ∙ e

nonzero : (xs : List ℕ) (b : ℕ) → b ≢ 0 → trimmed (xs ++ b ∷ []) ≡ xs ++ b ∷ []
nonzero xs zero h = absurd (h refl)
nonzero xs (suc b) h = trimmed_other xs b

-- where the last is another, nothing is trimmed
pub trim_end : (xs : List ℕ) (end : ℕ) (last : ℕ) → end ≤ length xs → 0 < end → last ≡ get_or xs (end - 1) 0 → last ≢ 0
    → trimmed (take end xs) ≡ trimmed xs → take end xs ≡ trimmed xs
trim_end xs end last h p g z e =
    let n : end - 1 + 1 ≡ end = omega arith in
    let m : take end xs ≡ take (end - 1) xs ++ get_or xs (end - 1) 0 ∷ [] = ap (λ (k : ℕ). take k xs) (sym n)
    ∙ take_more xs (end - 1) 0 (omega arith) in
    m ∙ sym (nonzero (take (end - 1) xs) (get_or xs (end - 1) 0) (λ w. z (g ∙ w)))
    ∙ ap (λ (t : List ℕ). trimmed t) (sym m) ∙ e

pub trim_none : (xs : List ℕ) (end : ℕ) → end ≡ 0 → trimmed (take end xs) ≡ trimmed xs → take end xs ≡ trimmed xs
trim_none xs end z e = ap (λ (k : ℕ). take k xs) z ∙ sym (sym e ∙ ap (λ (k : ℕ). trimmed (take k xs)) z)

none_append : (xs : List ℕ) (b : ℕ) → holds_zero xs ≡ false → b ≢ 0 → holds_zero (xs ++ b ∷ []) ≡ false
none_append [] b e h = let f : eqb b 0 ≡ false = grind (arith, nat_tests) in rw f refl
none_append (x ∷ xs) b e h = let p = parts (eqb x 0) (holds_zero xs) e in
    both (eqb x 0) (holds_zero (xs ++ b ∷ [])) p.0 (none_append xs b p.1 h)
  where
    parts : (s t : Bool) → (s || t) ≡ false → (s ≡ false) × (t ≡ false)
    parts true t e = absurd cc
    parts false t e = (refl, e)

    both : (s t : Bool) → s ≡ false → t ≡ false → (s || t) ≡ false
    both true t e f = absurd cc
    both false t e f = f

pub none_more : (xs : List ℕ) (i : ℕ) → i < length xs → get_or xs i 0 ≢ 0 → holds_zero (take i xs) ≡ false
    → holds_zero (take (i + 1) xs) ≡ false
none_more xs i h z e = ap (λ (t : List ℕ). holds_zero t) (take_more xs i 0 h)
    ∙ none_append (take i xs) (get_or xs i 0) e z

pub none_whole : (xs : List ℕ) (i : ℕ) → length xs ≤ i → holds_zero (take i xs) ≡ false → holds_zero xs ≡ false
none_whole xs i h e = ap (λ (t : List ℕ). holds_zero t) (sym (take_all i xs h)) ∙ e
