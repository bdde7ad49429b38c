-- Numbers in a few bytes.
use Rattle.std.proofs.Common.{◌≡◌, ℕ, List, [], ◌∷◌, drop, length, get_or, refl, sym, ap, ◌∙◌, arith, drop-cons}
use Rattle.std.specs.Int.{w16, w64, from_be_bytes}
use Rattle.std.proofs.lemmas.List.{length-drop}
use Rattle.gds_records.specs.Values.{unsigned_value}

nothing_left : (xs : List ℕ) → length xs ≡ 0 → xs ≡ []
nothing_left [] e = refl
nothing_left (x ∷ xs) e = absurd (omega arith)

none_from : (xs : List ℕ) (n : ℕ) → length xs ≡ n → drop n xs ≡ []
none_from xs n e = nothing_left (drop n xs) (omega (arith, length-drop n xs))

two_bytes_of : (xs : List ℕ) → length xs ≡ 2 → xs ≡ get_or xs 0 0 ∷ get_or xs 1 0 ∷ []
two_bytes_of xs e =
    drop-cons xs 0 0 (omega arith) ∙ ap (λ (t : List ℕ). get_or xs 0 0 ∷ t) (drop-cons xs 1 0 (omega arith))
    ∙ ap (λ (t : List ℕ). get_or xs 0 0 ∷ get_or xs 1 0 ∷ t) (none_from xs 2 e)

pub flag_value : (xs : List ℕ) → length xs ≡ 2 → from_be_bytes w16
    (get_or xs 0 0 ∷ get_or xs 1 0 ∷ []) ≡ unsigned_value 0 xs
flag_value xs e = number (get_or xs 0 0) (get_or xs 1 0) ∙ ap (λ (t : List ℕ). unsigned_value 0 t)
    (sym (two_bytes_of xs e))
  where
    number : (a b : ℕ) → from_be_bytes w16 (a ∷ b ∷ []) ≡ unsigned_value 0 (a ∷ b ∷ [])
    number a b = omega arith

seven_of : (xs : List ℕ) → length xs ≡ 16 → drop 9 xs ≡ get_or xs 9 0 ∷ get_or xs 10 0 ∷ get_or xs 11 0 ∷ get_or xs 12 0
    ∷ get_or xs 13 0 ∷ get_or xs 14 0 ∷ get_or xs 15 0 ∷ []
seven_of xs e =
    drop-cons xs 9 0 (omega arith) ∙ ap (λ (t : List ℕ). get_or xs 9 0 ∷ t)
    (drop-cons xs 10 0 (omega arith) ∙ ap (λ (t : List ℕ). get_or xs 10 0 ∷ t) (drop-cons xs 11 0 (omega arith)
    ∙ ap (λ (t : List ℕ). get_or xs 11 0 ∷ t) (drop-cons xs 12 0 (omega arith)
    ∙ ap (λ (t : List ℕ). get_or xs 12 0 ∷ t) (drop-cons xs 13 0 (omega arith)
    ∙ ap (λ (t : List ℕ). get_or xs 13 0 ∷ t) (drop-cons xs 14 0 (omega arith)
    ∙ ap (λ (t : List ℕ). get_or xs 14 0 ∷ t)
    (drop-cons xs 15 0 (omega arith) ∙ ap (λ (t : List ℕ). get_or xs 15 0 ∷ t) (none_from xs 16 e)))))))

pub mantissa_value : (xs : List ℕ) → length xs ≡ 16
    → from_be_bytes w64 (0 ∷ get_or xs 9 0 ∷ get_or xs 10 0 ∷ get_or xs 11 0 ∷ get_or xs 12 0 ∷ get_or xs 13 0
    ∷ get_or xs 14 0 ∷ get_or xs 15 0 ∷ []) ≡ unsigned_value 0 (drop 9 xs)
mantissa_value xs e =
    number (get_or xs 9 0) (get_or xs 10 0) (get_or xs 11 0) (get_or xs 12 0) (get_or xs 13 0) (get_or xs 14 0)
    (get_or xs 15 0) ∙ ap (λ (t : List ℕ). unsigned_value 0 t) (sym (seven_of xs e))
  where
    number : (a b c d e f g : ℕ) → from_be_bytes w64 (0 ∷ a ∷ b ∷ c ∷ d ∷ e ∷ f ∷ g ∷ []) ≡ unsigned_value 0
        (a ∷ b ∷ c ∷ d ∷ e ∷ f ∷ g ∷ [])
    number a b c d e f g = omega arith
