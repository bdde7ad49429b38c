-- Laws of orders of numbers: in an order each number has one place, and each place one number.
use Rattle.std.specs.Prelude.{◌≡◌, ℕ, zero, suc, ◌+◌, ◌<◌, ◌≤◌, true, false, eqb, List, [], ◌∷◌, length, slice_get}
use Rattle.std.specs.Prelude.{Some}
use Rattle.std.proofs.Common.{refl, sym, ap, ◌∙◌, subst, ◌⊎◌, inl, inr, arith, get_or}
use Rattle.std.proofs.lemmas.Bool.{cases_lt, cases_eq, eq-eqb, ne_eqb}
use Rattle.std.proofs.lemmas.Option.{same_Some, none-some, slice_get-get_or, slice_get_within, get_or_from_slice_get}
use Rattle.sorting.specs.Sorting.{by_key, passing}
use Rattle.sorting.proofs.SortingLaws.{by_key_passing, by_key_length, passing-cons, passing-yes, passing-no}
use Rattle.sorting.specs.Numbers.{numbers, place_of, Same, IsOrder}

pub length-numbers : (b n : ℕ) → length (numbers b n) ≡ n
length-numbers b zero = refl
length-numbers b (suc n) = ap suc (length-numbers (suc b) n)

-- how often a number stands among those from b on
never : (c b n : ℕ) → (c < b) ⊎ (b + n ≤ c) → passing (λ x. eqb x c) (numbers b n) ≡ 0
never c b zero out = refl
never c b (suc n) out = elim out [
  | inl l ↦ passing-no (λ x. eqb x c) b (numbers (suc b) n) (ne_eqb b c (λ e. absurd (omega arith)))
      ∙ never c (suc b) n (inl (omega arith))
  | inr g ↦ passing-no (λ x. eqb x c) b (numbers (suc b) n) (ne_eqb b c (λ e. absurd (omega arith)))
      ∙ never c (suc b) n (inr (omega arith))
]

once : (c b n : ℕ) → b ≤ c → c < b + n → passing (λ x. eqb x c) (numbers b n) ≡ 1
once c b zero le lt = absurd (omega arith)
once c b (suc n) le lt = elim (cases_eq b c) [
  | inl e ↦ passing-yes (λ x. eqb x c) b (numbers (suc b) n) (eq-eqb b c e)
      ∙ ap suc (never c (suc b) n (inl (omega arith)))
  | inr ne ↦ passing-no (λ x. eqb x c) b (numbers (suc b) n) (ne_eqb b c ne)
      ∙ once c (suc b) n (elim (cases_lt b c) [ inl l ↦ omega arith | inr g ↦ absurd (ne (omega arith)) ]) (omega arith)
]

-- what stands in a list is counted
counted : (xs : List ℕ) (c d : ℕ) → slice_get xs c ≡ Some d → 0 < passing (λ x. eqb x d) xs
counted [] c d e = absurd (none-some d e)
counted (x ∷ xs) zero d e = omega (arith, passing-yes (λ z. eqb z d) x xs (eq-eqb x d (same_Some x d e)))
counted (x ∷ xs) (suc c) d e = omega (arith, passing-cons (λ z. eqb z d) x xs, counted xs c d e)

-- the place of a number that stands there once, and what stands at the place of a number that stands there
place_once : (xs : List ℕ) (c d : ℕ) → slice_get xs c ≡ Some d → passing (λ x. eqb x d) xs ≤ 1 → place_of xs d ≡ c
place_once [] c d e one = absurd (none-some d e)
place_once (x ∷ xs) zero d e one = let t : eqb x d ≡ true = eq-eqb x d (same_Some x d e) in rw t refl
place_once (x ∷ xs) (suc c) d e one = elim (cases_eq x d) [
  | inl same ↦ absurd (omega (arith, passing-yes (λ z. eqb z d) x xs (eq-eqb x d same), counted xs c d e))
  | inr other ↦ let f : eqb x d ≡ false = ne_eqb x d other in
      rw f (ap suc (place_once xs c d e (omega (arith, one, passing-no (λ z. eqb z d) x xs f))))
]

at_place : (xs : List ℕ) (d : ℕ) → 0 < passing (λ x. eqb x d) xs → slice_get xs (place_of xs d) ≡ Some d
at_place [] d some = absurd (omega arith)
at_place (x ∷ xs) d some = elim (cases_eq x d) [
  | inl same ↦ let t : eqb x d ≡ true = eq-eqb x d same in rw t (ap (λ (k : ℕ). Some k) same)
  | inr other ↦ let f : eqb x d ≡ false = ne_eqb x d other in
      rw f (at_place xs d (omega (arith, some, passing-no (λ z. eqb z d) x xs f)))
]

-- each number of an order is below its length
pub order_below : (xs : List ℕ) → IsOrder xs → (c d : ℕ) → slice_get xs c ≡ Some d → d < length xs
order_below xs order c d e = elim (cases_lt d (length xs)) [
  | inl lt ↦ lt
  | inr ge ↦ absurd (omega (arith, counted xs c d e, order (λ x. eqb x d), never d 0 (length xs) (inr (omega arith))))
]

-- the place of the number at a place
pub order_place : (xs : List ℕ) → IsOrder xs → (c d : ℕ) → slice_get xs c ≡ Some d → place_of xs d ≡ c
order_place xs order c d e =
    place_once xs c d e (omega
    (arith, order (λ x. eqb x d), once d 0 (length xs) (omega arith) (omega (arith, order_below xs order c d e))))

-- the number at the place of a number
pub order_at_place : (xs : List ℕ) → IsOrder xs → (d : ℕ) → d < length xs → slice_get xs (place_of xs d) ≡ Some d
order_at_place xs order d lt = at_place xs d
    (omega (arith, order (λ x. eqb x d), once d 0 (length xs) (omega arith) (omega arith)))

-- the same by get_or
pub order_get_below : (xs : List ℕ) → IsOrder xs → (c e : ℕ) → c < length xs → get_or xs c e < length xs
order_get_below xs order c e lt = order_below xs order c (get_or xs c e) (slice_get-get_or xs c e lt)

pub place_of_get : (xs : List ℕ) → IsOrder xs → (c e : ℕ) → c < length xs → place_of xs (get_or xs c e) ≡ c
place_of_get xs order c e lt = order_place xs order c (get_or xs c e) (slice_get-get_or xs c e lt)

pub get_place_of : (xs : List ℕ) → IsOrder xs → (d e : ℕ) → d < length xs → get_or xs (place_of xs d) e ≡ d
get_place_of xs order d e lt = get_or_from_slice_get xs (place_of xs d) d e (order_at_place xs order d lt)

pub place_below : (xs : List ℕ) → IsOrder xs → (d : ℕ) → d < length xs → place_of xs d < length xs
place_below xs order d lt = slice_get_within xs (place_of xs d) d (order_at_place xs order d lt)

-- two numbers of an order have two places
pub places_apart : (xs : List ℕ) → IsOrder xs → (c d : ℕ) → c < length xs → d < length xs
    → place_of xs c ≡ place_of xs d → c ≡ d
places_apart xs order c d first second same =
    same_Some c d (sym (order_at_place xs order c first) ∙ ap (λ (k : ℕ). slice_get xs k) same
    ∙ order_at_place xs order d second)

-- numbers in the order of a key
pub order_by_key : (key : ℕ → ℕ) (n : ℕ) → IsOrder (by_key key (numbers 0 n))
order_by_key key n =
    subst (λ (k : ℕ). Same (by_key key (numbers 0 n)) (numbers 0 k))
    (sym (by_key_length key (numbers 0 n) ∙ length-numbers 0 n))
    (λ p. by_key_passing p key (numbers 0 n))

pub length-by_key_numbers : (key : ℕ → ℕ) (n : ℕ) → length (by_key key (numbers 0 n)) ≡ n
length-by_key_numbers key n = by_key_length key (numbers 0 n) ∙ length-numbers 0 n
