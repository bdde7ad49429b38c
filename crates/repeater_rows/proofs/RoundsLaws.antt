-- Laws of rounds: each keeps the destinations, two bring some pair into order, and they end after at most the square of
-- the number of slots.
use Rattle.std.proofs.Common.{◌≡◌, ℕ, zero, suc, ◌+◌, ◌-◌, ◌*◌, ◌/◌, ◌<◌, ◌≤◌, Bool, true, false, cond, not, ◌&&◌, ◌||◌}
use Rattle.std.proofs.Common.{ltb, eqb, List, [], ◌∷◌, ◌++◌, length, take, drop, get_or, refl, sym, ap, ◌∙◌, subst, ◌⊎◌}
use Rattle.std.proofs.Common.{inl, inr, arith, length-drop}
use Rattle.std.proofs.lemmas.Bool.{cases_lt, cases_eq, le-ltb, eqb-true}
use Rattle.std.proofs.lemmas.List.{get_or-take, get_or-drop, length-take, take-append-drop}
use Rattle.std.proofs.lemmas.Nat.{same_from_place, mul-le}
use Rattle.std.proofs.Math.Nat.{suc-mul, mul-suc}
use Rattle.sorting.specs.Sorting.{NotFalling, passing, of_key, in_order}
use Rattle.sorting.proofs.SortingLaws.{passing-cons, same_in_order}
use Rattle.sorting.specs.Numbers.{numbers, Same, IsOrder}
use Rattle.rowed.specs.Channels.{move}
use Rattle.repeater_rows.specs.Rounds.{AreOrders, windows, round, is_far, window_size, rounds, all_rounds, AreRounds}
use Rattle.sorting.specs.Inversions.{below, inversions}
use Rattle.sorting.proofs.InversionLaws.{across, inversions-append, across-same, passing-append, in_order_from_none}
use Rattle.sorting.proofs.InversionLaws.{none_in_order, in_order_same}
use Rattle.repeater_rows.proofs.WindowLaws.{inside, windows_same, windows_lower, windows_stay}

-- neighbours in order, and the whole list in order
rises : (b : ℕ) (xs : List ℕ) → NotFalling (λ n. n) b xs → (i : ℕ) → suc i < length xs
    → get_or xs i 0 ≤ get_or xs (suc i) 0
rises b [] up i lt = absurd (omega arith)
rises b (x ∷ []) up i lt = absurd (omega arith)
rises b (x ∷ (y ∷ ys)) up zero lt = up.1.0
rises b (x ∷ (y ∷ ys)) up (suc i) lt = rises x (y ∷ ys) up.1 i (omega arith)

from_rises : (xs : List ℕ) (b : ℕ) → (0 < length xs → b ≤ get_or xs 0 0)
    → ((i : ℕ) → suc i < length xs → get_or xs i 0 ≤ get_or xs (suc i) 0)
    → NotFalling (λ n. n) b xs
from_rises [] b first each = tt
from_rises (x ∷ xs) b first each =
    (first (omega arith), from_rises xs x (λ some. each 0 (omega arith)) (λ i lt. each (suc i) (omega arith)))

-- where all windows are in order, neighbours are, but at the windows' edges
within_windows : (e n : ℕ) (xs : List ℕ) → 0 < e → inside e n xs ≡ 0 → length xs ≤ n * e → (i : ℕ) → suc i < length xs
    → (get_or xs i 0 ≤ get_or xs (suc i) 0) ⊎ ((k : ℕ) × (suc i ≡ k * e))
within_windows e zero xs some none all i lt = absurd (omega arith)
within_windows e (suc n) xs some none all i lt = elim (cases_lt (suc i) e) [
  | inl small ↦
      let a = get_or-take e xs i 0 (omega arith) in
      let b = get_or-take e xs (suc i) 0 small in
      let r = rises 0 (take e xs) (in_order_from_none (take e xs) (omega (arith, none))) i
      (simp length-take (omega arith)) in
      inl (omega (arith, a, b, r))
  | inr large ↦ elim (cases_eq (suc i) e) [
    | inl edge ↦ inr (1, omega arith)
    | inr ne ↦
        let more : e ≤ i = elim (cases_lt i e) [ inl l ↦ absurd (ne (omega arith)) | inr m ↦ m ] in
        let j : ℕ = i - e in
        let q : e + j ≡ i = omega arith in
        let q' : e + suc j ≡ suc i = omega arith in
        let short : length (drop e xs) ≤ n * e = simp length-drop (omega (arith, suc-mul n e)) in
        let there : suc j < length (drop e xs) = simp length-drop (omega arith) in
        elim (within_windows e n (drop e xs) some (omega (arith, none)) short j there) [
          | inl up ↦
              let a : get_or (drop e xs) j 0 ≡ get_or xs i 0 = get_or-drop e xs j 0 ∙ ap (λ (m : ℕ). get_or xs m 0) q in
              let b : get_or (drop e xs) (suc j) 0 ≡ get_or xs (suc i) 0 = get_or-drop e xs (suc j) 0
              ∙ ap (λ (m : ℕ). get_or xs m 0) q' in
              inl (omega (arith, a, b, up))
          | inr at ↦ inr (suc at.0, omega (arith, at.1, suc-mul at.0 e))
        ]
  ]
]

-- the edges of the one round lie within the windows of the other
in_order_from_both : (h n m : ℕ) (xs : List ℕ) → 0 < h → inside (h + h) n xs ≡ 0 → length xs ≤ n * (h + h)
    → inside (h + h) m (drop h xs) ≡ 0
    → length xs ≤ m * (h + h) → inversions xs ≡ 0
in_order_from_both h n m xs some none all none' all' = none_in_order 0 xs (from_rises xs 0 (λ _. omega arith) each)
  where
    each : (i : ℕ) → suc i < length xs → get_or xs i 0 ≤ get_or xs (suc i) 0
    each i lt = elim (within_windows (h + h) n xs (omega arith) none all i lt) [
      | inl up ↦ up
      | inr edge ↦
          let positive : (k : ℕ) → suc i ≡ k * (h + h) → h + h ≤ suc i = positive_of in
          let large : h + h ≤ suc i = positive edge.0 edge.1 in
          let j : ℕ = i - h in
          let q : h + j ≡ i = omega arith in
          let q' : h + suc j ≡ suc i = omega arith in
          let short : length (drop h xs) ≤ m * (h + h) = simp length-drop (omega arith) in
          let there : suc j < length (drop h xs) = simp length-drop (omega arith) in
          elim (within_windows (h + h) m (drop h xs) (omega arith) none' short j there) [
            | inl up ↦
                let a : get_or (drop h xs) j 0 ≡ get_or xs i 0 = get_or-drop h xs j 0
                ∙ ap (λ (m : ℕ). get_or xs m 0) q in
                let b : get_or (drop h xs) (suc j) 0 ≡ get_or xs (suc i) 0 = get_or-drop h xs (suc j) 0
                ∙ ap (λ (m : ℕ). get_or xs m 0) q' in
                omega (arith, a, b, up)
            | inr edge' ↦
                let e : edge.0 * (h + h) + 0 ≡ edge'.0 * (h + h) + h = omega (arith, edge.1, edge'.1, q') in
                let z = (same_from_place edge.0 0 edge'.0 h (h + h) (omega arith) (omega arith) e).1 in
                absurd (omega (arith, z))
          ]
    ]
      where
        positive_of : (k : ℕ) → suc i ≡ k * (h + h) → h + h ≤ suc i
        positive_of zero e = absurd (omega (arith, e))
        positive_of (suc k) e = omega (arith, e, suc-mul k (h + h))

-- the inversions that a round removes
abbrev pub removed : ℕ → Bool → List ℕ → ℕ
removed e true xs = inside e (length xs) xs
removed e false xs = inside e (length xs) (drop (e / 2) xs)

pub round_same : (e : ℕ) (turn : Bool) (xs : List ℕ) → Same (round e turn xs) xs
round_same e true xs = windows_same e (length xs) xs
round_same e false xs = λ p.
    let a = passing-append p (take (e / 2) xs) (windows e (length xs) (drop (e / 2) xs)) in
    let b = windows_same e (length xs) (drop (e / 2) xs) p in
    let c : passing p (take (e / 2) xs) + passing p (drop (e / 2) xs) ≡ passing p xs =
    sym (passing-append p (take (e / 2) xs) (drop (e / 2) xs))
    ∙ ap (λ (l : List ℕ). passing p l) (take-append-drop (e / 2) xs) in
    omega (arith, a, b, c)

pub round_lower : (e : ℕ) (turn : Bool) (xs : List ℕ) → inversions (round e turn xs) + removed e turn xs ≡ inversions xs
round_lower e true xs = windows_lower e (length xs) xs
round_lower e false xs =
    let front = take (e / 2) xs in
    let back = drop (e / 2) xs in
    let a = inversions-append front (windows e (length xs) back) in
    let b : across front (windows e (length xs) back) ≡ across front back = across-same front
    (windows e (length xs) back) back (windows_same e (length xs) back) in
    let c : inversions xs ≡ inversions front + across front back + inversions back =
    sym (ap inversions (take-append-drop (e / 2) xs)) ∙ inversions-append front back in
    omega (arith, a, b, c, windows_lower e (length xs) back)

round_stays : (e : ℕ) (turn : Bool) (xs : List ℕ) → removed e turn xs ≡ 0 → round e turn xs ≡ xs
round_stays e true xs none = windows_stay e (length xs) xs none
round_stays e false xs none = ap (λ (l : List ℕ). take (e / 2) xs ++ l)
    (windows_stay e (length xs) (drop (e / 2) xs) none) ∙ take-append-drop (e / 2) xs

-- a round of each kind that removes nothing
in_order_from_rounds : (e : ℕ) (turn : Bool) (xs : List ℕ) → e ≡ e / 2 + e / 2 → 0 < e / 2 → removed e turn xs ≡ 0
    → removed e (not turn) xs ≡ 0 → inversions xs ≡ 0
in_order_from_rounds e turn xs even some a b = go turn a b
  where
    fits : length xs ≤ length xs * (e / 2 + e / 2)
    fits = omega (arith, mul-le (length xs) 1 (length xs) (e / 2 + e / 2) (omega arith) (omega arith))

    both : inside e (length xs) xs ≡ 0 → inside e (length xs) (drop (e / 2) xs) ≡ 0 → inversions xs ≡ 0
    both p q = in_order_from_both (e / 2) (length xs) (length xs) xs some
        (subst (λ (d : ℕ). inside d (length xs) xs ≡ 0) even p) fits
        (subst (λ (d : ℕ). inside d (length xs) (drop (e / 2) xs) ≡ 0) even q) fits

    go : (turn : Bool) → removed e turn xs ≡ 0 → removed e (not turn) xs ≡ 0 → inversions xs ≡ 0
    go true p q = both p q
    go false p q = both q p

-- in a pair of consecutive rounds some pair of destinations comes into order, or all are in order
pub two_rounds : (e : ℕ) (turn : Bool) (xs : List ℕ) → e ≡ e / 2 + e / 2 → 0 < e / 2
    → (inversions xs ≡ 0) ⊎ (inversions (round e (not turn) (round e turn xs)) < inversions xs)
two_rounds e turn xs even some = elim (cases_eq (removed e turn xs) 0) [
  | inr ne ↦ inr (omega (arith, ne, round_lower e turn xs, round_lower e (not turn) (round e turn xs)))
  | inl first ↦
      let stays = round_stays e turn xs first in
      elim (cases_eq (removed e (not turn) (round e turn xs)) 0) [
        | inr ne ↦ inr (omega (arith, ne, round_lower e turn xs, round_lower e (not turn) (round e turn xs)))
        | inl second ↦ inl (in_order_from_rounds e turn xs even some first
            (subst (λ (l : List ℕ). removed e (not turn) l ≡ 0) stays second))
      ]
]

copies : ℕ → ℕ → List ℕ
copies zero n = []
copies (suc k) n = n ∷ copies k n

of_key_copies : (n : ℕ) (xs : List ℕ) → of_key (λ x. x) n xs ≡ copies (passing (λ x. eqb n x) xs) n
unfolding copies
of_key_copies n [] = refl
of_key_copies n (x ∷ xs) = go (eqb n x) refl (of_key_copies n xs)
  where
    go : (b : Bool) → eqb n x ≡ b → of_key (λ x. x) n xs ≡ copies (passing (λ x. eqb n x) xs) n
        → of_key (λ x. x) n (x ∷ xs) ≡ copies (passing (λ x. eqb n x) (x ∷ xs)) n
    go true q r = let s : n ≡ x = eqb-true n x q in rw (q, sym s) (ap (λ (l : List ℕ). n ∷ l) r)
    go false q r = rw q r

-- lists with the same elements have the same elements of each key
pub same_of_key : (xs ys : List ℕ) → Same xs ys → (n : ℕ) → of_key (λ x. x) n xs ≡ of_key (λ x. x) n ys
same_of_key xs ys same n = of_key_copies n xs ∙ ap (λ (k : ℕ). copies k n) (same (λ x. eqb n x))
    ∙ sym (of_key_copies n ys)

numbers_rise : (n count : ℕ) (b : ℕ) → b ≤ n → NotFalling (λ x. x) b (numbers n count)
numbers_rise n zero b le = tt
numbers_rise n (suc count) b le = (le, numbers_rise (suc n) count n (omega arith))

-- in order, each destination is its own slot
pub order_is : (to : List ℕ) → IsOrder to → inversions to ≡ 0 → to ≡ numbers 0 (length to)
order_is to order none = same_in_order (λ n. n) 0 0 to (numbers 0 (length to)) (in_order_from_none to none)
    (numbers_rise 0 (length to) 0 (omega arith))
    (λ n. of_key_copies n to ∙ ap (λ (k : ℕ). copies k n) (order (λ x. eqb n x))
    ∙ sym (of_key_copies n (numbers 0 (length to))))

numbers_near : (reach : ℕ) (wired : ℕ → Bool) (n count : ℕ) → is_far reach wired n (numbers n count) ≡ false
numbers_near reach wired n zero = refl
numbers_near reach wired n (suc count) =
    let k : ltb (reach - 1) (move n n) ≡ false = le-ltb (reach - 1) (move n n) (omega arith) in
    rw k (go (wired n) (numbers_near reach wired (suc n) count))
  where
    go : (b : Bool) → is_far reach wired (suc n) (numbers (suc n) count) ≡ false
        → ((b && false) || is_far reach wired (suc n) (numbers (suc n) count)) ≡ false
    go true e = e
    go false e = e

pub near_in_order : (reach : ℕ) (wired : ℕ → Bool) (to : List ℕ) → IsOrder to → inversions to ≡ 0
    → is_far reach wired 0 to ≡ false
near_in_order reach wired to order none = ap (λ (l : List ℕ). is_far reach wired 0 l) (order_is to order none)
    ∙ numbers_near reach wired 0 (length to)

pub length_same : (xs ys : List ℕ) → Same xs ys → length xs ≡ length ys
length_same xs ys same = sym (all xs) ∙ same (λ n. true) ∙ all ys
  where
    all : (zs : List ℕ) → passing (λ n. true) zs ≡ length zs
    all [] = refl
    all (z ∷ zs) = ap suc (all zs)

pub round_order : (e : ℕ) (turn : Bool) (to : List ℕ) → IsOrder to → IsOrder (round e turn to)
round_order e turn to order =
    λ p. round_same e turn to p ∙ order p
    ∙ ap (λ (n : ℕ). passing p (numbers 0 n)) (sym (length_same (round e turn to) to (round_same e turn to)))

rounds-stop : (reach : ℕ) (wired : ℕ → Bool) (most : ℕ) (turn : Bool) (to : List ℕ) → is_far reach wired 0 to ≡ false
    → rounds reach wired (suc most) turn to ≡ []
rounds-stop reach wired most turn to near = rw (near, rounds) refl

rounds-go : (reach : ℕ) (wired : ℕ → Bool) (most : ℕ) (turn : Bool) (to : List ℕ) → is_far reach wired 0 to ≡ true
    → rounds reach wired (suc most) turn to ≡ round (window_size reach) turn to ∷ rounds reach wired most (not turn)
    (round (window_size reach) turn to)
rounds-go reach wired most turn to far = rw (far, rounds) refl

rounds_none : (reach : ℕ) (wired : ℕ → Bool) (most : ℕ) (turn : Bool) (to : List ℕ) → is_far reach wired 0 to ≡ false
    → AreRounds reach wired turn to (rounds reach wired most turn to)
rounds_none reach wired zero turn to near = near
rounds_none reach wired (suc most) turn to near = subst (AreRounds reach wired turn to)
    (sym (rounds-stop reach wired most turn to near)) near

rounds_more : (reach : ℕ) (wired : ℕ → Bool) (most : ℕ) (turn : Bool) (to : List ℕ) → is_far reach wired 0 to ≡ true
    → AreRounds reach wired (not turn) (round (window_size reach) turn to)
    (rounds reach wired most (not turn) (round (window_size reach) turn to))
    → AreRounds reach wired turn to (rounds reach wired (suc most) turn to)
rounds_more reach wired most turn to far rest = subst (AreRounds reach wired turn to)
    (sym (rounds-go reach wired most turn to far)) (far, refl, rest)

pub window_even : (reach : ℕ) → 2 ≤ reach → (window_size reach ≡ window_size reach / 2 + window_size reach / 2)
    × (0 < window_size reach / 2)
window_even reach le = (omega arith, omega arith)

pub rounds_end : (reach : ℕ) (wired : ℕ → Bool) → 2 ≤ reach → (most : ℕ) (turn : Bool) (to : List ℕ) → IsOrder to
    → inversions to + inversions to ≤ most → AreRounds reach wired turn to (rounds reach wired most turn to)
rounds_end reach wired two zero turn to order few = rounds_none reach wired zero turn to
    (near_in_order reach wired to order (omega (arith, few)))
rounds_end reach wired two (suc zero) turn to order few = rounds_none reach wired (suc zero) turn to
    (near_in_order reach wired to order (omega (arith, few)))
rounds_end reach wired two (suc (suc most)) turn to order few =
    let e = window_size reach in
    let next = round e turn to in
    let after = round e (not turn) next in
    elim (two_rounds e turn to (window_even reach two).0 (window_even reach two).1) [
      | inl none ↦ rounds_none reach wired (suc (suc most)) turn to (near_in_order reach wired to order none)
      | inr less ↦
          let rest =
          rounds_end reach wired two most (not (not turn)) after
          (round_order e (not turn) next (round_order e turn to order)) (omega (arith, less, few)) in
          go (is_far reach wired 0 to) refl (go_next (is_far reach wired 0 next) refl rest)
    ]
  where
    go_next : (b : Bool) → is_far reach wired 0 (round (window_size reach) turn to) ≡ b
        → AreRounds reach wired (not (not turn))
        (round (window_size reach) (not turn) (round (window_size reach) turn to))
        (rounds reach wired most (not (not turn))
        (round (window_size reach) (not turn) (round (window_size reach) turn to)))
        → AreRounds reach wired (not turn) (round (window_size reach) turn to)
        (rounds reach wired (suc most) (not turn) (round (window_size reach) turn to))
    go_next true far rest = rounds_more reach wired most (not turn) (round (window_size reach) turn to) far rest
    go_next false near rest = rounds_none reach wired (suc most) (not turn) (round (window_size reach) turn to) near

    go : (b : Bool) → is_far reach wired 0 to ≡ b
        → AreRounds reach wired (not turn) (round (window_size reach) turn to)
        (rounds reach wired (suc most) (not turn) (round (window_size reach) turn to))
        → AreRounds reach wired turn to (rounds reach wired (suc (suc most)) turn to)
    go true far rest = rounds_more reach wired (suc most) turn to far rest
    go false near rest = rounds_none reach wired (suc (suc most)) turn to near

-- fewer inversions than half the square
few_inversions : (xs : List ℕ) → inversions xs + inversions xs ≤ length xs * length xs
few_inversions [] = omega arith
few_inversions (x ∷ xs) =
    omega (
      arith,
      below_short x xs,
      few_inversions xs,
      suc-mul (length xs)
          (suc (length xs)),
      mul-suc (length xs) (length xs),
    )
  where
    below_short : (x : ℕ) (ys : List ℕ) → below x ys ≤ length ys
    below_short x [] = omega arith
    below_short x (y ∷ ys) = omega (arith, passing-cons (λ z. ltb z x) y ys, one (ltb y x), below_short x ys)
      where
        one : (b : Bool) → cond b 1 0 ≤ 1
        one true = omega arith
        one false = omega arith

-- the rounds of a channel are rounds to their end, and no more than the square of its slots
pub all_rounds_end : (reach : ℕ) (wired : ℕ → Bool) (to : List ℕ) → 2 ≤ reach → IsOrder to
    → AreRounds reach wired true to (all_rounds reach wired to)
all_rounds_end reach wired to two order = rounds_end reach wired two
    (length to * length to) true to order (few_inversions to)

rounds_few : (reach : ℕ) (wired : ℕ → Bool) (most : ℕ) (turn : Bool) (to : List ℕ)
    → length (rounds reach wired most turn to) ≤ most
rounds_few reach wired zero turn to = omega arith
rounds_few reach wired (suc most) turn to = go (is_far reach wired 0 to) refl
    (rounds_few reach wired most (not turn) (round (window_size reach) turn to))
  where
    go : (b : Bool) → is_far reach wired 0 to ≡ b
        → length (rounds reach wired most (not turn) (round (window_size reach) turn to)) ≤ most
        → length (rounds reach wired (suc most) turn to) ≤ suc most
    go true q le = omega (arith, le, ap length (rounds-go reach wired most turn to q))
    go false q le = omega (arith, ap length (rounds-stop reach wired most turn to q))

pub all_rounds_few : (reach : ℕ) (wired : ℕ → Bool) (to : List ℕ)
    → length (all_rounds reach wired to) ≤ length to * length to
all_rounds_few reach wired to = rounds_few reach wired (length to * length to) true to

pub rounds_alike : (reach : ℕ) (wired : ℕ → Bool) (turn : Bool) (to : List ℕ) (a b : List (List ℕ))
    → AreRounds reach wired turn to a
    → AreRounds reach wired turn to b → a ≡ b
rounds_alike reach wired turn to [] [] p q = refl
rounds_alike reach wired turn to [] (y ∷ ys) p q = absurd (let h = q.0 in cc)
rounds_alike reach wired turn to (x ∷ xs) [] p q = absurd (let h = p.0 in cc)
rounds_alike reach wired turn to (x ∷ xs) (y ∷ ys) p q =
    let e : y ≡ x = q.1 ∙ sym p.1 in
    let r : xs ≡ ys = rounds_alike reach wired (not turn) x xs ys p.2
    (subst (λ (l : List ℕ). AreRounds reach wired (not turn) l ys) e q.2) in
    cc

-- every two rounds on end
pub rounds_lower : (reach : ℕ) (first : Bool) (to : List ℕ) → 2 ≤ reach
    → (in_order to ≡ to) ⊎ (inversions
    (round (window_size reach) (not first) (round (window_size reach) first to)) < inversions to)
rounds_lower reach first to two =
    elim (two_rounds (window_size reach) first to (window_even reach two).0 (window_even reach two).1) [
      | inl none ↦ inl (in_order_same to none)
      | inr less ↦ inr less
    ]

-- after each round the destinations are an order of the slots
pub rounds_orders : (reach : ℕ) (wired : ℕ → Bool) (slots most : ℕ) (first : Bool) (to : List ℕ)
    → length to ≡ slots → IsOrder to
    → AreOrders slots (rounds reach wired most first to)
rounds_orders reach wired slots zero first to long order = tt
rounds_orders reach wired slots (suc most) first to long order =
    let next = round (window_size reach) first to in
    let long' : length next ≡ slots = length_same next to (round_same (window_size reach) first to) ∙ long in
    let order' : IsOrder next = round_order (window_size reach) first to order in
    go (is_far reach wired 0 to) refl
    ((long', order'), rounds_orders reach wired slots most (not first) next long' order')
  where
    go : (far : Bool) → is_far reach wired 0 to ≡ far
        → AreOrders slots (round (window_size reach) first to ∷ rounds reach wired most (not first)
        (round (window_size reach) first to))
        → AreOrders slots (rounds reach wired (suc most) first to)
    go true q rest = subst (AreOrders slots) (sym (rounds-go reach wired most first to q)) rest
    go false q rest = subst (AreOrders slots) (sym (rounds-stop reach wired most first to q)) tt

pub all_rounds_orders : (reach : ℕ) (wired : ℕ → Bool) (to : List ℕ) → IsOrder to
    → AreOrders (length to) (all_rounds reach wired to)
all_rounds_orders reach wired to order = rounds_orders reach wired (length to)
    (length to * length to) true to refl order

-- no other list is of the rounds
pub only_rounds : (reach : ℕ) (wired : ℕ → Bool) (to : List ℕ) (tos : List (List ℕ)) → 2 ≤ reach → IsOrder to
    → AreRounds reach wired true to tos → tos ≡ all_rounds reach wired to
only_rounds reach wired to tos two order are = rounds_alike reach wired true to tos (all_rounds reach wired to) are
    (all_rounds_end reach wired to two order)
