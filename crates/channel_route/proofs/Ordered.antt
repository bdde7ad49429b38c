-- Wires with their numbers, by rising lower end column.
use Rattle.std.proofs.Common.{◌≡◌, ℕ, zero, suc, ◌+◌, ◌<◌, ◌≤◌, Bool, true, false, leb, List, [], ◌∷◌, ◌++◌, length}
use Rattle.std.proofs.Common.{get_or, take, refl, sym, ap, subst, ◌∙◌, arith, append_assoc, length-append}
use Rattle.std.specs.List.{AllByRecursion}
use Rattle.std.specs.List.Sorted.{IsSortedByKey, IsStableByKey}
use Rattle.std.specs.Ordering.{nat_cmp}
use Rattle.std.proofs.lemmas.List.{get_or_default, take_all}
use Rattle.rowed.specs.declared.wire.Wire.{Wire}
use Rattle.sorting.specs.Sorting.{by_key, put_by, Rising, EachPair}
use Rattle.sorting.proofs.SortingLaws.{by_key_from_sort}
use Rattle.channel_route.specs.declared.order.Numbered.{Numbered}
use Rattle.channel_route.specs.Code.Numbered.{numbered, low_of, ordered}
use Rattle.channel_route.specs.Crossing.{low}
use Rattle.channel_route.specs.Code.Assigned.{wires_of}

-- sorting commutes with the map to wires
wires-put : (one : Numbered) (ones : List Numbered)
    → wires_of (put_by low_of one ones) ≡ put_by low one.wire (wires_of ones)
wires-put one [] = refl
wires-put one (v ∷ ones) = go (leb (low_of one) (low_of v)) refl (wires-put one ones)
  where
    go : (b : Bool) → leb (low_of one) (low_of v) ≡ b
        → wires_of (put_by low_of one ones) ≡ put_by low one.wire (wires_of ones)
        → wires_of (put_by low_of one (v ∷ ones)) ≡ put_by low one.wire (wires_of (v ∷ ones))
    go true q r = rw q refl
    go false q r = rw q (ap (λ (l : List Wire). v.wire ∷ l) r)

wires-by_key : (ones : List Numbered) → wires_of (by_key low_of ones) ≡ by_key low (wires_of ones)
wires-by_key [] = refl
wires-by_key (v ∷ ones) = wires-put v (by_key low_of ones) ∙ ap (put_by low v.wire) (wires-by_key ones)

wires-numbered : (n : ℕ) (ws : List Wire) → wires_of (numbered n ws) ≡ ws
wires-numbered n [] = refl
wires-numbered n (w ∷ ws) = ap (λ (l : List Wire). w ∷ l) (wires-numbered (suc n) ws)

pub length-numbered : (n : ℕ) (ws : List Wire) → length (numbered n ws) ≡ length ws
length-numbered n [] = refl
length-numbered n (w ∷ ws) = ap suc (length-numbered (suc n) ws)

pub ordered_wires : (ws : List Wire) → wires_of (ordered ws) ≡ by_key low ws
ordered_wires ws = wires-by_key (numbered 0 ws) ∙ ap (by_key low) (wires-numbered 0 ws)

-- the numbers are distinct, and below the number of wires
pub numbers_from : (n m : ℕ) (ws : List Wire) → n + length ws ≤ m
    → AllByRecursion (λ one. one.number < m) (numbered n ws)
numbers_from n m [] le = tt
numbers_from n m (w ∷ ws) le = (omega (arith, le), numbers_from (suc n) m ws (omega (arith, le)))

numbers_above : (n k : ℕ) (w : Wire) (ws : List Wire) → n < k
    → AllByRecursion (λ one. n ≡ one.number → ⊥) (numbered k ws)
numbers_above n k w [] lt = tt
numbers_above n k w (v ∷ ws) lt = ((λ e. omega (arith, e, lt)), numbers_above n (suc k) w ws (omega (arith, lt)))

pub numbers_apart : (n : ℕ) (ws : List Wire) → EachPair (λ v w. v.number ≡ w.number → ⊥) (numbered n ws)
numbers_apart n [] = tt
numbers_apart n (w ∷ ws) = (numbers_above n (suc n) w ws (omega arith), numbers_apart (suc n) ws)

pub rising_ones : (b : ℕ) (ones : List Numbered) → Rising low b (wires_of ones) → Rising low_of b ones
rising_ones b [] r = tt
rising_ones b (v ∷ ones) r = (r.0, rising_ones (low_of v + 1) ones r.1)

-- each numbered wire is the wire of its number
pub own_wires : (n : ℕ) (front ws : List Wire) → length front ≡ n
    → AllByRecursion (λ one. (d : Wire) → get_or (front ++ ws) one.number d ≡ one.wire) (numbered n ws)
own_wires n front [] len = tt
own_wires n front (w ∷ ws) len = (
  (λ d. at front n len d),
  subst (λ (l : List Wire). AllByRecursion (λ one. (d : Wire) → get_or l one.number d ≡ one.wire) (numbered (suc n) ws))
      (append_assoc front (w ∷ []) ws) (own_wires (suc n) (front ++ w ∷ []) ws
      (simp length-append (omega (arith, len)))),
)
  where
    at : (front : List Wire) (n : ℕ) → length front ≡ n → (d : Wire) → get_or (front ++ w ∷ ws) n d ≡ w
    at [] n len d = let e : n ≡ 0 = sym len in rw e refl
    at (v ∷ front) zero len d = absurd (omega (arith, len))
    at (v ∷ front) (suc n) len d = at front n (omega (arith, len)) d

pub number_of : (n : ℕ) (ws : List Wire) (k : ℕ) (d : Numbered) → k < length ws
    → (get_or (numbered n ws) k d).number ≡ n + k
number_of n [] k d lt = absurd (omega arith)
number_of n (w ∷ ws) zero d lt = omega arith
number_of n (w ∷ ws) (suc k) d lt = omega (arith, number_of (suc n) ws k d (omega arith))

-- one wire more
numbered_more : (n k : ℕ) (ws : List Wire) (w : Wire) → k < length ws → w ≡ get_or ws k w
    → numbered n (take k ws) ++ record { wire = w; number = n + k } ∷ [] ≡ numbered n (take (suc k) ws)
numbered_more n k [] w lt is = absurd (omega arith)
numbered_more n zero (v ∷ ws) w lt is = let e : n + 0 ≡ n = omega arith in rw (e, is) refl
numbered_more n (suc k) (v ∷ ws) w lt is = let e : n + suc k ≡ suc n + k = omega arith in
    rw e (ap (λ (l : List Numbered). record { wire = v; number = n } ∷ l)
    (numbered_more (suc n) k ws w (omega arith) is))

pub numbered_push : (ws : List Wire) (k : ℕ) (items new : List Numbered) (d : Wire) → k < length ws
    → items ≡ numbered 0 (take k ws) → new ≡ items ++ record { wire = get_or ws k d; number = k } ∷ []
    → new ≡ numbered 0 (take (k + 1) ws)
numbered_push ws k items new d lt is now =
    let e : 0 + k ≡ k = omega arith in
    let h = numbered_more 0 k ws (get_or ws k d) lt (get_or_default ws k d (get_or ws k d) lt) in
    let h' : numbered 0 (take k ws) ++ record { wire = get_or ws k d; number = k } ∷ [] ≡ numbered 0 (take (suc k) ws) =
    subst (λ (m : ℕ). numbered 0 (take k ws) ++ record { wire = get_or ws k d; number = m } ∷ [] ≡ numbered 0
    (take (suc k) ws)) e h in
    let s : suc k ≡ k + 1 = omega arith in
    now ∙ ap (λ (l : List Numbered). l ++ record { wire = get_or ws k d; number = k } ∷ []) is ∙ h'
    ∙ ap (λ (m : ℕ). numbered 0 (take m ws)) s

pub sorted_low : (ws : List Wire) (k : ℕ) (items new : List Numbered) → items ≡ numbered 0 (take k ws) → length ws ≤ k
    → IsSortedByKey low_of nat_cmp new → IsStableByKey low_of nat_cmp items new → new ≡ ordered ws
sorted_low ws k items new is le sorted stable = by_key_from_sort low_of items new sorted stable
    ∙ ap (by_key low_of) (is ∙ ap (numbered 0) (take_all k ws le))
