-- Lemmas on orders of numbers and the lists of their places.
use Rattle.std.proofs.Common.{◌≡◌, ◌≢◌, ℕ, zero, suc, ◌+◌, ◌<◌, ◌≤◌, List, [], ◌∷◌, true, false, length, drop}
use Rattle.std.proofs.Common.{replicate, get_or, refl, sym, ◌∙◌, ap, subst, inl, inr, arith, eqb, set, get_or-set_other}
use Rattle.std.proofs.Common.{get_or-set_same, drop-cons, add-one, ◌⊎◌}
use Rattle.std.specs.List.{AllByRecursion}
use Rattle.std.proofs.lemmas.Bool.{cases_lt, cases_eq, eq-eqb, ne_eqb}
use Rattle.std.proofs.lemmas.List.{drop_all, get_or-replicate, length-replicate, length-set, get_or_past}
use Rattle.sorting.specs.Numbers.{numbers, place_of}
use Rattle.sorting.specs.Numbers.{IsInverse}

pub numbers_below : (n count bound : ℕ) → n + count ≤ bound → AllByRecursion (λ c. c < bound) (numbers n count)
numbers_below n zero bound le = tt
numbers_below n (suc count) bound le = (omega arith, numbers_below (suc n) count bound (omega arith))

-- a number that is not in the list has the list's length as its place
pub place_of_absent : (old : List ℕ) (bound c : ℕ) → AllByRecursion (λ n. n < bound) old → bound ≤ c
    → place_of old c ≡ length old
place_of_absent [] bound c below le = refl
place_of_absent (n ∷ ns) bound c below le =
    let no : eqb n c ≡ false = ne_eqb n c (λ e. absurd (omega (arith, e, below.0))) in
    rw no (ap suc (place_of_absent ns bound c below.1 le))

-- the places of the numbers of a list's end are known
pub record Known (order places : List ℕ) (left : ℕ) : Type 0 where
  pub low : left ≤ length order
  pub long : length places ≡ length order
  pub same : (c : ℕ) → c < length order → get_or places c (length order) ≡ left + place_of (drop left order) c

pub known_at_end : (order places : List ℕ) (n count : ℕ) → n ≡ length order → count ≡ length order
    → places ≡ replicate n count → Known order places n
known_at_end order places n count e f write = record {
  low = omega (arith, e);
  long = ap length write ∙ length-replicate n count ∙ e;
  same = λ c lt.
      let none : drop n order ≡ [] = drop_all n order (omega (arith, e)) in
      let read : get_or places c (length order) ≡ count = rw write
      (get_or-replicate n c count (length order) (omega (arith, e, lt))) in
      rw none (omega (arith, read, f, e));
}

-- one more place is known
pub known_more : (order places places' : List ℕ) (left next number : ℕ) → left ≡ next + 1
    → number ≡ get_or order next number → places' ≡ set places number next → number < length order
    → Known order places left → Known order places' next
known_more order places places' left next number e read write below known =
    let low : next < length order = omega (arith, e, known.low) in
    record {
      low = omega (arith, low);
      long = ap length write ∙ length-set places number next ∙ known.long;
      same = λ c lt.
          let here : drop next order ≡ number ∷ drop (suc next) order = rw (← read) at
          (drop-cons order next number low) in
          rw (write, here) (go c lt (cases_eq number c));
    }
  where
    at_left : (c : ℕ) → c < length order
        → get_or places c (length order) ≡ suc next + place_of (drop (suc next) order) c
    at_left c lt = let P : ℕ → Type 0 = λ n. get_or places c (length order) ≡ n + place_of (drop n order) c in subst P
        (e ∙ add-one next) (known.same c lt)

    go : (c : ℕ) → c < length order → (number ≡ c) ⊎ (number ≡ c → ⊥)
        → get_or (set places number next) c (length order) ≡ next + place_of (number ∷ drop (suc next) order) c
    go c lt (inl q) =
        let yes : eqb number c ≡ true = eq-eqb number c q in
        let within : number < length places = omega (arith, below, known.long) in
        let P : ℕ → Type 0 = λ k. get_or (set places number next) k (length order) ≡ next in
        let got : get_or (set places number next) c (length order) ≡ next = subst P q
        (get_or-set_same places number next (length order) within) in
        rw yes (omega (arith, got))
    go c lt (inr ne) =
        let no : eqb number c ≡ false = ne_eqb number c ne in
        let apart : c ≢ number = λ q. ne (sym q) in
        let got : get_or (set places number next) c (length order) ≡ get_or places c (length order) =
        get_or-set_other places number c next (length order) apart in
        rw no (omega (arith, got, at_left c lt))

pub known_all : (order places : List ℕ) (left : ℕ) → left ≡ 0 → AllByRecursion (λ c. c < length order) order
    → Known order places left → IsInverse places order
known_all order places left e below known c = elim (cases_lt c (length order)) [
  | inl lt ↦
      let P : ℕ → Type 0 = λ n. get_or places c n ≡ get_or places c (length order) in
      let Q : ℕ → Type 0 = λ n. get_or places c (length order) ≡ n + place_of (drop n order) c in
      let here : get_or places c (length order) ≡ 0 + place_of order c = subst Q e (known.same c lt) in
      let same : get_or places c (length places) ≡ get_or places c (length order) = subst P (sym known.long) refl in
      omega (arith, same, here)
  | inr ge ↦
      get_or_past places c (length places) (omega (arith, ge, known.long)) ∙ known.long
      ∙ sym (place_of_absent order (length order) c below ge)
]
