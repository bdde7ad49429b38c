-- The numbers of a design's outputs: where the wires of the first model itself stand among all.
use Rattle.std.proofs.Common.{◌≡◌, ℕ, suc, ◌+◌, ◌<◌, ◌≤◌, ◌⊎◌, inl, inr, Bool, true, false, not, cond, List, [], ◌∷◌}
use Rattle.std.proofs.Common.{length, take, get_or, Bor, Some, None, refl, sym, ap, ◌∙◌, subst, arith, length-take}
use Rattle.std.specs.Prelude.{nat_lt}
use Rattle.std.specs.List.{position_or_len}
use Rattle.std.proofs.lemmas.Bool.{cases_lt, lt-ltb}
use Rattle.std.proofs.lemmas.Option.{none-some}
use Rattle.std.proofs.lemmas.List.{take_more}
use Rattle.blif_flat.specs.Expansion.{wire, number}
use Rattle.blif_flat.specs.declared.expansion.wires.Place.{Place}
use Rattle.blif_flat.specs.Code.Numbering.{number_in, number_or, IsNumbering}
use Rattle.blif_flat.specs.Code.Wired.{wires_of, is_own}
use Rattle.blif_flat.proofs.Numbering.{numbered_more}

-- one wire more
pub own_more : (places : List Place) (i : ℕ) (d : Place) (old new : List (Bor (List ℕ) × ℕ)) (number : ℕ)
    → i < length places → number ≡ i → IsNumbering is_own old (take i places)
    → ((t : List ℕ) → number_in new t ≡ number_or (number_in old t) (is_own t (get_or places i d)) number)
    → IsNumbering is_own new (take (i + 1) places)
own_more places i d old new number lt n h add =
    let size : number ≡ length (take i places) = n ∙ sym (omega (arith, lt, length-take i places)) in
    subst (IsNumbering is_own new) (sym (take_more places i d lt))
    (numbered_more is_own old new (take i places) (get_or places i d) number h size add)

place_or : (n m k : ℕ) → cond (nat_lt n m) (Some n) None ≡ Some k → k ≡ n
place_or n m k e = by (nat_lt n m) e
  where
    by : (b : Bool) → cond b (Some n) None ≡ Some k → k ≡ n
    by true f = cc
    by false f = absurd (cc)

own_places : (t : List ℕ) (places : List Place)
    → position_or_len (is_own t) places ≡ number (wires_of places) (wire 0 t)
own_places t [] = refl
own_places t (p ∷ places) = ap (λ n. cond (not (is_own t p)) (1 + n) 0) (own_places t places)

-- the number of a name, and of none
pub own_number_some : (entries : List (Bor (List ℕ) × ℕ)) (places : List Place) (t : List ℕ) (k : ℕ)
    → IsNumbering is_own entries places → number_in entries t ≡ Some k → k ≡ number (wires_of places) (wire 0 t)
own_number_some entries places t k is some =
    place_or (position_or_len (is_own t) places) (length places) k (sym (is t) ∙ some) ∙ own_places t places

past : (n m : ℕ) → n ≤ m → cond (nat_lt n m) (Some n) None ≡ None → m ≡ n
past n m le e = by (cases_lt n m)
  where
    by : (n < m) ⊎ (m ≤ n) → m ≡ n
    by (inl lt) = absurd (none-some n (sym e ∙ ap (λ b. cond b (Some n) None) (lt-ltb n m lt)))
    by (inr ge) = omega (arith, le, ge)

place_fits : (t : List ℕ) (places : List Place) → position_or_len (is_own t) places ≤ length places
place_fits t [] = omega arith
place_fits t (p ∷ places) = by (is_own t p) (place_fits t places)
  where
    by : (b : Bool) → position_or_len (is_own t) places ≤ length places
        → cond (not b) (1 + position_or_len (is_own t) places) 0 ≤ suc (length places)
    by true h = omega arith
    by false h = omega (arith, h)

pub own_number_none : (entries : List (Bor (List ℕ) × ℕ)) (places : List Place) (t : List ℕ) (count : ℕ)
    → IsNumbering is_own entries places → number_in entries t ≡ None → count ≡ length places
    → count ≡ number (wires_of places) (wire 0 t)
own_number_none entries places t count is none size =
    size ∙ past (position_or_len (is_own t) places) (length places) (place_fits t places) (sym (is t) ∙ none)
    ∙ own_places t places
