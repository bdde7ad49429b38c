-- The tests of keys and numbers tell what they are to tell.
use Rattle.std.proofs.Common.{◌≡◌, ◌+◌, ◌<◌, ℕ, zero, suc, List, [], ◌∷◌, Bool, true, false, Option, Some, None}
use Rattle.std.proofs.Common.{length, get_or, refl, sym, ap, ◌∙◌, subst, arith, inl, inr}
use Rattle.std.specs.Prelude.{◌&&◌, ◌⊎◌, ◌≢◌, slice_get, slice_index_or, slice_set, replicate}
use Rattle.std.proofs.lemmas.Bool.{and_parts, eqb-true, eq-eqb, cases_eq}
use Rattle.std.proofs.lemmas.List.{length-set, length-replicate}
use Rattle.std.proofs.lemmas.Option.{same_Some, none-some, slice_get_within}
use Rattle.placement_check.specs.Numbering.{AreDistinct, IsNumbering}
use Rattle.placement_check.specs.Code.Numbering.{put, put_all, places, is_number, is_at, are_at, are_there}
use Rattle.placement_check.specs.Code.Numbering.{are_distinct, is_numbering}

pub both : (a b : Bool) → a ≡ true → b ≡ true → (a && b) ≡ true
both true b p q = q
both false b p q = absurd (cc)

number_is : (n : ℕ) (o : Option ℕ) → is_number n o ≡ true → o ≡ Some n
number_is n None e = absurd (cc)
number_is n (Some m) e = ap Some (eqb-true m n e)

is_the_number : (n : ℕ) (o : Option ℕ) → o ≡ Some n → is_number n o ≡ true
is_the_number n None e = absurd (none-some n e)
is_the_number n (Some m) e = eq-eqb m n (same_Some m n e)

-- what a table holds after keys are put into it

set_there : (table : List ℕ) (i value : ℕ) → i < length table → slice_get (slice_set table i value) i ≡ Some value
set_there [] i value lt = absurd (omega arith)
set_there (x ∷ table) zero value lt = refl
set_there (x ∷ table) (suc i) value lt = set_there table i value (omega arith)

set_apart : (table : List ℕ) (i j value : ℕ) → i ≢ j → slice_get (slice_set table i value) j ≡ slice_get table j
set_apart [] i j value other = refl
set_apart (x ∷ table) zero zero value other = absurd (other refl)
set_apart (x ∷ table) zero (suc j) value other = refl
set_apart (x ∷ table) (suc i) zero value other = refl
set_apart (x ∷ table) (suc i) (suc j) value other = set_apart table i j value (λ e. other (ap suc e))

put_there : (table : List ℕ) (o : Option ℕ) (place at : ℕ) → o ≡ Some at → at < length table
    → slice_get (put table o place) at ≡ Some place
put_there table None place at e lt = absurd (none-some at e)
put_there table (Some k) place at e lt =
    ap (λ (j : ℕ). slice_get (slice_set table j place) at) (same_Some k at e) ∙ set_there table at place lt

put_apart : (table : List ℕ) (o : Option ℕ) (place at : ℕ) → (o ≡ Some at → ⊥)
    → slice_get (put table o place) at ≡ slice_get table at
put_apart table None place at ne = refl
put_apart table (Some k) place at ne = set_apart table k at place (λ e. ne (ap Some e))

put_long : (table : List ℕ) (o : Option ℕ) (place : ℕ) → length (put table o place) ≡ length table
put_long table None place = refl
put_long table (Some k) place = length-set table k place

put_all_long : (table : List ℕ) (place : ℕ) (keys : List (Option ℕ)) → length (put_all table place keys) ≡ length table
put_all_long table place [] = refl
put_all_long table place (key ∷ keys) = put_all_long (put table key place) (place + 1) keys ∙ put_long table key place

places_long : (bound : ℕ) (keys : List (Option ℕ)) → length (places bound keys) ≡ bound
places_long bound keys =
    let none = replicate {A = ℕ} bound 0 in
    put_all_long none 0 keys ∙ length-replicate bound 0

has_key : (o : Option ℕ) (at : ℕ) → (o ≡ Some at) ⊎ (o ≡ Some at → ⊥)
has_key None at = inr (λ e. none-some at e)
has_key (Some k) at = elim (cases_eq k at) [ inl e ↦ inl (ap Some e) | inr ne ↦ inr (λ e. ne (same_Some k at e)) ]

-- one of the keys from a place on, and the place that the table has of it
record Found (keys : List (Option ℕ)) (place at : ℕ) (table : List ℕ) : Type 0 where
  which : ℕ
  there : slice_get keys which ≡ Some (Some at)
  is : slice_get table at ≡ Some (place + which)

found_next : (key : Option ℕ) (keys : List (Option ℕ)) (place at : ℕ) (table : List ℕ)
    → Found keys (place + 1) at table → Found (key ∷ keys) place at table
found_next key keys place at table found = record {
  which = suc found.which;
  there = found.there;
  is = found.is ∙ ap Some (let e : place + 1 + found.which ≡ place + suc found.which = omega arith in e);
}

found_here : (key : Option ℕ) (keys : List (Option ℕ)) (place at : ℕ) (table more : List ℕ) → key ≡ Some at
    → at < length table
    → slice_get more at ≡ slice_get (put table key place) at → Found (key ∷ keys) place at more
found_here key keys place at table more e lt same = record {
  which = 0;
  there = ap Some e;
  is = same ∙ put_there table key place at e lt ∙ ap Some (let h : place ≡ place + 0 = omega arith in h);
}

either_of : (table : List ℕ) (place : ℕ) (keys : List (Option ℕ)) (at : ℕ) → at < length table
    → (slice_get (put_all table place keys) at ≡ slice_get table at) ⊎ Found keys place at (put_all table place keys)
either_of table place [] at lt = inl refl
either_of table place (key ∷ keys) at lt =
    let within : at < length (put table key place) = omega (arith, lt, put_long table key place) in
    let more = put_all (put table key place) (place + 1) keys in
    elim (either_of (put table key place) (place + 1) keys at within) [
      | inr found ↦ inr (found_next key keys place at more found)
      | inl same ↦ elim (has_key key at) [
        | inl e ↦ inr (found_here key keys place at table more e lt same)
        | inr ne ↦ inl (same ∙ put_apart table key place at ne)
      ]
    ]

all_found : (table : List ℕ) (place : ℕ) (keys : List (Option ℕ)) (c at : ℕ) → slice_get keys c ≡ Some (Some at)
    → at < length table
    → Found keys place at (put_all table place keys)
all_found table place [] c at e lt = absurd (none-some (Some at) e)
all_found table place (key ∷ keys) zero at e lt =
    let within : at < length (put table key place) = omega (arith, lt, put_long table key place) in
    let more = put_all (put table key place) (place + 1) keys in
    elim (either_of (put table key place) (place + 1) keys at within) [
      | inr found ↦ found_next key keys place at more found
      | inl same ↦ found_here key keys place at table more (same_Some key (Some at) e) lt same
    ]
all_found table place (key ∷ keys) (suc c) at e lt =
    let within : at < length (put table key place) = omega (arith, lt, put_long table key place) in
    found_next key keys place at (put_all (put table key place) (place + 1) keys)
    (all_found (put table key place) (place + 1) keys c at e within)

found_in : (bound : ℕ) (keys : List (Option ℕ)) (c at : ℕ) → slice_get keys c ≡ Some (Some at) → at < bound
    → Found keys 0 at (places bound keys)
found_in bound keys c at e lt =
    let none = replicate {A = ℕ} bound 0 in
    let long : length none ≡ bound = length-replicate bound 0 in
    all_found none 0 keys c at e (omega (arith, lt, long))

-- keys that stand where a table tells

at_place : (table : List ℕ) (place : ℕ) (keys : List (Option ℕ)) → are_at table place keys ≡ true → (c k : ℕ)
    → slice_get keys c ≡ Some (Some k) → slice_get table k ≡ Some (place + c)
at_place table place [] e c k there = absurd (none-some (Some k) there)
at_place table place (x ∷ keys) e zero k there =
    let first = (and_parts (is_at table place x) (are_at table (place + 1) keys) e).0 in
    let here : x ≡ Some k = same_Some x (Some k) there in
    let same : place ≡ place + 0 = omega arith in
    subst (λ (m : ℕ). slice_get table k ≡ Some m) same
    (number_is place (slice_get table k) (subst (λ (o : Option ℕ). is_at table place o ≡ true) here first))
at_place table place (x ∷ keys) e (suc c) k there =
    let more = (and_parts (is_at table place x) (are_at table (place + 1) keys) e).1 in
    let same : place + 1 + c ≡ place + suc c = omega arith in
    subst (λ (m : ℕ). slice_get table k ≡ Some m) same (at_place table (place + 1) keys more c k there)

at_from : (table : List ℕ) (place : ℕ) (keys : List (Option ℕ))
    → ((c k : ℕ) → slice_get keys c ≡ Some (Some k) → slice_get table k ≡ Some (place + c))
    → are_at table place keys ≡ true
at_from table place [] each = refl
at_from table place (x ∷ keys) each =
    both (is_at table place x) (are_at table (place + 1) keys) (first x (λ k e. each 0 k (ap Some e)))
    (at_from table (place + 1) keys
    (λ c k e. each (suc c) k e ∙ ap Some (let h : place + suc c ≡ place + 1 + c = omega arith in h)))
  where
    first : (o : Option ℕ) → ((k : ℕ) → o ≡ Some k → slice_get table k ≡ Some (place + 0)) → is_at table place o ≡ true
    first None here = refl
    first (Some k) here = is_the_number place (slice_get table k)
        (here k refl ∙ ap Some (let h : place + 0 ≡ place = omega arith in h))

pub distinct_keys : (bound : ℕ) (keys : List (Option ℕ)) → are_distinct bound keys ≡ true → AreDistinct bound keys
distinct_keys bound keys e = record {
  below = λ c k is. omega (
    arith,
    places_long bound keys,
    slice_get_within (places bound keys) k (0 + c) (at_place (places bound keys) 0 keys e c k is),
  );
  apart = λ c d k p q.
      let one = same_Some (0 + c) (0 + d)
      (sym (at_place (places bound keys) 0 keys e c k p) ∙ at_place (places bound keys) 0 keys e d k q) in
      omega (arith, one);
}

pub test_distinct : (bound : ℕ) (keys : List (Option ℕ)) → AreDistinct bound keys → are_distinct bound keys ≡ true
test_distinct bound keys known = at_from (places bound keys) 0 keys (λ c k e.
    let found = found_in bound keys c k e (known.below c k e) in
    found.is ∙ ap (λ (d : ℕ). Some (0 + d)) (known.apart found.which c k found.there e))

-- numbers

read_there : (numbers : List (Option ℕ)) (place n : ℕ) → slice_index_or numbers place None ≡ Some n
    → slice_get numbers place ≡ Some (Some n)
read_there [] place n e = absurd (none-some n e)
read_there (x ∷ numbers) zero n e = ap Some e
read_there (x ∷ numbers) (suc place) n e = read_there numbers place n e

there_read : (numbers : List (Option ℕ)) (place n : ℕ) → slice_get numbers place ≡ Some (Some n)
    → slice_index_or numbers place None ≡ Some n
there_read [] place n e = absurd (none-some (Some n) e)
there_read (x ∷ numbers) zero n e = same_Some x (Some n) e
there_read (x ∷ numbers) (suc place) n e = there_read numbers place n e

there_at : (numbers : List (Option ℕ)) (n : ℕ) (table : List ℕ) → are_there numbers n table ≡ true → (i : ℕ)
    → i < length table
    → slice_get numbers (get_or table i 0) ≡ Some (Some (n + i))
there_at numbers n [] e i lt = absurd (omega arith)
there_at numbers n (p ∷ table) e zero lt =
    let first = (and_parts (is_number n (slice_index_or numbers p None)) (are_there numbers (n + 1) table) e).0 in
    let same : n ≡ n + 0 = omega arith in
    subst (λ (m : ℕ). slice_get numbers p ≡ Some (Some m)) same (read_there numbers p n (number_is n _ first))
there_at numbers n (p ∷ table) e (suc i) lt =
    let more = (and_parts (is_number n (slice_index_or numbers p None)) (are_there numbers (n + 1) table) e).1 in
    let same : n + 1 + i ≡ n + suc i = omega arith in
    subst (λ (m : ℕ). slice_get numbers (get_or table i 0) ≡ Some (Some m)) same
    (there_at numbers (n + 1) table more i (omega arith))

there_from : (numbers : List (Option ℕ)) (n : ℕ) (table : List ℕ)
    → ((i : ℕ) → i < length table → slice_get numbers (get_or table i 0) ≡ Some (Some (n + i)))
    → are_there numbers n table ≡ true
there_from numbers n [] each = refl
there_from numbers n (p ∷ table) each =
    let here : slice_get numbers p ≡ Some (Some n) = each 0 (omega arith)
    ∙ ap (λ (m : ℕ). Some (Some m)) (let h : n + 0 ≡ n = omega arith in h) in
    both (is_number n (slice_index_or numbers p None)) (are_there numbers (n + 1) table)
    (is_the_number n (slice_index_or numbers p None) (there_read numbers p n here))
    (there_from numbers (n + 1) table
    (λ i lt. each (suc i) (omega arith)
    ∙ ap (λ (m : ℕ). Some (Some m)) (let h : n + suc i ≡ n + 1 + i = omega arith in h)))

pub numbering : (count : ℕ) (numbers : List (Option ℕ)) → is_numbering count numbers ≡ true → IsNumbering count numbers
numbering count numbers e =
    let table = places count numbers in
    let long = places_long count numbers in
    let parts = and_parts (are_at table 0 numbers) (are_there numbers 0 table) e in
    let distinct = distinct_keys count numbers parts.0 in
    record {
      below = distinct.below;
      each = λ i lt.
          let there = subst (λ (m : ℕ). slice_get numbers (get_or table i 0) ≡ Some (Some m))
          (let h : 0 + i ≡ i = omega arith in h)
          (there_at numbers 0 table parts.1 i (omega (arith, lt, long))) in
          record {
            which = get_or table i 0;
            there = there;
            only = λ c e. distinct.apart c (get_or table i 0) i e there;
          };
    }

numbers_distinct : (count : ℕ) (numbers : List (Option ℕ)) → IsNumbering count numbers → AreDistinct count numbers
numbers_distinct count numbers known = record {
  below = known.below;
  apart = λ c d k p q.
      let one = known.each k (known.below c k p) in
      one.only c p ∙ sym (one.only d q);
}

got : (table : List ℕ) (i x : ℕ) → slice_get table i ≡ Some x → get_or table i 0 ≡ x
got [] i x e = absurd (none-some x e)
got (y ∷ table) zero x e = same_Some y x e
got (y ∷ table) (suc i) x e = got table i x e

pub test_numbering : (count : ℕ) (numbers : List (Option ℕ)) → IsNumbering count numbers
    → is_numbering count numbers ≡ true
test_numbering count numbers known =
    let table = places count numbers in
    let long = places_long count numbers in
    both (are_at table 0 numbers) (are_there numbers 0 table)
    (test_distinct count numbers (numbers_distinct count numbers known))
    (there_from numbers 0 table (λ i lt.
    let below : i < count = omega (arith, lt, long) in
    let one = known.each i below in
    let found = found_in count numbers one.which i one.there below in
    let at : get_or table i 0 ≡ found.which = got table i (0 + found.which) found.is
    ∙ (let h : 0 + found.which ≡ found.which = omega arith in h) in
    ap (slice_get numbers) at ∙ found.there ∙ ap (λ (m : ℕ). Some (Some m)) (let h : i ≡ 0 + i = omega arith in h)))
