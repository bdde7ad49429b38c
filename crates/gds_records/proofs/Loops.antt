-- From a structure in a loop of references, and from one above it, chains of any length go down; so where no chain is
-- too long, no structure is in a loop.
use Rattle.std.proofs.Common.{◌≡◌, ℕ, zero, suc, List, [], ◌∷◌, Bool, true, false, ◌||◌, Option, Some, None}
use Rattle.std.proofs.Common.{refl, sym, ap, ◌∙◌}
use Rattle.gds_records.specs.Records.{same}
use Rattle.gds_records.specs.Whole.{Use, Outline}
use Rattle.gds_records.specs.WideWhole.{uses_by, some_use, goes_down, first_long}
use Rattle.gds_records.specs.Loops.{References, IsWay}
use Rattle.gds_records.proofs.Wider.{same_so}

or_either : (a b c d : Bool) → (a ≡ true → c ≡ true) → (b ≡ true → d ≡ true) → (a || b) ≡ true → (c || d) ≡ true
or_either a b true d f g e = refl
or_either true b false d f g e = absurd (let h : false ≡ true = f refl in cc)
or_either false b false d f g e = g e

some_more : (p q : List ℕ → Bool) → ((n : List ℕ) → p n ≡ true → q n ≡ true) → (us : List Use)
    → some_use p us ≡ true → some_use q us ≡ true
some_more p q f [] e = absurd cc
some_more p q f (u ∷ us) e = or_either (p u.name) (some_use p us) (q u.name) (some_use q us) (f u.name)
    (some_more p q f us) e

shorter : (k : ℕ) (ss : List Outline) (name : List ℕ) → goes_down (suc k) ss name ≡ true → goes_down k ss name ≡ true
shorter zero ss name e = refl
shorter (suc k) ss name e = some_more (goes_down (suc k) ss) (goes_down k ss) (shorter k ss) (uses_by name ss) e

-- one reference before a chain makes a longer one
below : (k : ℕ) (ss : List Outline) (from to : List ℕ) → References ss from to → goes_down k ss to ≡ true
    → goes_down (suc k) ss from ≡ true
below k ss from to r d = some_more (λ name. same name to) (goes_down k ss)
    (λ name e. ap (λ (x : List ℕ). goes_down k ss x) (same_so name to e) ∙ d) (uses_by from ss) r

-- and so does a whole way
behind : (k : ℕ) (ss : List Outline) (from : List ℕ) (names : List (List ℕ)) (to : List ℕ) → IsWay ss from names to
    → goes_down k ss to ≡ true → goes_down (suc k) ss from ≡ true
behind k ss from [] to way d = below k ss from to way d
behind k ss from (name ∷ names) to way d =
    below k ss from name way.0 (shorter k ss name (behind k ss name names to way.1 d))

round : (k : ℕ) (ss : List Outline) (name : List ℕ) (names : List (List ℕ)) → IsWay ss name names name
    → goes_down k ss name ≡ true
round zero ss name names way = refl
round (suc k) ss name names way = behind k ss name names name way (round k ss name names way)

pub endless : (k : ℕ) (ss : List Outline) (from : List ℕ) (above : List (List ℕ)) (name : List ℕ)
    (names : List (List ℕ)) → IsWay ss from above name → IsWay ss name names name → goes_down k ss from ≡ true
endless k ss from above name names down way =
    shorter k ss from (behind k ss from above name down (round k ss name names way))

-- ---- where no chain is too long

nothing_below : (all ss : List Outline) (name : List ℕ) → first_long all ss ≡ None → goes_down 65 all name ≡ true
    → uses_by name ss ≡ []
nothing_below all [] name n d = refl
nothing_below all (s ∷ ss) name n d = turn (goes_down 65 all s.name) (same name s.name) refl refl n
    (λ m. nothing_below all ss name m d)
  where
    turn : (long here : Bool) → goes_down 65 all s.name ≡ long → same name s.name ≡ here
        → (elim long as (λ (x : Bool). Option ℕ) [ true ↦ Some s.place | false ↦ first_long all ss ]) ≡ None
        → (first_long all ss ≡ None → uses_by name ss ≡ [])
        → (elim here as (λ (x : Bool). List Use) [ true ↦ s.uses | false ↦ uses_by name ss ]) ≡ []
    turn true here f g m later = absurd cc
    turn false true f g m later = absurd
        (let w : true ≡ false = sym d ∙ ap (λ (x : List ℕ). goes_down 65 all x) (same_so name s.name g) ∙ f in cc)
    turn false false f g m later = later m

references_none : (ss : List Outline) (from to : List ℕ) → uses_by from ss ≡ [] → References ss from to → ⊥
references_none ss from to e r =
    let w : false ≡ true = ap (λ (us : List Use). some_use (λ name. same name to) us) (sym e) ∙ r in cc

begins : (ss : List Outline) (from : List ℕ) (names : List (List ℕ)) (to : List ℕ) → IsWay ss from names to
    → uses_by from ss ≡ [] → ⊥
begins ss from [] to way e = references_none ss from to e way
begins ss from (name ∷ names) to way e = references_none ss from name e way.0

pub no_loop : (ss : List Outline) (name : List ℕ) (names : List (List ℕ)) → first_long ss ss ≡ None
    → IsWay ss name names name → ⊥
no_loop ss name names n way = begins ss name names name way
    (nothing_below ss ss name n (round 65 ss name names way))
