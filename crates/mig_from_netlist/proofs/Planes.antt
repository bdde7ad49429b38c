-- The tables of planes and of covers.
use Rattle.std.specs.Prelude.{◌≡◌, ℕ, suc, ◌+◌, ◌<◌, ◌≤◌, ◌≢◌, ◌==◌, ◌&&◌, ◌||◌, ◌^◌, Bool, true, false, not, cond}
use Rattle.std.specs.Prelude.{List, [], ◌∷◌, length, drop, slice_index_or, bit_and, bit_or}
use Rattle.std.specs.List.{AllByRecursion}
use Rattle.std.specs.Int.{bit_not}
use Rattle.std.proofs.Common.{refl, sym, ap, ◌∙◌, subst, arith, w64, get_or, drop-cons, add-one}
use Rattle.std.proofs.lemmas.Bool.{ne_eqb}
use Rattle.std.proofs.lemmas.List.{drop_all}
use Rattle.blif_read.specs.Equations.{takes}
use Rattle.blif_read.specs.declared.netlist.Cube.{Cube}
use Rattle.blif_read.specs.declared.netlist.Def.{Def}
use Rattle.truth_tables.specs.Tables.{holds, mask, index}
use Rattle.mig_from_netlist.specs.Code.Covers.{takes_all, some_takes, cover, plane_at, some_at, cover_at}
use Rattle.mig_from_netlist.specs.Code.Covers.{HavePlanes}
use Rattle.truth_tables.proofs.Bits.{holds_and, holds_or, holds_not, holds_none, holds_mask, holds_index, index_below}

pub at_one : (x : Bool) → takes 49 x ≡ x
at_one true = refl
at_one false = refl

pub at_zero : (x : Bool) → takes 48 x ≡ not x
at_zero true = refl
at_zero false = refl

pub at_dash : (x : Bool) → takes 45 x ≡ true
at_dash true = refl
at_dash false = refl

pub at_other : (b : ℕ) (x : Bool) → b ≢ 45 → b ≢ 49 → b ≢ 48 → takes b x ≡ false
at_other b true p q r = ap (λ t. t || (b == 49)) (ne_eqb b 45 p) ∙ ne_eqb b 49 q
at_other b false p q r = ap (λ t. t || (b == 48)) (ne_eqb b 45 p) ∙ ne_eqb b 48 r

and_false : (a : Bool) → false ≡ (a && false)
and_false true = refl
and_false false = refl

-- one byte
pub one_narrows : (t m b p i : ℕ) → b ≡ 49 → m ≡ mask p → p < 6 → i < 64
    → holds (bit_and t m) i ≡ (holds t i && takes b (holds i p))
one_narrows t m b p i e is low lt =
    holds_and t m i
    ∙ ap (λ x. holds t i && x)
    (ap (λ n. holds n i) is ∙ holds_mask p i low lt ∙ sym (ap (λ c. takes c (holds i p)) e ∙ at_one (holds i p)))

pub zero_narrows : (t m b p i : ℕ) → b ≡ 48 → m ≡ mask p → m < 2 ^ 64 → p < 6 → i < 64
    → holds (bit_and t (bit_not w64 m)) i ≡ (holds t i && takes b (holds i p))
zero_narrows t m b p i e is fits low lt =
    holds_and t (bit_not w64 m) i
    ∙ ap (λ x. holds t i && x)
    (holds_not m i fits lt ∙ ap not (ap (λ n. holds n i) is ∙ holds_mask p i low lt)
    ∙ sym (ap (λ c. takes c (holds i p)) e ∙ at_zero (holds i p)))

pub other_narrows : (t b p i : ℕ) → b ≢ 45 → b ≢ 49 → b ≢ 48 → holds 0 i ≡ (holds t i && takes b (holds i p))
other_narrows t b p i x y z = holds_none i ∙ and_false (holds t i)
    ∙ ap (λ x. holds t i && x) (sym (at_other b (holds i p) x y z))

or_assoc : (a b c : Bool) → ((a || b) || c) ≡ (a || (b || c))
or_assoc true b c = refl
or_assoc false b c = refl

-- one more plane
pub one_plane : (cubes : List Cube) (k before one after i : ℕ) (c : Cube) → k < length cubes
    → (holds before i || some_at (drop k cubes) i) ≡ some_at cubes i
    → holds one i ≡ plane_at (get_or cubes k c).plane 0 i → after ≡ bit_or before one
    → (holds after i || some_at (drop (k + 1) cubes) i) ≡ some_at cubes i
one_plane cubes k before one after i c lt so_far is e =
    ap (λ j. holds after i || some_at (drop j cubes) i) (add-one k)
    ∙ ap (λ n. holds n i || some_at (drop (suc k) cubes) i) e
    ∙ ap (λ t. t || some_at (drop (suc k) cubes) i) (holds_or before one i ∙ ap (λ t. holds before i || t) is)
    ∙ or_assoc (holds before i) (plane_at (get_or cubes k c).plane 0 i) (some_at (drop (suc k) cubes) i)
    ∙ ap (λ cs. holds before i || some_at cs i) (sym (drop-cons cubes k c lt))
    ∙ so_far

-- the bits of the place of some values take what these values take
plane_takes : (bs : List ℕ) (ys xs : List Bool) (j : ℕ) → length bs ≤ length ys
    → ((k : ℕ) → k < length ys → slice_index_or xs (j + k) false ≡ slice_index_or ys k false)
    → plane_at bs j (index xs) ≡ takes_all bs ys
plane_takes [] ys xs j le at = refl
plane_takes (b ∷ bs) [] xs j le at = absurd (omega arith)
plane_takes (b ∷ bs) (y ∷ ys) xs j le at =
    let here : holds (index xs) j ≡ y = holds_index xs j
    ∙ ap (λ n. slice_index_or xs n false) (let e : j ≡ j + 0 = omega arith in e) ∙ at 0 (omega arith) in
    ap (λ t. takes b t && plane_at bs (suc j) (index xs)) here
    ∙ ap (λ t. takes b y && t)
    (plane_takes bs ys xs (suc j) (omega arith)
    (λ k lt. ap (λ n. slice_index_or xs n false) (let e : suc j + k ≡ j + suc k = omega arith in e)
    ∙ at (suc k) (omega arith)))

some_at_index : (cubes : List Cube) (xs : List Bool) → AllByRecursion (λ cube. length cube.plane ≤ length xs) cubes
    → some_at cubes (index xs) ≡ some_takes cubes xs
some_at_index [] xs fit = refl
some_at_index (c ∷ cs) xs fit =
    ap (λ t. t || some_at cs (index xs))
    (plane_takes c.plane xs xs 0 fit.0
    (λ k lt. ap (λ n. slice_index_or xs n false) (let e : 0 + k ≡ k = omega arith in e)))
    ∙ ap (λ t. takes_all c.plane xs || t) (some_at_index cs xs fit.1)

-- a cover at the place of some values
pub cover_at_index : (def : Def) (xs : List Bool) → AllByRecursion (λ cube. length cube.plane ≤ length xs) def.cubes
    → cover_at def (index xs) ≡ cover def xs
cover_at_index def xs fit = ap (λ t. cond def.on t (not t)) (some_at_index def.cubes xs fit)

-- all planes
pub all_planes : (def : Def) (cubes : List Cube) (k table i : ℕ) → cubes ≡ def.cubes → length cubes ≤ k
    → (holds table i || some_at (drop k def.cubes) i) ≡ some_at def.cubes i → holds table i ≡ some_at def.cubes i
all_planes def cubes k table i e past so_far =
    or_false (holds table i)
    ∙ ap (λ cs. holds table i || some_at cs i) (sym (drop_all k def.cubes (subst (λ cs. length cs ≤ k) e past)))
    ∙ so_far
  where
    or_false : (a : Bool) → a ≡ (a || false)
    or_false true = refl
    or_false false = refl

pub of_on : (def : Def) (table i : ℕ) → def.on ≡ true → holds table i ≡ some_at def.cubes i
    → holds table i ≡ cover_at def i
of_on def table i on is = is ∙ ap (λ b. cond b (some_at def.cubes i) (not (some_at def.cubes i))) (sym on)

pub of_off : (def : Def) (table i : ℕ) → def.on ≡ false → table < 2 ^ 64 → i < 64 → holds table i ≡ some_at def.cubes i
    → holds (bit_not w64 table) i ≡ cover_at def i
of_off def table i off fits lt is =
    holds_not table i fits lt ∙ ap not is ∙ ap (λ b. cond b (some_at def.cubes i) (not (some_at def.cubes i))) (sym off)

narrow : (n k : ℕ) (cubes : List Cube) → n ≤ k → HavePlanes n cubes
    → AllByRecursion (λ cube. length cube.plane ≤ k) cubes
narrow n k [] le h = tt
narrow n k (c ∷ cs) le h = ((let e = h.0 in omega arith), narrow n k cs le h.1)

-- the table of a cover at the values of literals
pub table_value : (def : Def) (table n : ℕ) (xs : List Bool) → n ≡ length xs → n ≤ 6 → HavePlanes n def.cubes
    → ((i : ℕ) → i < 64 → holds table i ≡ cover_at def i)
    → holds table (index xs) ≡ cover def xs
table_value def table n xs e few planes is =
    is (index xs) (index_below xs (subst (λ k. k ≤ 6) e few))
    ∙ cover_at_index def xs (narrow n (length xs) def.cubes (let z = e in omega arith) planes)
