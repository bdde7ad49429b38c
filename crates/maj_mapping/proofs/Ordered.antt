-- What the mapping uses of a netlist: definitions name signals, planes are planes, and each signal has a rank, at most
-- the number of signals, above the ranks of those that it reads.
use Rattle.std.specs.Prelude.{◌≡◌, ℕ, zero, suc, ◌+◌, ◌-◌, ◌<◌, ◌≤◌, Bool, true, false, cond, nat_lt, List, [], ◌∷◌}
use Rattle.std.specs.Prelude.{length, Some, slice_get}
use Rattle.std.specs.List.{AllByRecursion}
use Rattle.std.proofs.Common.{refl, sym, ap, ◌∙◌, subst, arith, inl, inr}
use Rattle.std.proofs.lemmas.Bool.{le-ltb, lt-ltb, ltb-true, cases_lt}
use Rattle.blif_read.specs.Parts.{NetView, operands, operands_at}
use Rattle.blif_read.specs.Netlist.{IsPlane, IsDef, IsNetlist}
use Rattle.blif_read.specs.declared.netlist.Cube.{Cube}
use Rattle.blif_read.specs.declared.netlist.Def.{Def}
use Rattle.maj_mapping.specs.Counts.{AllBelow}
use Rattle.maj_mapping.specs.Values.{HasPlanes}
use Rattle.maj_mapping.specs.Plan.{signals}

-- each of xs has a rank below k
abbrev pub RanksBelow : (ℕ → ℕ) → ℕ → List ℕ → Type 0
RanksBelow rank k xs = AllByRecursion (λ x. rank x < k) xs

pub record IsOrdered (net : NetView) : Type 0 where
  pub known : (k : ℕ) (d : Def) → slice_get net.defs k ≡ Some d → AllBelow (signals net) d.inputs
  pub planes : (k : ℕ) (d : Def) → slice_get net.defs k ≡ Some d → HasPlanes d.cubes
  pub shown : AllBelow (signals net) net.outputs
  pub rank : ℕ → ℕ
  pub falls : (k : ℕ) (d : Def) → slice_get net.defs k ≡ Some d → RanksBelow rank (rank (net.inputs + k)) d.inputs
  pub low : (s : ℕ) → rank s ≤ signals net

abbrev bit : Bool → ℕ
bit true = 1
bit false = 0

-- how many numbers below n pass a test
abbrev count : (ℕ → Bool) → ℕ → ℕ
count p zero = 0
count p (suc n) = count p n + bit (p n)

count_low : (p : ℕ → Bool) (n : ℕ) → count p n ≤ n
count_low p zero = omega arith
count_low p (suc n) = go (p n) (count_low p n)
  where
    go : (b : Bool) → count p n ≤ n → count p n + bit b ≤ suc n
    go true h = omega arith
    go false h = omega arith

bit_le : (a b : Bool) → (a ≡ true → b ≡ true) → bit a ≤ bit b
bit_le true true h = omega arith
bit_le true false h = absurd (let e : false ≡ true = h refl in cc)
bit_le false true h = omega arith
bit_le false false h = omega arith

count_le : (p q : ℕ → Bool) (n : ℕ) → ((k : ℕ) → p k ≡ true → q k ≡ true) → count p n ≤ count q n
count_le p q zero h = omega arith
count_le p q (suc n) h = omega (arith, count_le p q n h, bit_le (p n) (q n) (h n))

-- a number that passes the second test alone makes its count greater
count_lt : (p q : ℕ → Bool) (n d : ℕ) → ((k : ℕ) → p k ≡ true → q k ≡ true) → d < n → p d ≡ false
    → q d ≡ true → count p n < count q n
count_lt p q zero d h lt fails holds = absurd (omega arith)
count_lt p q (suc n) d h lt fails holds = elim (cases_lt d n) [
  | inl small ↦ omega (arith, count_lt p q n d h small fails holds, bit_le (p n) (q n) (h n))
  | inr large ↦
      let at : d ≡ n = omega arith in
      let a : bit (p n) ≡ 0 = ap (λ k. bit (p k)) (sym at) ∙ ap bit fails in
      let b : bit (q n) ≡ 1 = ap (λ k. bit (q k)) (sym at) ∙ ap bit holds in
      let c = count_le p q n h in
      omega arith
]

-- the number of signals of lower rank is a rank too, and at most the number of signals
abbrev lower : (ℕ → ℕ) → ℕ → ℕ → ℕ
lower rank total s = count (λ t. nat_lt (rank t) (rank s)) total

lower_falls : (rank : ℕ → ℕ) (total s d : ℕ) → d < total → rank d < rank s → lower rank total d < lower rank total s
lower_falls rank total s d within below =
    count_lt (λ t. nat_lt (rank t) (rank d)) (λ t. nat_lt (rank t) (rank s)) total d
    (λ k h. let le = ltb-true (rank k) (rank d) h in lt-ltb (rank k) (rank s) (omega arith))
    within (le-ltb (rank d) (rank d) (omega arith)) (lt-ltb (rank d) (rank s) below)

all_lower : (rank : ℕ → ℕ) (total s : ℕ) (xs : List ℕ) → AllBelow total xs → RanksBelow rank (rank s) xs
    → RanksBelow (lower rank total) (lower rank total s) xs
all_lower rank total s [] within below = tt
all_lower rank total s (x ∷ xs) within below =
    (lower_falls rank total s x within.0 below.0, all_lower rank total s xs within.1 below.1)

def_at : (P : Def → Type 0) (defs : List Def) (k : ℕ) (d : Def) → AllByRecursion P defs
    → slice_get defs k ≡ Some d → P d
def_at P [] k d all is = absurd (cc)
def_at P (x ∷ xs) zero d all is = let e : x ≡ d = cc in subst P e all.0
def_at P (x ∷ xs) (suc k) d all is = def_at P xs k d all.1 is

has_planes : (n : ℕ) (cubes : List Cube) → AllByRecursion (IsPlane n) cubes → HasPlanes cubes
has_planes n [] h = tt
has_planes n (c ∷ cs) h = (h.0.bytes, has_planes n cs h.1)

-- what a definition's signal reads
reads_is : (net : NetView) (k : ℕ) (d : Def) → slice_get net.defs k ≡ Some d
    → operands net.inputs net.defs (net.inputs + k) ≡ d.inputs
reads_is net k d is =
    let past : nat_lt (net.inputs + k) net.inputs ≡ false = le-ltb (net.inputs + k) net.inputs (omega arith) in
    let back : net.inputs + k - net.inputs ≡ k = omega arith in
    ap (λ b. cond b [] (operands_at (slice_get net.defs (net.inputs + k - net.inputs)))) past
    ∙ ap (λ j. operands_at (slice_get net.defs j)) back ∙ ap operands_at is

pub ordered : (net : NetView) → IsNetlist net → IsOrdered net
ordered net ok =
    let total : length net.names ≡ signals net = ok.count in
    let rank = ok.no_cycle.rank in
    let known : (k : ℕ) (d : Def) → slice_get net.defs k ≡ Some d → AllBelow (signals net) d.inputs =
    λ k d is. subst (λ t. AllBelow t d.inputs) total
    (def_at (IsDef (length net.names)) net.defs k d ok.each_def is).names in
    record {
      known = known;
      planes = λ k d is. has_planes (length d.inputs) d.cubes
          (def_at (IsDef (length net.names)) net.defs k d ok.each_def is).planes;
      shown = subst (λ t. AllBelow t net.outputs) total ok.each_output;
      rank = lower rank (signals net);
      falls = λ k d is. all_lower rank (signals net) (net.inputs + k) d.inputs (known k d is)
          (subst (λ xs. RanksBelow rank (rank (net.inputs + k)) xs) (reads_is net k d is)
          (ok.no_cycle.ranked.lower (net.inputs + k)));
      low = λ s. count_low (λ t. nat_lt (rank t) (rank s)) (signals net);
    }
