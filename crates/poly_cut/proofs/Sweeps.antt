-- The sweep over ends from below.
use Rattle.std.proofs.Common.{◌≡◌, ℕ, zero, suc, ◌+◌, ◌-◌, ◌<◌, ◌≤◌, ℤ, ◌<ℤ◌, ◌≤ℤ◌, List, [], ◌∷◌, ◌++◌, Bool, true}
use Rattle.std.proofs.Common.{false, length, map, take, drop, Some, None, refl, sym, ap, subst, ◌∙◌, arith, inl, inr}
use Rattle.std.specs.Prelude.{slice_get, not, ◌&&◌, ◌==◌, int_le, int_lt, IsPermutation}
use Rattle.std.specs.List.{sum_by}
use Rattle.std.specs.BTreeMap.{BTreeMap}
use Rattle.std.specs.declared.cmp.Ordering.{Ordering}
use Rattle.std.specs.declared.cmp.Ordering.TheVariants.{Less, Equal, Greater}
use Rattle.std.specs.Ordering.{int_cmp, MatchOrdering}
use Rattle.std.proofs.lemmas.Int.{ints, by_lt_z}
use Rattle.std.proofs.lemmas.Cmp.{int_ranked}
use Rattle.std.proofs.lemmas.List.Sums.{sum_by-cons}
use Rattle.std.proofs.lemmas.List.Sorted.{sum_by-IsPermutation}
use Rattle.std.proofs.lemmas.Option.{same_Some, slice_get_within}
use Rattle.geom.specs.Rectangle.{Rectangle}
use Rattle.poly_cut.specs.declared.ends.End.{End}
use Rattle.poly_cut.specs.Squares.{differ}
use Rattle.poly_cut.specs.Rings.{Edge, covers, odd_left}
use Rattle.poly_cut.specs.Cuts.{stands_on, box, walls, placed, between, slabs_from, slabs, joined, all_joined}
use Rattle.poly_cut.specs.Code.Sweeping.{Above, Rising, ends_of, FromBelow, levels_of, last_at}
use Rattle.poly_cut.specs.Code.Levels.{cut_off, FromLeft, LevelsFromLeft, AtLevel, all_toggled}
use Rattle.poly_cut.proofs.OffWindows.{odd_ends, all_odd, all_rising}
use Rattle.poly_cut.proofs.Endings.{by_place}
use Rattle.poly_cut.proofs.Seen.{cut_low}
use Rattle.poly_cut.proofs.Parity.{differ_false, differ_twice, differ_swap, le_is, le_not, rising_of, In, in_above}
use Rattle.poly_cut.proofs.Parity.{odd_upto, none_upto, walls_odd, walls_rising, placed_rising}

-- ---- rising numbers are told by their parities, and by what is among them

first_odd : (w : ℤ) (ws : List ℤ) → Above w ws → odd_upto (w ∷ ws) w ≡ true
first_odd w ws up = (λ n. differ (le_is w w (omega (arith, ints)) n) (none_upto w w ws up (omega (arith, ints)) n))

before_first : (v w : ℤ) (ws : List ℤ) → v <ℤ w → Above w ws → odd_upto (w ∷ ws) v ≡ false
before_first v w ws lt up = none_upto v v (w ∷ ws) (lt, up) (omega (arith, ints))

differ_same : (p q r : Bool) → differ p q ≡ differ p r → q ≡ r
differ_same p q r e = sym (differ_twice p q) ∙ ap (λ (b : Bool). differ p b) e ∙ differ_twice p r

pub same_parity : (vs ws : List ℤ) → Rising vs → Rising ws → ((i : ℤ) → odd_upto vs i ≡ odd_upto ws i) → vs ≡ ws
same_parity [] [] p q e = refl
same_parity [] (b ∷ ws) p q e = absurd (let h : false ≡ true = e b ∙ first_odd b ws q in cc)
same_parity (a ∷ vs) [] p q e = absurd (let h : true ≡ false = sym (first_odd a vs p) ∙ e a in cc)
same_parity (a ∷ vs) (b ∷ ws) p q e = turn (int_cmp a b) (int_ranked a b (int_cmp a b) refl)
    (λ s. same_parity vs ws (rising_of a vs p) (rising_of b ws q) (tails s))
  where
    tails : a ≡ b → (i : ℤ) → odd_upto vs i ≡ odd_upto ws i
    tails s i = differ_same (int_le a i) (odd_upto vs i) (odd_upto ws i)
        (e i ∙ ap (λ (x : ℤ). differ (int_le x i) (odd_upto ws i)) (sym s))

    turn : (o : Ordering) → MatchOrdering o (a <ℤ b) (a ≡ b) (b <ℤ a) → (a ≡ b → vs ≡ ws) → a ∷ vs ≡ b ∷ ws
    turn Less m ih = absurd (let h : true ≡ false = sym (first_odd a vs p) ∙ e a ∙ before_first a b ws m q in cc)
    turn Equal m ih = λ n. m n ∷ ih m n
    turn Greater m ih = absurd (let h : false ≡ true = sym (before_first b a vs m p) ∙ e b ∙ first_odd b ws q in cc)

pub same_members : (vs ws : List ℤ) → Rising vs → Rising ws → ((v : ℤ) → In v vs → In v ws)
    → ((v : ℤ) → In v ws → In v vs) → vs ≡ ws
same_members [] [] p q f g = refl
same_members [] (b ∷ ws) p q f g = absurd (g b (inl refl))
same_members (a ∷ vs) [] p q f g = absurd (f a (inl refl))
same_members (a ∷ vs) (b ∷ ws) p q f g = λ n. heads n ∷ same_members vs ws (rising_of a vs p) (rising_of b ws q)
    (λ v i. tail_f v i (f v (inr i))) (λ v i. tail_g v i (g v (inr i))) n
  where
    heads : a ≡ b
    heads = both (f a (inl refl)) (g b (inl refl))
      where
        both : In a (b ∷ ws) → In b (a ∷ vs) → a ≡ b
        both (inl e) j = e
        both (inr i) (inl e) = sym e
        both (inr i) (inr j) = absurd
            (let h : b <ℤ a = in_above a b ws q i in let k : a <ℤ b = in_above b a vs p j in omega (arith, ints, h, k))

    tail_f : (v : ℤ) → In v vs → In v (b ∷ ws) → In v ws
    tail_f v i (inr j) = j
    tail_f v i (inl e) = absurd (let h : a <ℤ v = in_above v a vs p i in omega (arith, ints, h, e, heads))

    tail_g : (v : ℤ) → In v ws → In v (a ∷ vs) → In v vs
    tail_g v i (inr j) = j
    tail_g v i (inl e) = absurd (let h : b <ℤ v = in_above v b ws q i in omega (arith, ints, h, e, heads))

-- ---- parities of ends

-- and of those that are at most at j
abbrev odd_below : List End → ℤ → ℤ → Bool
odd_below [] i j = false
odd_below (e ∷ es) i j = differ (int_le e.x i && int_le e.y j) (odd_below es i j)

two_ends : (x s t r : Bool) → differ (x && s) (differ (x && t) r) ≡ differ (x && differ s t) r
two_ends true true true true = refl
two_ends true true true false = refl
two_ends true true false r = refl
two_ends true false t r = refl
two_ends false s t r = refl

ends_parity : (es : List Edge) (i j : ℤ) → odd_below (ends_of es) i j ≡ odd_left es i j
ends_parity [] i j = refl
ends_parity (e ∷ es) i j =
    two_ends (int_le e.x i) (int_le e.start j) (int_le e.stop j) (odd_below (ends_of es) i j)
    ∙ ap (λ (b : Bool). differ (int_le e.x i && covers e j) b) (ends_parity es i j)

odd : ℕ → Bool
odd zero = false
odd (suc n) = not (odd n)

bit : Bool → ℕ
bit true = 1
bit false = 0

below_bit : ℤ → ℤ → End → ℕ
below_bit i j e = bit (int_le e.x i && int_le e.y j)

count_parity : (es : List End) (i j : ℤ) → odd (sum_by (below_bit i j) es) ≡ odd_below es i j
unfolding odd bit below_bit
count_parity [] i j = refl
count_parity (e ∷ es) i j = ap odd (sum_by-cons (below_bit i j) e es)
    ∙ turn (int_le e.x i && int_le e.y j) (count_parity es i j)
  where
    turn : (b : Bool) → odd (sum_by (below_bit i j) es) ≡ odd_below es i j
        → odd (bit b + sum_by (below_bit i j) es) ≡ differ b (odd_below es i j)
    turn true ih =
        (let n : 1 + sum_by (below_bit i j) es ≡ suc (sum_by (below_bit i j) es) = omega arith in
        ap odd n ∙ ap (λ (b : Bool). not b) ih)
    turn false ih = (let n : 0 + sum_by (below_bit i j) es ≡ sum_by (below_bit i j) es = omega arith in ap odd n ∙ ih)

moved_parity : (es fs : List End) (i j : ℤ) → IsPermutation es fs → odd_below fs i j ≡ odd_below es i j
moved_parity es fs i j p = sym (count_parity fs i j) ∙ ap odd (sum_by-IsPermutation (below_bit i j) es fs p)
    ∙ count_parity es i j

-- the first m ends are at most at j, and the others are above it
cut_parity : (es : List End) (m : ℕ) (i j : ℤ) → ((k : ℕ) (e : End) → k < m → slice_get es k ≡ Some e → e.y ≤ℤ j)
    → ((k : ℕ) (e : End) → m ≤ k → slice_get es k ≡ Some e → j <ℤ e.y) → odd_below es i j ≡ odd_ends (take m es) i
cut_parity [] zero i j low high = refl
cut_parity [] (suc m) i j low high = refl
cut_parity (e ∷ es) zero i j low high =
    (λ n. differ (int_le e.x i && le_not e.y j (high 0 e (omega arith) refl) n)
    (cut_parity es 0 i j (λ k f lt. absurd (omega arith)) (λ k f le g. high (suc k) f (omega arith) g) n))
    ∙ last (int_le e.x i) es
  where
    last : (b : Bool) (es : List End) → differ (b && false) (odd_ends (take 0 es) i) ≡ false
    last true [] = refl
    last true (f ∷ es) = refl
    last false [] = refl
    last false (f ∷ es) = refl
cut_parity (e ∷ es) (suc m) i j low high =
    (λ n. differ (int_le e.x i && le_is e.y j (low 0 e (omega arith) refl) n)
    (cut_parity es m i j (λ k f lt g. low (suc k) f (omega arith) g)
    (λ k f le g. high (suc k) f (omega arith) g) n))
    ∙ ap (λ (b : Bool). differ b (odd_ends (take m es) i)) (keep (int_le e.x i))
  where
    keep : (b : Bool) → (b && true) ≡ b
    keep true = refl
    keep false = refl

odd_append : (es : List End) (e : End) (i : ℤ) → odd_ends (es ++ e ∷ []) i ≡ differ (int_le e.x i) (odd_ends es i)
odd_append [] e i = refl
odd_append (f ∷ es) e i = ap (λ (b : Bool). differ (int_le f.x i) b) (odd_append es e i)
    ∙ differ_swap (int_le f.x i) (int_le e.x i) (odd_ends es i)

-- ---- levels of ends

by : Ordering → ℤ → ℤ → List ℤ → List ℤ
by Less y l ls = y ∷ l ∷ ls
by Equal y l ls = l ∷ ls
by Greater y l ls = l ∷ placed y ls

placed_so : (y l : ℤ) (ls : List ℤ) (o : Ordering) → int_cmp y l ≡ o → placed y (l ∷ ls) ≡ by o y l ls
unfolding by
placed_so y l ls o e = turn (int_cmp y l) ∙ ap (λ (k : Ordering). by k y l ls) e
  where
    turn : (k : Ordering)
        → (elim k as (λ (t : Ordering). List ℤ) [ Less ↦ y ∷ l ∷ ls | Equal ↦ l ∷ ls | Greater ↦ l ∷ placed y ls ]) ≡ by
        k y l ls
    turn Less = refl
    turn Equal = refl
    turn Greater = refl

cmp_less : (x y : ℤ) → x <ℤ y → int_cmp x y ≡ Less
cmp_less x y h = grind (arith, ints)

cmp_self : (x : ℤ) → int_cmp x x ≡ Equal
cmp_self x = grind (arith, ints)

from_tail : (e : End) (es : List End) → FromBelow (e ∷ es) → FromBelow es
from_tail e es up i j f g le p q = up (suc i) (suc j) f g (omega arith) p q

-- the lowest level is that of the first end
first_level : (e : End) (es : List End) → FromBelow (e ∷ es) → (zs : List ℤ) × (levels_of (e ∷ es) ≡ e.y ∷ zs)
unfolding by
first_level e [] up = ([], refl)
first_level e (f ∷ es) up = turn (first_level f es (from_tail e (f ∷ es) up)) (int_cmp e.y f.y)
    (int_ranked e.y f.y (int_cmp e.y f.y) refl)
  where
    turn : ((zs : List ℤ) × (levels_of (f ∷ es) ≡ f.y ∷ zs)) → (o : Ordering)
        → MatchOrdering o (e.y <ℤ f.y) (e.y ≡ f.y) (f.y <ℤ e.y) → (zs : List ℤ)
        × (placed e.y (levels_of (f ∷ es)) ≡ e.y ∷ zs)
    turn (zs, p) Less m = (
      f.y ∷ zs,
      ap (λ (l : List ℤ). placed e.y l) p
          ∙ placed_so e.y f.y zs Less (cmp_less e.y f.y m),
    )
    turn (zs, p) Equal m = (
      zs,
      ap (λ (l : List ℤ). placed e.y l) p ∙ ap (λ (y : ℤ). placed e.y (y ∷ zs)) (sym m)
          ∙ placed_so e.y e.y zs Equal (cmp_self e.y),
    )
    turn (zs, p) Greater m = absurd
        (let h : e.y ≤ℤ f.y = up 0 1 e f (omega arith) refl refl in omega (arith, ints, h, m))

-- an end at the level of the next adds no level
same_level : (e f : End) (es : List End) → FromBelow (f ∷ es) → e.y ≡ f.y → levels_of (e ∷ f ∷ es) ≡ levels_of (f ∷ es)
unfolding by
same_level e f es up h =
    let z = first_level f es up in
    ap (λ (l : List ℤ). placed e.y l) z.1 ∙ placed_so e.y f.y z.0 Equal (rw h (cmp_self f.y)) ∙ sym z.1

-- one below the next adds its own
new_level : (e f : End) (es : List End) → FromBelow (f ∷ es) → e.y <ℤ f.y
    → levels_of (e ∷ f ∷ es) ≡ e.y ∷ levels_of (f ∷ es)
unfolding by
new_level e f es up h =
    let z = first_level f es up in
    ap (λ (l : List ℤ). placed e.y l) z.1 ∙ placed_so e.y f.y z.0 Less (cmp_less e.y f.y h)
    ∙ ap (λ (l : List ℤ). e.y ∷ l) (sym z.1)

pub levels_rise : (es : List End) → Rising (levels_of es)
levels_rise [] = tt
levels_rise (e ∷ es) = placed_rising e.y (levels_of es) (levels_rise es)

joined_append : (rs ts us : List Rectangle) → all_joined rs (ts ++ us) ≡ all_joined (all_joined rs ts) us
joined_append rs [] us = refl
joined_append rs (t ∷ ts) us = joined_append (joined rs t) ts us

-- the levels of ends at one level, and of those above them
group_levels : (l : List End) (m : ℕ) (e f : End) → FromBelow l → slice_get l 0 ≡ Some e
    → ((i : ℕ) (g : End) → i < suc m → slice_get l i ≡ Some g → g.y ≤ℤ e.y) → slice_get l (suc m) ≡ Some f → e.y <ℤ f.y
    → levels_of l ≡ e.y ∷ levels_of (drop (suc m) l)
group_levels [] m e f up p low q lt = absurd cc
group_levels (d ∷ []) m e f up p low q lt = absurd cc
group_levels (d ∷ g ∷ l) zero e f up p low q lt =
    let a : d ≡ e = same_Some d e p in
    let b : g ≡ f = same_Some g f q in
    new_level d g l (from_tail d (g ∷ l) up)
    (subst (λ (k : End). k.y <ℤ g.y) (sym a) (subst (λ (k : End). e.y <ℤ k.y) (sym b) lt))
    ∙ ap (λ (k : End). k.y ∷ levels_of (g ∷ l)) a
group_levels (d ∷ g ∷ l) (suc m) e f up p low q lt =
    let a : d ≡ e = same_Some d e p in
    let le : g.y ≤ℤ e.y = low 1 g (omega arith) refl in
    let ge : d.y ≤ℤ g.y = up 0 1 d g (omega arith) refl refl in
    let same : d.y ≡ g.y = equal d.y g.y ge (subst (λ (k : End). g.y ≤ℤ k.y) (sym a) le) in
    let first : g.y ≡ e.y = sym same ∙ ap (λ (k : End). k.y) a in
    same_level d g l (from_tail d (g ∷ l) up) same
    ∙ group_levels (g ∷ l) m g f (from_tail d (g ∷ l) up) refl
    (λ i h less r. (let k : h.y ≤ℤ e.y = low (suc i) h (omega (arith, less)) r in omega (arith, ints, k, first))) q
    (omega (arith, ints, first, lt))
    ∙ ap (λ (y : ℤ). y ∷ levels_of (drop (suc m) (g ∷ l))) first
  where
    equal : (a b : ℤ) → a ≤ℤ b → b ≤ℤ a → a ≡ b
    equal a b h k = grind (arith, ints)

one_level : (l : List End) (e : End) → FromBelow l → slice_get l 0 ≡ Some e
    → ((i : ℕ) (g : End) → slice_get l i ≡ Some g → g.y ≤ℤ e.y) → levels_of l ≡ e.y ∷ []
one_level [] e up p low = absurd cc
one_level (d ∷ []) e up p low = ap (λ (k : End). k.y ∷ []) (same_Some d e p)
one_level (d ∷ g ∷ l) e up p low =
    let a : d ≡ e = same_Some d e p in
    let le : g.y ≤ℤ e.y = low 1 g refl in
    let ge : d.y ≤ℤ g.y = up 0 1 d g (omega arith) refl refl in
    let same : d.y ≡ g.y = equal d.y g.y ge (subst (λ (k : End). g.y ≤ℤ k.y) (sym a) le) in
    let first : g.y ≡ e.y = sym same ∙ ap (λ (k : End). k.y) a in
    same_level d g l (from_tail d (g ∷ l) up) same
    ∙ one_level (g ∷ l) g (from_tail d (g ∷ l) up) refl
    (λ i h r. (let k : h.y ≤ℤ e.y = low (suc i) h r in omega (arith, ints, k, first)))
    ∙ ap (λ (y : ℤ). y ∷ []) first
  where
    equal : (a b : ℤ) → a ≤ℤ b → b ≤ℤ a → a ≡ b
    equal a b h k = grind (arith, ints)

-- ---- parts of ends

odd_split : (l : List End) (k m : ℕ) (i : ℤ) → odd_ends (take (k + m) l) i ≡ differ (odd_ends (take m (drop k l)) i)
    (odd_ends (take k l) i)
odd_split l zero m i = let e : 0 + m ≡ m = omega arith in rw e (turn l)
  where
    turn : (l : List End) → odd_ends (take m l) i ≡ differ (odd_ends (take m (drop 0 l)) i) (odd_ends (take 0 l) i)
    turn [] = none m
      where
        none : (m : ℕ) → odd_ends (take m []) i ≡ differ (odd_ends (take m []) i) false
        none zero = refl
        none (suc m) = refl
    turn (e ∷ l) = sym (differ_false (odd_ends (take m (e ∷ l)) i))
odd_split [] (suc k) m i = let e : suc k + m ≡ suc (k + m) = omega arith in rw e (none m)
  where
    none : (m : ℕ) → false ≡ differ (odd_ends (take m []) i) false
    none zero = refl
    none (suc m) = refl
odd_split (e ∷ l) (suc k) m i =
    let n : suc k + m ≡ suc (k + m) = omega arith in
    rw n (ap (λ (b : Bool). differ (int_le e.x i) b) (odd_split l k m i)
    ∙ differ_swap (int_le e.x i) (odd_ends (take m (drop k l)) i) (odd_ends (take k l) i))

dropped_up : (m : ℕ) (l : List End) → FromBelow l → FromBelow (drop m l)
dropped_up zero [] up = up
dropped_up zero (g ∷ l) up = up
dropped_up (suc m) [] up = up
dropped_up (suc m) (g ∷ l) up = dropped_up m l (from_tail g l up)

dropped_at : (l : List End) (k i : ℕ) → slice_get (drop k l) i ≡ slice_get l (k + i)
dropped_at [] zero i = refl
dropped_at [] (suc k) i = refl
dropped_at (g ∷ l) zero i = let e : 0 + i ≡ i = omega arith in rw e refl
dropped_at (g ∷ l) (suc k) i = let e : suc k + i ≡ suc (k + i) = omega arith in rw e (dropped_at l k i)

dropped_none : (l : List End) (m : ℕ) → l ≡ [] → drop m l ≡ l
dropped_none [] zero e = refl
dropped_none [] (suc m) e = refl
dropped_none (g ∷ l) m e = absurd cc

dropped_twice : (l : List End) (k m : ℕ) → drop m (drop k l) ≡ drop (k + m) l
dropped_twice l zero m = let e : 0 + m ≡ m = omega arith in rw e (turn l)
  where
    turn : (l : List End) → drop m (drop 0 l) ≡ drop m l
    turn [] = refl
    turn (g ∷ l) = refl
dropped_twice [] (suc k) m = let e : suc k + m ≡ suc (k + m) = omega arith in rw e (dropped_none [] m refl)
dropped_twice (g ∷ l) (suc k) m = let e : suc k + m ≡ suc (k + m) = omega arith in rw e (dropped_twice l k m)

-- ---- level by level

took : (m : ℕ) (l : List End) (i : ℕ) (e : End) → slice_get (take m l) i ≡ Some e → (i < m) × (slice_get l i ≡ Some e)
took zero [] i e q = absurd cc
took zero (g ∷ l) i e q = absurd cc
took (suc m) [] i e q = absurd cc
took (suc m) (g ∷ l) zero e q = (omega arith, q)
took (suc m) (g ∷ l) (suc i) e q = (let t = took m l i e q in (let lt = t.0 in omega (arith, lt), t.1))

-- the ends of a group rise along x
pub group_left : (k m : ℕ) (ends : List End) (e : End) → FromBelow ends → LevelsFromLeft ends
    → slice_get ends k ≡ Some e → ((i : ℕ) (g : End) → k ≤ i → i < k + m → slice_get ends i ≡ Some g → g.y ≤ℤ e.y)
    → FromLeft (take m (drop k ends))
group_left k m ends e up left at_e level i j f g le p q =
    let a = took m (drop k ends) i f p in
    let b = took m (drop k ends) j g q in
    let less_i : i < m = a.0 in
    let less_j : j < m = b.0 in
    let at_f : slice_get ends (k + i) ≡ Some f = sym (dropped_at ends k i) ∙ a.1 in
    let at_g : slice_get ends (k + j) ≡ Some g = sym (dropped_at ends k j) ∙ b.1 in
    let lo_f : e.y ≤ℤ f.y = up k (k + i) e f (omega arith) at_e at_f in
    let lo_g : e.y ≤ℤ g.y = up k (k + j) e g (omega arith) at_e at_g in
    let hi_f : f.y ≤ℤ e.y = level (k + i) f (omega arith) (omega (arith, less_i)) at_f in
    let hi_g : g.y ≤ℤ e.y = level (k + j) g (omega arith) (omega (arith, less_j)) at_g in
    left (k + i) (k + j) f g (omega (arith, le)) at_f at_g (equal f.y e.y g.y hi_f lo_f hi_g lo_g)
  where
    equal : (a b c : ℤ) → a ≤ℤ b → b ≤ℤ a → c ≤ℤ b → b ≤ℤ c → a ≡ c
    equal a b c h k m n = grind (arith, ints)

-- below the top there is a next level
pub next_within : (k next : ℕ) (ends : List End) (e t : End) → next ≤ length ends → slice_get ends k ≡ Some e
    → slice_get ends (length ends - 1) ≡ Some t → k < length ends → e.y <ℤ t.y
    → ((i : ℕ) (g : End) → k ≤ i → i < next → slice_get ends i ≡ Some g → g.y ≤ℤ e.y) → next < length ends
next_within k next ends e t le at_e at_t lt below level = by_place next (length ends)
    (λ less. less)
    (λ same. absurd
    (let h : t.y ≤ℤ e.y = level (length ends - 1) t (omega (arith, lt)) (omega (arith, lt, same)) at_t in
    omega (arith, ints, h, below)))
    (λ gt. absurd (omega (arith, gt, le)))

-- the first k ends have been toggled, and slabs joined up to the level of the next
pub record Swept (k : ℕ) (ends : List End) (top : ℤ) (ws : List ℤ) (rects : List Rectangle)
    (last : BTreeMap ℤ ℕ) : Type 0 where
  pub within : k < length ends
  pub parity : (i : ℤ) → odd_upto ws i ≡ odd_ends (take k ends) i
  pub at : (e : End) → slice_get ends k ≡ Some e → AtLevel rects last ws e.y top
  pub rest : (e : End) → slice_get ends k ≡ Some e → (es : List Edge) → IsPermutation (ends_of es) ends
      → all_joined (map (cut_off e.y) rects) (slabs es (levels_of (drop k ends))) ≡ all_joined []
      (slabs es (levels_of ends))

pub none_swept : (ends : List End) (top : ℤ) (last : BTreeMap ℤ ℕ) → 0 < length ends → ((x : ℤ) → last_at last x ≡ None)
    → Swept 0 ends top [] [] last
none_swept ends top last some none = record {
  within = some;
  parity = λ i. zero_of ends i;
  at = λ e p. record {
    rising = tt;
    reaches = record {
      stand = λ x n q. absurd (let h = none x in cc);
      found = λ n r q. absurd cc;
      lower = λ n r q. absurd cc;
    };
    standing = record {
      stand = λ x n q. absurd (let h = none x in cc);
      own = λ x n r q g. absurd cc;
      found = λ n r g. absurd cc;
      paired = λ n r g. absurd cc;
    };
    high = λ n r g. absurd cc;
    low = λ n r g. absurd cc;
    begun = λ i a b q. absurd (let h = q.first in cc);
  };
  rest = λ e p es q. ap (λ (l : List End). all_joined [] (slabs es (levels_of l))) (none_dropped ends);
}
  where
    zero_of : (ends : List End) (i : ℤ) → false ≡ odd_ends (take 0 ends) i
    zero_of [] i = refl
    zero_of (e ∷ ends) i = refl

    none_dropped : (ends : List End) → drop 0 ends ≡ ends
    none_dropped [] = refl
    none_dropped (e ∷ ends) = refl

module _ (k next : ℕ) (ends : List End) (top : ℤ) (ws : List ℤ) (rects : List Rectangle) (last : BTreeMap ℤ ℕ)
    (up : FromBelow ends) (done : Swept k ends top ws rects last) (e f : End) (at_e : slice_get ends k ≡ Some e)
    (at_f : slice_get ends next ≡ Some f) (more : k < next)
    (level : (i : ℕ) (g : End) → k ≤ i → i < next → slice_get ends i ≡ Some g → g.y ≤ℤ e.y) (above : e.y <ℤ f.y)
    (new : List ℤ) (toggles : new ≡ all_toggled (take (next - k) (drop k ends)) ws) where
  new_rising : Rising new
  new_rising = rw toggles (all_rising (take (next - k) (drop k ends)) ws (done.at e at_e).rising)

  new_parity : (i : ℤ) → odd_upto new i ≡ odd_ends (take next ends) i
  new_parity i =
      let n : k + (next - k) ≡ next = omega arith in
      ap (λ (l : List ℤ). odd_upto l i) toggles ∙ all_odd (take (next - k) (drop k ends)) ws i
      ∙ ap (λ (b : Bool). differ (odd_ends (take (next - k) (drop k ends)) i) b) (done.parity i)
      ∙ sym (odd_split ends k (next - k) i) ∙ ap (λ (m : ℕ). odd_ends (take m ends) i) n

  walls_are : (es : List Edge) → IsPermutation (ends_of es) ends → walls es e.y ≡ new
  walls_are es p = same_parity (walls es e.y) new (walls_rising es e.y) new_rising (λ i.
      walls_odd es i e.y ∙ sym (ends_parity es i e.y) ∙ sym (moved_parity (ends_of es) ends i e.y p)
      ∙ cut_parity ends next i e.y lower
      (λ j g h q. (let m : f.y ≤ℤ g.y = up next j f g h at_f q in omega (arith, ints, m, above)))
      ∙ sym (new_parity i))
    where
      lower : (j : ℕ) (g : End) → j < next → slice_get ends j ≡ Some g → g.y ≤ℤ e.y
      lower j g lt q = by_place j k
          (λ less. up j k g e (omega (arith, less)) q at_e)
          (λ same. level j g (omega (arith, same)) lt q)
          (λ gt. level j g (omega (arith, gt)) lt q)

  levels_are : levels_of (drop k ends) ≡ e.y ∷ levels_of (drop next ends)
  levels_are =
      let m : k + suc (next - k - 1) ≡ next = omega arith in
      let z : k + 0 ≡ k = omega arith in
      group_levels (drop k ends) (next - k - 1) e f (dropped_up k ends up)
      (dropped_at ends k 0 ∙ ap (λ (n : ℕ). slice_get ends n) z ∙ at_e)
      (λ i g lt q. level (k + i) g (omega arith) (omega (arith, lt)) (sym (dropped_at ends k i) ∙ q))
      (dropped_at ends k (suc (next - k - 1)) ∙ ap (λ (n : ℕ). slice_get ends n) m ∙ at_f) above
      ∙ ap (λ (l : List End). e.y ∷ levels_of l) (dropped_twice ends k (suc (next - k - 1))
      ∙ ap (λ (n : ℕ). drop n ends) m)

  -- the levels from the next group on begin with its own
  next_levels : (zs : List ℤ) × (levels_of (drop next ends) ≡ f.y ∷ zs)
  next_levels = turn next ends at_f up
    where
      turn : (n : ℕ) (l : List End) → slice_get l n ≡ Some f → FromBelow l
          → (zs : List ℤ) × (levels_of (drop n l) ≡ f.y ∷ zs)
      turn n [] q u = absurd cc
      turn zero (g ∷ l) q u = (let z = first_level g l u in (z.0, z.1 ∙ ap (λ (k : End). k.y ∷ z.0) (same_Some g f q)))
      turn (suc n) (g ∷ l) q u = turn n l q (from_tail g l u)

  pub level_swept : (rects' : List Rectangle) (last' : BTreeMap ℤ ℕ) → AtLevel rects' last' new f.y top
      → map (cut_off f.y) rects' ≡ all_joined (map (cut_off e.y) rects) (between e.y f.y new)
      → Swept next ends top new rects' last'
  level_swept rects' last' at joins = record {
    within = slice_get_within ends next f at_f;
    parity = new_parity;
    at = λ g q. subst (λ (h : End). AtLevel rects' last' new h.y top) (same_Some f g (sym at_f ∙ q)) at;
    rest = λ g q es p. subst (λ (h : End). all_joined (map (cut_off h.y) rects')
        (slabs es (levels_of (drop next ends))) ≡ all_joined [] (slabs es (levels_of ends)))
        (same_Some f g (sym at_f ∙ q)) (whole es p);
  }
    where
      whole : (es : List Edge) → IsPermutation (ends_of es) ends
          → all_joined (map (cut_off f.y) rects') (slabs es (levels_of (drop next ends))) ≡ all_joined []
          (slabs es (levels_of ends))
      whole es p =
          let z = next_levels in
          ap (λ (l : List ℤ). all_joined (map (cut_off f.y) rects') (slabs es l)) z.1
          ∙ ap (λ (l : List Rectangle). all_joined l (slabs_from es f.y z.0))
          (joins ∙ ap (λ (l : List ℤ). all_joined (map (cut_off e.y) rects) (between e.y f.y l))
          (sym (walls_are es p)))
          ∙ sym (joined_append (map (cut_off e.y) rects) (between e.y f.y (walls es e.y)) (slabs_from es f.y z.0))
          ∙ ap (λ (l : List ℤ). all_joined (map (cut_off e.y) rects) (slabs es l))
          (sym (levels_are ∙ ap (λ (l : List ℤ). e.y ∷ l) z.1))
          ∙ done.rest e at_e es p

-- at the top nothing goes on, and there is no slab
pub all_swept : (k : ℕ) (ends : List End) (top : ℤ) (ws : List ℤ) (rects : List Rectangle) (last : BTreeMap ℤ ℕ)
    (e t : End) → FromBelow ends → Swept k ends top ws rects last → slice_get ends k ≡ Some e → top ≡ t.y
    → slice_get ends (length ends - 1) ≡ Some t
    → int_lt e.y t.y ≡ false → (es : List Edge) → IsPermutation (ends_of es) ends
    → rects ≡ all_joined [] (slabs es (levels_of ends))
all_swept k ends top ws rects last e t up done at_e is at_t not_below es p =
    sym (same_self rects)
    ∙ ap (λ (l : List ℤ). all_joined (map (cut_off e.y) rects) (slabs es l))
    (sym (one_level (drop k ends) e (dropped_up k ends up)
    (dropped_at ends k 0 ∙ ap (λ (n : ℕ). slice_get ends n) z ∙ at_e) low))
    ∙ done.rest e at_e es p
  where
    z : k + 0 ≡ k
    z = omega arith

    le : t.y ≤ℤ e.y
    le = less e.y t.y not_below
      where
        less : (a b : ℤ) → int_lt a b ≡ false → b ≤ℤ a
        less a b h = grind (arith, ints)

    low : (i : ℕ) (g : End) → slice_get (drop k ends) i ≡ Some g → g.y ≤ℤ e.y
    low i g q =
        let here : slice_get ends (k + i) ≡ Some g = sym (dropped_at ends k i) ∙ q in
        let lt : k + i < length ends = slice_get_within ends (k + i) g here in
        let h : g.y ≤ℤ t.y = up (k + i) (length ends - 1) g t (omega (arith, lt)) here at_t in
        omega (arith, ints, h, le)

    same_self : (l : List Rectangle) → map (cut_off e.y) rects ≡ rects
    same_self l = mapped rects
        (λ n r g. cut_low e.y r
        (by_lt_z e.y r.y1
        (λ hi. absurd (let h : r.y1 ≡ top = (done.at e at_e).high n r g hi in omega (arith, ints, h, hi, is, le)))
        (λ below. below)))
      where
        mapped : (l : List Rectangle) → ((n : ℕ) (r : Rectangle) → slice_get l n ≡ Some r → cut_off e.y r ≡ r)
            → map (cut_off e.y) l ≡ l
        mapped [] h = refl
        mapped (r ∷ l) h = λ j. h 0 r refl j ∷ mapped l (λ n s. h (suc n) s) j

-- ---- where the first rectangle is enough

joined_some : (rs : List Rectangle) (t : Rectangle) → 0 < length (joined rs t)
joined_some [] t = omega arith
joined_some (r ∷ rs) t = turn (stands_on r t)
  where
    turn : (k : Bool)
        → 0 < length
        (elim k as (λ (x : Bool). List Rectangle) [ true ↦ box r.x0 r.y0 r.x1 t.y1 ∷ rs | false ↦ r ∷ joined rs t ])
    turn true = omega arith
    turn false = omega arith

all_joined_some : (rs ts : List Rectangle) → 0 < length rs → 0 < length (all_joined rs ts)
all_joined_some rs [] lt = lt
all_joined_some rs (t ∷ ts) lt = all_joined_some (joined rs t) ts (joined_some rs t)

pub test_first : (a b : Bool) → (a && b) ≡ true → a ≡ true
test_first true b e = refl
test_first false b e = absurd cc

pub test_whole : (a f n : Bool) → f ≡ false → (a && not (f && n)) ≡ false → a ≡ false
test_whole a true n e h = absurd cc
test_whole true false n e h = absurd cc
test_whole false false n e h = refl

test_none : (a f n : Bool) → n ≡ false → (a && not (f && n)) ≡ false → a ≡ false
test_none a f true e h = absurd cc
test_none true true false e h = absurd cc
test_none true false false e h = absurd cc
test_none false f false e h = refl

not_none : (n : ℕ) → 0 < n → (n == 0) ≡ false
not_none n lt = grind arith

pub some_swept : (k : ℕ) (ends : List End) (top : ℤ) (ws : List ℤ) (rects : List Rectangle) (last : BTreeMap ℤ ℕ)
    (e t : End) (first : Bool) → FromBelow ends → Swept k ends top ws rects last → slice_get ends k ≡ Some e → top ≡ t.y
    → slice_get ends (length ends - 1) ≡ Some t → (int_lt e.y t.y && not (first && not (length rects == 0))) ≡ false
    → (es : List Edge) → IsPermutation (ends_of es) ends
    → (length rects == 0) ≡ (length (all_joined [] (slabs es (levels_of ends))) == 0)
some_swept k ends top ws [] last e t first up done at_e is at_t stop es p =
    ap (λ (l : List Rectangle). length l == 0)
    (all_swept k ends top ws [] last e t up done at_e is at_t (test_none (int_lt e.y t.y) first false refl stop) es p)
some_swept k ends top ws (r ∷ rs) last e t first up done at_e is at_t stop es p =
    not_none (length (r ∷ rs)) (omega arith)
    ∙ sym (not_none (length (all_joined [] (slabs es (levels_of ends))))
    (subst (λ (l : List Rectangle). 0 < length l) (done.rest e at_e es p)
    (all_joined_some (map (cut_off e.y) (r ∷ rs)) (slabs es (levels_of (drop k ends))) (omega arith))))
