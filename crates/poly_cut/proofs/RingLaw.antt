-- The union of a ring's cut is the ring's set.
use Rattle.std.proofs.Common.{◌≡◌, ℤ, ◌<ℤ◌, ◌≤ℤ◌, ◌⊎◌, List, [], ◌∷◌, ◌++◌, Bool, true, false, refl, sym, ap, subst}
use Rattle.std.proofs.Common.{◌∙◌, arith, inl, inr}
use Rattle.std.specs.Prelude.{◌≢◌, ◌↔◌, not, ◌&&◌, ◌||◌, int_le, int_lt}
use Rattle.std.specs.Ordering.{int_eq}
use Rattle.std.specs.List.{AllByRecursion}
use Rattle.std.proofs.lemmas.Bool.{and_from}
use Rattle.std.proofs.lemmas.Int.{ints}
use Rattle.geom.specs.Rectangle.{Rectangle, IsProper}
use Rattle.poly_cut.specs.declared.layout.Point.{Point}
use Rattle.poly_cut.specs.Squares.{differ, from_before, holds, union_holds}
use Rattle.poly_cut.specs.Rings.{Edge, edges_from, edges, covers, odd_left, ring_holds, HasSquare}
use Rattle.poly_cut.specs.Cuts.{box, walls, placed, levels, between, slabs_from, slabs, stands_on, joined, all_joined}
use Rattle.poly_cut.specs.Cuts.{ring_cut}
use Rattle.poly_cut.specs.Figures.{StepsTo, IsRound}
use Rattle.poly_cut.specs.Code.Sweeping.{Above, Rising}
use Rattle.poly_cut.proofs.Parity.{differ_self, differ_through, and_true, and_false, or_false, or_assoc, or_comm}
use Rattle.poly_cut.proofs.Parity.{and_or, or_and, le_is, le_not, le_so, le_less, lt_is, lt_not, rising_of, In}
use Rattle.poly_cut.proofs.Parity.{in_above, odd_upto, is_odd, walls_odd, walls_rising, odd_cover, walls_even}
use Rattle.poly_cut.proofs.Parity.{placed_rising, in_placed, in_still}

-- ---- between walls

upto_none : (b i : ℤ) (ws : List ℤ) → Above b ws → i <ℤ b → odd_upto ws i ≡ false
upto_none b i [] h lt = refl
upto_none b i (w ∷ ws) h lt =
    let m : i <ℤ w = omega (arith, ints, h.0, lt) in
    ap (λ (t : Bool). differ t (odd_upto ws i)) (le_not w i m) ∙ upto_none w i ws h.1 m

-- the first interval, or the walls behind it
interval : (a b i : ℤ) (ws : List ℤ) → a <ℤ b → Above b ws
    → (from_before a b i || odd_upto ws i) ≡ differ (int_le a i) (differ (int_le b i) (odd_upto ws i))
interval a b i ws lt h = turn (int_le b i) refl
  where
    two : (p q : Bool) → p ≡ true → (p && false || q) ≡ differ p (differ true q)
    two true true e = refl
    two true false e = refl
    two false q e = absurd cc

    one : (p q : Bool) → q ≡ false → (p && true || q) ≡ differ p (differ false q)
    one true true e = absurd cc
    one true false e = refl
    one false q e = refl

    turn : (c : Bool) → int_le b i ≡ c → (from_before a b i || odd_upto ws i) ≡ differ (int_le a i)
        (differ c (odd_upto ws i))
    turn true e =
        let le : b ≤ℤ i = le_so b i e in
        ap (λ (t : Bool). int_le a i && t || odd_upto ws i) (lt_not i b le)
        ∙ two (int_le a i) (odd_upto ws i) (le_is a i (omega (arith, ints, lt, le)))
    turn false e =
        let less : i <ℤ b = le_less b i e in
        ap (λ (t : Bool). int_le a i && t || odd_upto ws i) (lt_is i b less)
        ∙ one (int_le a i) (odd_upto ws i) (upto_none b i ws h less)

between_holds : (y z : ℤ) (ws : List ℤ) (i j : ℤ) → Rising ws → is_odd ws ≡ false
    → union_holds (between y z ws) i j ≡ (odd_upto ws i && from_before y z j)
between_holds y z [] i j up even = refl
between_holds y z (a ∷ []) i j up even = absurd cc
between_holds y z (a ∷ b ∷ ws) i j up even =
    ap (λ (t : Bool). from_before a b i && from_before y z j || t)
    (between_holds y z ws i j (rising_of b ws up.1) (once (is_odd ws) even))
    ∙ or_and (from_before a b i) (odd_upto ws i) (from_before y z j)
    ∙ ap (λ (t : Bool). t && from_before y z j) (interval a b i ws up.0 up.1)
  where
    once : (t : Bool) → not (not t) ≡ false → t ≡ false
    once true e = e
    once false e = refl

between_proper : (y z : ℤ) (ws : List ℤ) → y <ℤ z → Rising ws → AllByRecursion IsProper (between y z ws)
between_proper y z [] lt up = tt
between_proper y z (a ∷ []) lt up = tt
between_proper y z (a ∷ b ∷ ws) lt up =
    (record { wide = up.0; high = lt }, between_proper y z ws lt (rising_of b ws up.1))

-- ---- rows of a slab

-- v is at most y, or one of the levels above it
abbrev Known : ℤ → ℤ → List ℤ → Type 0
Known y v zs = (v ≤ℤ y) ⊎ In v zs

abbrev AreKnown : ℤ → List ℤ → List Edge → Type 0
AreKnown y zs [] = Unit {0}
AreKnown y zs (e ∷ es) = Known y e.start zs × Known y e.stop zs × AreKnown y zs es

row_test : (y z v j : ℤ) (zs : List ℤ) → Above z zs → y ≤ℤ j → j <ℤ z → y <ℤ z → Known y v (z ∷ zs)
    → int_le v j ≡ int_le v y
row_test y z v j zs up le lt yz (inl k) = le_is v j (omega (arith, ints, k, le)) ∙ sym (le_is v y k)
row_test y z v j zs up le lt yz (inr (inl k)) = le_not v j (rw k lt) ∙ sym (le_not v y (rw k yz))
row_test y z v j zs up le lt yz (inr (inr k)) =
    let n : z <ℤ v = in_above v z zs up k in
    le_not v j (omega (arith, ints, n, lt)) ∙ sym (le_not v y (omega (arith, ints, n, yz)))

same_cover : (e : Edge) (y z j : ℤ) (zs : List ℤ) → Above z zs → y ≤ℤ j → j <ℤ z → y <ℤ z → Known y e.start (z ∷ zs)
    → Known y e.stop (z ∷ zs) → covers e j ≡ covers e y
same_cover e y z j zs up le lt yz k l = λ n. differ (row_test y z e.start j zs up le lt yz k n)
    (row_test y z e.stop j zs up le lt yz l n)

row_holds : (es : List Edge) (y z i j : ℤ) (zs : List ℤ) → Above z zs → y ≤ℤ j → j <ℤ z → y <ℤ z
    → AreKnown y (z ∷ zs) es → odd_left es i y ≡ odd_left es i j
row_holds [] y z i j zs up le lt yz k = refl
row_holds (e ∷ es) y z i j zs up le lt yz k =
    λ n. differ (int_le e.x i && sym (same_cover e y z j zs up le lt yz k.0 k.1) n)
    (row_holds es y z i j zs up le lt yz k.2 n)

row_above : (es : List Edge) (y i j : ℤ) → y ≤ℤ j → AreKnown y [] es → odd_left es i j ≡ false
row_above [] y i j le k = refl
row_above (e ∷ es) y i j le k =
    (λ n. differ (int_le e.x i && differ (low e.start k.0 n) (low e.stop k.1 n)) (row_above es y i j le k.2 n))
    ∙ ap (λ (b : Bool). differ b false) (and_false (int_le e.x i))
  where
    low : (v : ℤ) → Known y v [] → int_le v j ≡ true
    low v (inl h) = le_is v j (omega (arith, ints, h, le))
    low v (inr h) = absurd h

-- ---- slabs

pub union_append : (rs ts : List Rectangle) (i j : ℤ)
    → union_holds (rs ++ ts) i j ≡ (union_holds rs i j || union_holds ts i j)
union_append [] ts i j = refl
union_append (r ∷ rs) ts i j = ap (λ (b : Bool). holds r i j || b) (union_append rs ts i j)
    ∙ sym (or_assoc (holds r i j) (union_holds rs i j) (union_holds ts i j))

next_known : (y z v : ℤ) (zs : List ℤ) → y <ℤ z → Known y v (z ∷ zs) → Known z v zs
next_known y z v zs lt (inl h) = inl (omega (arith, ints, h, lt))
next_known y z v zs lt (inr (inl h)) = inl (omega (arith, ints, h))
next_known y z v zs lt (inr (inr h)) = inr h

all_next : (es : List Edge) (y z : ℤ) (zs : List ℤ) → y <ℤ z → AreKnown y (z ∷ zs) es → AreKnown z zs es
all_next [] y z zs lt k = tt
all_next (e ∷ es) y z zs lt k =
    (next_known y z e.start zs lt k.0, next_known y z e.stop zs lt k.1, all_next es y z zs lt k.2)

module _ (es : List Edge) (even : (j : ℤ) → is_odd (walls es j) ≡ false) where
  slabs_hold : (y : ℤ) (zs : List ℤ) (i j : ℤ) → Above y zs → AreKnown y zs es
      → union_holds (slabs_from es y zs) i j ≡ (int_le y j && odd_left es i j)
  slabs_hold y [] i j up k = turn (int_le y j) refl
    where
      turn : (b : Bool) → int_le y j ≡ b → false ≡ (b && odd_left es i j)
      turn true e = sym (row_above es y i j (le_so y j e) k)
      turn false e = refl
  slabs_hold y (z ∷ zs) i j up k =
      union_append (between y z (walls es y)) (slabs_from es z zs) i j
      ∙ (λ n. between_holds y z (walls es y) i j (walls_rising es y) (even y) n
      || slabs_hold z zs i j up.1 (all_next es y z zs up.0 k) n)
      ∙ turn (int_le y j) refl (int_le z j) refl
    where
      turn : (b : Bool) → int_le y j ≡ b → (c : Bool) → int_le z j ≡ c
          → ((odd_upto (walls es y) i && (b && int_lt j z)) || (c && odd_left es i j)) ≡ (b && odd_left es i j)
      turn true e true f = ap (λ (t : Bool). odd_upto (walls es y) i && t || odd_left es i j) (lt_not j z (le_so z j f))
          ∙ ap (λ (t : Bool). t || odd_left es i j) (and_false (odd_upto (walls es y) i))
      turn true e false f =
          ap (λ (t : Bool). odd_upto (walls es y) i && t || false) (lt_is j z (le_less z j f))
          ∙ or_false (odd_upto (walls es y) i && true) ∙ and_true (odd_upto (walls es y) i)
          ∙ walls_odd es i y ∙ row_holds es y z i j zs up.1 (le_so y j e) (le_less z j f) up.0 k
      turn false e true f = absurd
          (let a : z ≤ℤ j = le_so z j f in let b : j <ℤ y = le_less y j e in omega (arith, ints, up.0))
      turn false e false f = ap (λ (t : Bool). t || false) (and_false (odd_upto (walls es y) i))

slabs_proper : (es : List Edge) (y : ℤ) (zs : List ℤ) → Above y zs → AllByRecursion IsProper (slabs_from es y zs)
slabs_proper es y [] up = tt
slabs_proper es y (z ∷ zs) up = both (between y z (walls es y))
    (between_proper y z (walls es y) up.0 (walls_rising es y)) (slabs_proper es z zs up.1)
  where
    both : (rs : List Rectangle) → AllByRecursion IsProper rs → AllByRecursion IsProper (slabs_from es z zs)
        → AllByRecursion IsProper (rs ++ slabs_from es z zs)
    both [] a b = b
    both (r ∷ rs) a b = (a.0, both rs a.1 b)

-- ---- the levels of a ring

pub levels_rising : (ps : List Point) → Rising (levels ps)
levels_rising [] = tt
levels_rising (p ∷ ps) = placed_rising p.y (levels ps) (levels_rising ps)

-- the ends of the edges are among these
abbrev pub AreAmong : List ℤ → List Edge → Type 0
AreAmong ls [] = Unit {0}
AreAmong ls (e ∷ es) = In e.start ls × In e.stop ls × AreAmong ls es

still_among : (y : ℤ) (ls : List ℤ) (es : List Edge) → AreAmong ls es → AreAmong (placed y ls) es
still_among y ls [] a = tt
still_among y ls (e ∷ es) a = (in_still e.start y ls a.0, in_still e.stop y ls a.1, still_among y ls es a.2)

pub edges_among : (p : Point) (ps : List Point) → AreAmong (levels (p ∷ ps)) (edges_from p ps)
edges_among p [] = tt
edges_among p (q ∷ qs) = (
  in_placed p.y (levels (q ∷ qs)),
  in_still q.y p.y (levels (q ∷ qs))
      (in_placed q.y (levels qs)),
  still_among p.y (levels (q ∷ qs)) (edges_from q qs) (edges_among q qs),
)

among_known : (y : ℤ) (zs : List ℤ) (es : List Edge) → AreAmong (y ∷ zs) es → AreKnown y zs es
among_known y zs [] a = tt
among_known y zs (e ∷ es) a = (known e.start a.0, known e.stop a.1, among_known y zs es a.2)
  where
    known : (v : ℤ) → In v (y ∷ zs) → Known y v zs
    known v (inl h) = inl (omega (arith, ints, h))
    known v (inr h) = inr h

-- nothing lies below the first level
below_first : (es : List Edge) (y i j : ℤ) (zs : List ℤ) → Above y zs → AreAmong (y ∷ zs) es → j <ℤ y
    → odd_left es i j ≡ false
below_first [] y i j zs up a lt = refl
below_first (e ∷ es) y i j zs up a lt =
    (λ n. differ (int_le e.x i && differ (high e.start a.0 n) (high e.stop a.1 n))
    (below_first es y i j zs up a.2 lt n)) ∙ ap (λ (b : Bool). differ b false) (and_false (int_le e.x i))
  where
    high : (v : ℤ) → In v (y ∷ zs) → int_le v j ≡ false
    high v (inl h) = le_not v j (rw h lt)
    high v (inr h) = let n : y <ℤ v = in_above v y zs up h in le_not v j (omega (arith, ints, n, lt))

-- ---- a round crosses each row an even number of times

steps_cover : (z p : Point) (qs : List Point) (j : ℤ) → StepsTo z p qs
    → odd_cover (edges_from p qs) j ≡ differ (int_le p.y j) (int_le z.y j)
steps_cover z p [] j s = sym (ap (λ (t : Point). differ (int_le p.y j) (int_le t.y j)) (sym s)
    ∙ differ_self (int_le p.y j))
steps_cover z p (q ∷ qs) j s = ap (λ (b : Bool). differ (differ (int_le p.y j) (int_le q.y j)) b)
    (steps_cover z q qs j s.1) ∙ differ_through (int_le p.y j) (int_le q.y j) (int_le z.y j)

round_even : (ps : List Point) (j : ℤ) → IsRound ps → is_odd (walls (edges ps) j) ≡ false
round_even [] j r = refl
round_even (p ∷ ps) j r = walls_even (edges_from p ps) j ∙ steps_cover p p ps j r ∙ differ_self (int_le p.y j)

-- ---- rectangles that are joined

high_in : (a b c j : ℤ) → a <ℤ b → b <ℤ c → from_before a c j ≡ (from_before a b j || from_before b c j)
high_in a b c j p q = turn (int_le b j) refl
  where
    turn : (t : Bool) → int_le b j ≡ t → (int_le a j && int_lt j c) ≡ (int_le a j && int_lt j b || t && int_lt j c)
    turn true e =
        let h : b ≤ℤ j = le_so b j e in
        (λ n. le_is a j (omega (arith, ints, h, p)) n && int_lt j c)
        ∙ sym (ap (λ (t : Bool). int_le a j && t || int_lt j c) (lt_not j b h)
        ∙ ap (λ (t : Bool). t || int_lt j c) (and_false (int_le a j)))
    turn false e =
        let h : j <ℤ b = le_less b j e in
        (λ n. int_le a j && (lt_is j c (omega (arith, ints, h, q)) ∙ sym (lt_is j b h)) n)
        ∙ sym (or_false (int_le a j && int_lt j b))

eq_so : (a b : ℤ) → int_eq a b ≡ true → a ≡ b
eq_so a b e = grind (arith, ints)

both_so : (p q : Bool) → (p && q) ≡ true → (p ≡ true) × (q ≡ true)
both_so true q e = (refl, e)
both_so false q e = absurd cc

grown_holds : (r t : Rectangle) (i j : ℤ) → stands_on r t ≡ true → IsProper r → IsProper t
    → holds (box r.x0 r.y0 r.x1 t.y1) i j ≡ (holds r i j || holds t i j)
grown_holds r t i j s pr pt =
    let a = both_so (int_eq r.x0 t.x0) (int_eq r.x1 t.x1 && int_eq r.y1 t.y0) s in
    let b = both_so (int_eq r.x1 t.x1) (int_eq r.y1 t.y0) a.1 in
    let x0 : r.x0 ≡ t.x0 = eq_so r.x0 t.x0 a.0 in
    let x1 : r.x1 ≡ t.x1 = eq_so r.x1 t.x1 b.0 in
    let y : r.y1 ≡ t.y0 = eq_so r.y1 t.y0 b.1 in
    ap (λ (h : Bool). from_before r.x0 r.x1 i && h)
    (high_in r.y0 r.y1 t.y1 j pr.high (subst (λ (v : ℤ). v <ℤ t.y1) (sym y) pt.high))
    ∙ sym (and_or (from_before r.x0 r.x1 i) (from_before r.y0 r.y1 j) (from_before r.y1 t.y1 j))
    ∙ (λ n. from_before r.x0 r.x1 i && from_before r.y0 r.y1 j || from_before (x0 n) (x1 n) i
    && from_before (y n) t.y1 j)

or_last : (a b c : Bool) → ((a || c) || b) ≡ ((a || b) || c)
or_last true b c = refl
or_last false b c = or_comm c b

joined_holds : (rs : List Rectangle) (t : Rectangle) (i j : ℤ) → AllByRecursion IsProper rs → IsProper t
    → union_holds (joined rs t) i j ≡ (union_holds rs i j || holds t i j)
joined_holds [] t i j ps p = or_false (holds t i j)
joined_holds (r ∷ rs) t i j ps p = turn (stands_on r t) refl (joined_holds rs t i j ps.1 p)
  where
    turn : (b : Bool) → stands_on r t ≡ b → union_holds (joined rs t) i j ≡ (union_holds rs i j || holds t i j)
        → union_holds
        (elim b as (λ (x : Bool). List Rectangle) [ true ↦ box r.x0 r.y0 r.x1 t.y1 ∷ rs | false ↦ r ∷ joined rs t ]) i
        j ≡ ((holds r i j || union_holds rs i j) || holds t i j)
    turn true e ih = ap (λ (h : Bool). h || union_holds rs i j) (grown_holds r t i j e ps.0 p)
        ∙ or_last (holds r i j) (union_holds rs i j) (holds t i j)
    turn false e ih = ap (λ (h : Bool). holds r i j || h) ih
        ∙ sym (or_assoc (holds r i j) (union_holds rs i j) (holds t i j))

joined_proper : (rs : List Rectangle) (t : Rectangle) → AllByRecursion IsProper rs → IsProper t
    → AllByRecursion IsProper (joined rs t)
joined_proper [] t ps p = (p, tt)
joined_proper (r ∷ rs) t ps p = turn (stands_on r t) refl (joined_proper rs t ps.1 p)
  where
    turn : (b : Bool) → stands_on r t ≡ b → AllByRecursion IsProper (joined rs t)
        → AllByRecursion IsProper
        (elim b as (λ (x : Bool). List Rectangle) [ true ↦ box r.x0 r.y0 r.x1 t.y1 ∷ rs | false ↦ r ∷ joined rs t ])
    turn true e ih =
        let a = both_so (int_eq r.x0 t.x0) (int_eq r.x1 t.x1 && int_eq r.y1 t.y0) e in
        let b = both_so (int_eq r.x1 t.x1) (int_eq r.y1 t.y0) a.1 in
        let y : r.y1 ≡ t.y0 = eq_so r.y1 t.y0 b.1 in
        (record { wide = ps.0.wide; high = omega (arith, ints, ps.0.high, p.high) }, ps.1)
    turn false e ih = (ps.0, ih)

all_joined_holds : (rs ts : List Rectangle) (i j : ℤ) → AllByRecursion IsProper rs → AllByRecursion IsProper ts
    → union_holds (all_joined rs ts) i j ≡ (union_holds rs i j || union_holds ts i j)
all_joined_holds rs [] i j ps qs = sym (or_false (union_holds rs i j))
all_joined_holds rs (t ∷ ts) i j ps qs =
    all_joined_holds (joined rs t) ts i j (joined_proper rs t ps qs.0) qs.1
    ∙ ap (λ (b : Bool). b || union_holds ts i j) (joined_holds rs t i j ps qs.0)
    ∙ or_assoc (union_holds rs i j) (holds t i j) (union_holds ts i j)

all_joined_proper : (rs ts : List Rectangle) → AllByRecursion IsProper rs → AllByRecursion IsProper ts
    → AllByRecursion IsProper (all_joined rs ts)
all_joined_proper rs [] ps qs = ps
all_joined_proper rs (t ∷ ts) ps qs = all_joined_proper (joined rs t) ts (joined_proper rs t ps qs.0) qs.1

-- ---- the law

pub ring_law : (ps : List Point) (i j : ℤ) → IsRound ps → union_holds (ring_cut ps) i j ≡ ring_holds ps i j
unfolding ring_cut
ring_law [] i j round = refl
ring_law (p ∷ ps) i j round = turn (levels (p ∷ ps)) (levels_rising (p ∷ ps)) (edges_among p ps)
  where
    turn : (ls : List ℤ) → Rising ls → AreAmong ls (edges_from p ps)
        → union_holds (all_joined [] (slabs (edges_from p ps) ls)) i j ≡ odd_left (edges_from p ps) i j
    turn [] up a = none (edges_from p ps) a
      where
        none : (es : List Edge) → AreAmong [] es → false ≡ odd_left es i j
        none [] a = refl
        none (e ∷ es) a = absurd a.0
    turn (y ∷ ys) up a =
        all_joined_holds [] (slabs_from (edges_from p ps) y ys) i j tt (slabs_proper (edges_from p ps) y ys up)
        ∙ slabs_hold (edges_from p ps) (λ j. round_even (p ∷ ps) j round) y ys i j up
        (among_known y ys (edges_from p ps) a)
        ∙ low (int_le y j) refl
      where
        low : (b : Bool) → int_le y j ≡ b → (b && odd_left (edges_from p ps) i j) ≡ odd_left (edges_from p ps) i j
        low true e = refl
        low false e = sym (below_first (edges_from p ps) y i j ys up a (le_less y j e))

pub ring_proper : (ps : List Point) → AllByRecursion IsProper (ring_cut ps)
unfolding ring_cut
ring_proper ps = turn (levels ps) (levels_rising ps)
  where
    turn : (ls : List ℤ) → Rising ls → AllByRecursion IsProper (all_joined [] (slabs (edges ps) ls))
    turn [] up = tt
    turn (y ∷ ys) up = all_joined_proper [] (slabs_from (edges ps) y ys) tt (slabs_proper (edges ps) y ys up)

-- ---- a cut that is not empty has a square of the ring

-- each rectangle holds the square at its lower left corner
corner_held : (r : Rectangle) → IsProper r → holds r r.x0 r.y0 ≡ true
corner_held r p = and_from (from_before r.x0 r.x1 r.x0) (from_before r.y0 r.y1 r.y0)
    (and_from (int_le r.x0 r.x0) (int_lt r.x0 r.x1) (le_is r.x0 r.x0 (omega (arith, ints))) (lt_is r.x0 r.x1 p.wide))
    (and_from (int_le r.y0 r.y0) (int_lt r.y0 r.y1) (le_is r.y0 r.y0 (omega (arith, ints))) (lt_is r.y0 r.y1 p.high))

pub some_square : (ps : List Point) → IsRound ps → ring_cut ps ≢ [] → HasSquare ps
some_square ps round some = of (ring_cut ps) refl (ring_proper ps)
  where
    of : (rs : List Rectangle) → ring_cut ps ≡ rs → AllByRecursion IsProper rs → HasSquare ps
    of [] e proper = absurd (some e)
    of (r ∷ rs) e proper = record {
      i = r.x0;
      j = r.y0;
      inside =
          sym (ring_law ps r.x0 r.y0 round) ∙ ap (λ (k : List Rectangle). union_holds k r.x0 r.y0) e
          ∙ ap (λ (b : Bool). b || union_holds rs r.x0 r.y0) (corner_held r proper.0);
    }

-- the other way round, what holds a square is not empty
square_cut : (ps : List Point) → IsRound ps → HasSquare ps → ring_cut ps ≢ []
square_cut ps round s = λ e. (
    let h : false ≡ true = ap (λ (k : List Rectangle). union_holds k s.i s.j) (sym e) ∙ ring_law ps s.i s.j round
    ∙ s.inside in cc)

pub square_or_none : (ps : List Point) → IsRound ps → HasSquare ps ↔ (ring_cut ps ≢ [])
square_or_none ps round = (square_cut ps round, some_square ps round)
