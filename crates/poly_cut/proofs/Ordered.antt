-- A cut is in order.
use Rattle.std.proofs.Common.{◌≡◌, ℤ, ◌<ℤ◌, List, [], ◌∷◌, ◌++◌, Bool, true, false, refl, sym, subst, ◌∙◌, arith, inl}
use Rattle.std.proofs.Common.{inr}
use Rattle.std.specs.List.{AllByRecursion}
use Rattle.std.proofs.lemmas.Int.{ints}
use Rattle.std.proofs.lemmas.List.{append-nil}
use Rattle.geom.specs.Rectangle.{Rectangle}
use Rattle.poly_cut.specs.declared.layout.Point.{Point}
use Rattle.poly_cut.specs.Rings.{Edge, edges}
use Rattle.poly_cut.specs.Cuts.{box, walls, levels, between, slabs_from, slabs, stands_on, joined, all_joined, ring_cut}
use Rattle.poly_cut.specs.Code.Sweeping.{Above, Rising}
use Rattle.poly_cut.specs.Order.{Before, InOrder}
use Rattle.poly_cut.proofs.Parity.{above_lower, rising_of, walls_rising}
use Rattle.poly_cut.proofs.RingLaw.{levels_rising}

All : (Rectangle → Type 0) → List Rectangle → Type 0
All P rs = AllByRecursion P rs

both : (P : Rectangle → Type 0) (rs ts : List Rectangle) → All P rs → All P ts → All P (rs ++ ts)
unfolding All
both P [] ts a b = b
both P (r ∷ rs) ts a b = (a.0, both P rs ts a.1 b)

fronts : (P : Rectangle → Type 0) (rs ts : List Rectangle) → All P (rs ++ ts) → All P rs
unfolding All
fronts P [] ts a = tt
fronts P (r ∷ rs) ts a = (a.0, fronts P rs ts a.1)

backs : (P : Rectangle → Type 0) (rs ts : List Rectangle) → All P (rs ++ ts) → All P ts
unfolding All
backs P [] ts a = a
backs P (r ∷ rs) ts a = backs P rs ts a.1

-- ---- joining keeps the order

-- the rectangle that grew has the key that it had
joined_all : (r : Rectangle) (rs : List Rectangle) (t : Rectangle) → All (Before r) rs → Before r t
    → All (Before r) (joined rs t)
unfolding All
joined_all r [] t a b = (b, tt)
joined_all r (s ∷ rs) t a b = turn (stands_on s t) (joined_all r rs t a.1 b)
  where
    turn : (k : Bool) → AllByRecursion (Before r) (joined rs t)
        → AllByRecursion (Before r)
        (elim k as (λ (x : Bool). List Rectangle) [ true ↦ box s.x0 s.y0 s.x1 t.y1 ∷ rs | false ↦ s ∷ joined rs t ])
    turn true ih = (a.0, a.1)
    turn false ih = (a.0, ih)

without : (rs : List Rectangle) (t : Rectangle) (ts : List Rectangle) → InOrder (rs ++ t ∷ ts) → InOrder (rs ++ ts)
unfolding All
without [] t ts o = o.1
without (r ∷ rs) t ts o = (
  both (Before r) rs ts (fronts (Before r) rs (t ∷ ts) o.0)
      (backs (Before r) rs (t ∷ ts) o.0).1,
  without rs t ts o.1,
)

joined_order : (rs : List Rectangle) (t : Rectangle) (ts : List Rectangle) → InOrder (rs ++ t ∷ ts)
    → InOrder (joined rs t ++ ts)
unfolding All
joined_order [] t ts o = o
joined_order (r ∷ rs) t ts o = turn (stands_on r t) (joined_order rs t ts o.1)
  where
    front : AllByRecursion (Before r) rs
    front = fronts (Before r) rs (t ∷ ts) o.0

    back : AllByRecursion (Before r) (t ∷ ts)
    back = backs (Before r) rs (t ∷ ts) o.0

    turn : (k : Bool) → InOrder (joined rs t ++ ts)
        → InOrder
        ((elim k as (λ (x : Bool). List Rectangle) [ true ↦ box r.x0 r.y0 r.x1 t.y1 ∷ rs | false ↦ r ∷ joined rs t ])
        ++ ts)
    turn true ih = (both (Before r) rs ts front back.1, without rs t ts o.1)
    turn false ih = (both (Before r) (joined rs t) ts (joined_all r rs t front back.0) back.1, ih)

all_joined_order : (rs ts : List Rectangle) → InOrder (rs ++ ts) → InOrder (all_joined rs ts)
all_joined_order rs [] o = subst (λ (l : List Rectangle). InOrder l) (append-nil rs) o
all_joined_order rs (t ∷ ts) o = all_joined_order (joined rs t) ts (joined_order rs t ts o)

-- ---- slabs are in order

-- all at this level, right of a wall
record AtLevel (y a : ℤ) (r : Rectangle) : Type 0 where
  level : r.y0 ≡ y
  right : a <ℤ r.x0

between_level : (y z a : ℤ) (ws : List ℤ) → Above a ws → AllByRecursion (AtLevel y a) (between y z ws)
between_level y z a [] up = tt
between_level y z a (v ∷ []) up = tt
between_level y z a (v ∷ w ∷ ws) up = (
  record { level = refl; right = up.0 },
  between_level y z a ws
      (above_lower a w ws (omega (arith, ints, up.0, up.1.0)) up.1.1),
)

level_before : (r : Rectangle) (y : ℤ) (ts : List Rectangle) → r.y0 ≡ y → AllByRecursion (AtLevel y r.x0) ts
    → AllByRecursion (Before r) ts
level_before r y [] e a = tt
level_before r y (t ∷ ts) e a = (inr (e ∙ sym a.0.level, a.0.right), level_before r y ts e a.1)

between_order : (y z : ℤ) (ws : List ℤ) → Rising ws → InOrder (between y z ws)
between_order y z [] up = tt
between_order y z (v ∷ []) up = tt
between_order y z (v ∷ w ∷ ws) up = (
  level_before (box v y w z) y (between y z ws) refl
      (between_level y z v ws (above_lower v w ws up.0 up.1)),
  between_order y z ws (rising_of w ws up.1),
)

-- above a level
Higher : ℤ → Rectangle → Type 0
Higher y r = y <ℤ r.y0

level_higher : (x y z : ℤ) (ws : List ℤ) → x <ℤ y → AllByRecursion (Higher x) (between y z ws)
unfolding Higher
level_higher x y z [] lt = tt
level_higher x y z (v ∷ []) lt = tt
level_higher x y z (v ∷ w ∷ ws) lt = (lt, level_higher x y z ws lt)

slabs_higher : (es : List Edge) (x y : ℤ) (zs : List ℤ) → x <ℤ y → Above y zs
    → AllByRecursion (Higher x) (slabs_from es y zs)
unfolding All
slabs_higher es x y [] lt up = tt
slabs_higher es x y (z ∷ zs) lt up = both (Higher x) (between y z (walls es y)) (slabs_from es z zs)
    (level_higher x y z (walls es y) lt) (slabs_higher es x z zs (omega (arith, ints, lt, up.0)) up.1)

higher_before : (r : Rectangle) (ts : List Rectangle) → AllByRecursion (Higher r.y0) ts → AllByRecursion (Before r) ts
unfolding Higher
higher_before r [] a = tt
higher_before r (t ∷ ts) a = (inl a.0, higher_before r ts a.1)

after_level : (y z : ℤ) (ws : List ℤ) (ts : List Rectangle) → InOrder (between y z ws) → InOrder ts
    → AllByRecursion (Higher y) ts → InOrder (between y z ws ++ ts)
unfolding All
after_level y z [] ts a b h = b
after_level y z (v ∷ []) ts a b h = b
after_level y z (v ∷ w ∷ ws) ts a b h = (
  both (Before (box v y w z)) (between y z ws) ts a.0 (higher_before (box v y w z) ts h),
  after_level y z
      ws ts a.1 b h,
)

slabs_order : (es : List Edge) (y : ℤ) (zs : List ℤ) → Above y zs → InOrder (slabs_from es y zs)
slabs_order es y [] up = tt
slabs_order es y (z ∷ zs) up = after_level y z (walls es y) (slabs_from es z zs)
    (between_order y z (walls es y) (walls_rising es y)) (slabs_order es z zs up.1) (slabs_higher es y z zs up.0 up.1)

pub cut_order : (ps : List Point) → InOrder (ring_cut ps)
unfolding ring_cut
cut_order ps = turn (levels ps) (levels_rising ps)
  where
    turn : (ls : List ℤ) → Rising ls → InOrder (all_joined [] (slabs (edges ps) ls))
    turn [] up = tt
    turn (y ∷ ys) up = all_joined_order [] (slabs_from (edges ps) y ys) (slabs_order (edges ps) y ys up)
