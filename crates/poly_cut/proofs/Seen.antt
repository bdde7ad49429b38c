-- Rectangles as far as a level.
use Rattle.std.proofs.Common.{◌≡◌, ℤ, ◌<ℤ◌, ◌≤ℤ◌, Bool, true, false, refl, ap, arith}
use Rattle.std.specs.Prelude.{int_le, int_lt}
use Rattle.std.proofs.lemmas.Int.{ints}
use Rattle.geom.specs.Rectangle.{Rectangle}
use Rattle.poly_cut.specs.Cuts.{box, lesser}
use Rattle.poly_cut.specs.Code.Levels.{cut_off, seen}
use Rattle.poly_cut.proofs.Parity.{le_is, le_so, lt_is, lt_not}

lesser_first : (a b : ℤ) → a ≤ℤ b → lesser a b ≡ a
lesser_first a b h = ap (λ (k : Bool). elim k as (λ (x : Bool). ℤ) [ true ↦ a | false ↦ b ]) (le_is a b h)

lesser_second : (a b : ℤ) → b ≤ℤ a → lesser a b ≡ b
lesser_second a b h = turn (int_le a b) refl
  where
    equal : (a b : ℤ) → a ≤ℤ b → b ≤ℤ a → a ≡ b
    equal a b h k = grind (arith, ints)

    turn : (k : Bool) → int_le a b ≡ k → (elim k as (λ (x : Bool). ℤ) [ true ↦ a | false ↦ b ]) ≡ b
    turn true e = equal a b (le_so a b e) h
    turn false e = refl

pub cut_low : (y : ℤ) (r : Rectangle) → r.y1 ≤ℤ y → cut_off y r ≡ r
cut_low y r h = ap (λ (t : ℤ). box r.x0 r.y0 r.x1 t) (lesser_second y r.y1 h)

pub cut_high : (y : ℤ) (r : Rectangle) → y ≤ℤ r.y1 → cut_off y r ≡ box r.x0 r.y0 r.x1 y
cut_high y r h = ap (λ (t : ℤ). box r.x0 r.y0 r.x1 t) (lesser_first y r.y1 h)

-- what is cut off ends at the level at most
pub cut_below : (y : ℤ) (r : Rectangle) → (cut_off y r).y1 ≤ℤ y
cut_below y r = turn (int_le y r.y1) refl
  where
    turn : (k : Bool) → int_le y r.y1 ≡ k → (elim k as (λ (x : Bool). ℤ) [ true ↦ y | false ↦ r.y1 ]) ≤ℤ y
    turn true e = omega (arith, ints)
    turn false e = less y r.y1 e
      where
        less : (a b : ℤ) → int_le a b ≡ false → b ≤ℤ a
        less a b e = grind (arith, ints)

pub seen_left : (c y z : ℤ) (r : Rectangle) → r.x0 <ℤ c → seen c y z r ≡ cut_off z r
seen_left c y z r h = ap (λ (k : Bool). cut_off (elim k as (λ (x : Bool). ℤ) [ true ↦ z | false ↦ y ]) r)
    (lt_is r.x0 c h)

pub seen_right : (c y z : ℤ) (r : Rectangle) → c ≤ℤ r.x0 → seen c y z r ≡ cut_off y r
seen_right c y z r h = ap (λ (k : Bool). cut_off (elim k as (λ (x : Bool). ℤ) [ true ↦ z | false ↦ y ]) r)
    (lt_not r.x0 c h)

-- what ends below both levels is seen whole
pub seen_low : (c y z : ℤ) (r : Rectangle) → y <ℤ z → r.y1 ≤ℤ y → seen c y z r ≡ r
seen_low c y z r lt h = turn (int_lt r.x0 c)
  where
    turn : (k : Bool) → cut_off (elim k as (λ (x : Bool). ℤ) [ true ↦ z | false ↦ y ]) r ≡ r
    turn true = cut_low z r (omega (arith, ints, lt, h))
    turn false = cut_low y r h
