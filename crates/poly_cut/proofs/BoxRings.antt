-- A ring that goes around a rectangle is cut into it alone.
use Rattle.std.specs.Prelude.{◌≡◌, ◌⊎◌, ◌<ℤ◌, ℤ, List, [], ◌∷◌, length, Option, Some, None}
use Rattle.std.proofs.Common.{refl, sym, ap, ◌∙◌, arith, inl, inr, get_or}
use Rattle.std.proofs.lemmas.Int.{ints}
use Rattle.geom.specs.Rectangle.{Rectangle}
use Rattle.poly_cut.specs.declared.layout.Point.{Point}
use Rattle.poly_cut.specs.Cuts.{box, ring_cut}
use Rattle.poly_cut.specs.Turns.{point}
use Rattle.poly_cut.specs.Code.Boxes.{AreCorners, IsBox, IsBoxOf}
use Rattle.poly_cut.proofs.RectangleCut.{cut_along_x, cut_along_y, less_first, less_second}

at_point : (p : Point) (x y : ℤ) → p.x ≡ x → p.y ≡ y → p ≡ point x y
at_point p x y ex ey = λ i. record { x = ex i; y = ey i }

-- five points
pub five : (ps : List Point) (d : Point) → length ps ≡ 5
    → ps ≡ get_or ps 0 d ∷ get_or ps 1 d ∷ get_or ps 2 d ∷ get_or ps 3 d ∷ get_or ps 4 d ∷ []
five [] d is = absurd (omega (arith, is))
five (a ∷ []) d is = absurd (omega (arith, is))
five (a ∷ b ∷ []) d is = absurd (omega (arith, is))
five (a ∷ b ∷ c ∷ []) d is = absurd (omega (arith, is))
five (a ∷ b ∷ c ∷ e ∷ []) d is = absurd (omega (arith, is))
five (a ∷ b ∷ c ∷ e ∷ f ∷ []) d is = refl
five (a ∷ b ∷ c ∷ e ∷ f ∷ g ∷ ps) d is = absurd (omega (arith, is))

-- such a ring
pub boxed_ring : (ring : List Point) (a b c d e : Point) (r : Rectangle) → ring ≡ a ∷ b ∷ c ∷ d ∷ e ∷ []
    → e.x ≡ a.x → e.y ≡ a.y
    → AreCorners a.x b.x c.x d.x a.y b.y c.y d.y ⊎ AreCorners a.y b.y c.y d.y a.x b.x c.x d.x → IsBox a c r
    → ring_cut ring ≡ r ∷ []
boxed_ring ring a b c d e r is ex ey (inl x) so =
    let second = at_point b c.x a.y x.second (sym x.first) in
    let fourth = at_point d a.x c.y x.fourth (sym x.third) in
    let last = at_point e a.x a.y ex ey in
    ap ring_cut (is ∙ (λ i. a ∷ second i ∷ c ∷ fourth i ∷ last i ∷ []))
    ∙ cut_along_x a.x c.x a.y c.y so.wide so.high ∙ ap (λ (k : Rectangle). k ∷ []) (sym so.is)
boxed_ring ring a b c d e r is ex ey (inr y) so =
    let second = at_point b a.x c.y (sym y.first) y.second in
    let fourth = at_point d c.x a.y (sym y.third) y.fourth in
    let last = at_point e a.x a.y ex ey in
    ap ring_cut (is ∙ (λ i. a ∷ second i ∷ c ∷ fourth i ∷ last i ∷ []))
    ∙ cut_along_y a.x c.x a.y c.y so.wide so.high ∙ ap (λ (k : Rectangle). k ∷ []) (sym so.is)

-- where a search answers one
pub boxed_answer : (ring : List Point) (a b c d e : Point) (found : Option Rectangle)
    → ring ≡ a ∷ b ∷ c ∷ d ∷ e ∷ [] → e.x ≡ a.x
    → e.y ≡ a.y → AreCorners a.x b.x c.x d.x a.y b.y c.y d.y ⊎ AreCorners a.y b.y c.y d.y a.x b.x c.x d.x
    → IsBoxOf a c found
    → (r : Rectangle) → found ≡ Some r → ring_cut ring ≡ r ∷ []
boxed_answer ring a b c d e None is ex ey corners so r found = cc
boxed_answer ring a b c d e (Some s) is ex ey corners so r found =
    boxed_ring ring a b c d e s is ex ey corners so ∙ ap (λ (k : Rectangle). k ∷ []) (inner found)
  where
    inner : Some s ≡ Some r → s ≡ r
    inner e = cc

same_sides : {a b c d p q r s : ℤ} → a ≡ p → b ≡ q → c ≡ r → d ≡ s → box a b c d ≡ box p q r s
same_sides e f g h = λ i. box (e i) (f i) (g i) (h i)

-- two corners of which the first is the left one: the lower one, or the upper one
pub rising : (a c : Point) (r : Rectangle) → a.x <ℤ c.x → a.y <ℤ c.y → r ≡ box a.x a.y c.x c.y → IsBox a c r
rising a c r x y is = record {
  wide = λ e. omega (arith, ints, x, e);
  high = λ e. omega (arith, ints, y, e);
  is = is ∙ (let lx = less_first a.x c.x x in let ly = less_first a.y c.y y in
      same_sides (sym lx.0) (sym ly.0) (sym lx.1) (sym ly.1));
}

pub falling : (a c : Point) (r : Rectangle) → a.x <ℤ c.x → c.y <ℤ a.y → r ≡ box a.x c.y c.x a.y → IsBox a c r
falling a c r x y is = record {
  wide = λ e. omega (arith, ints, x, e);
  high = λ e. omega (arith, ints, y, e);
  is = is ∙ (let lx = less_first a.x c.x x in let ly = less_second a.y c.y y in
      same_sides (sym lx.0) (sym ly.0) (sym lx.1) (sym ly.1));
}

-- the same from the other corner
pub rising_back : (a c : Point) (r : Rectangle) → a.x <ℤ c.x → a.y <ℤ c.y → r ≡ box a.x a.y c.x c.y → IsBox c a r
rising_back a c r x y is = record {
  wide = λ e. omega (arith, ints, x, e);
  high = λ e. omega (arith, ints, y, e);
  is = is ∙ (let lx = less_second c.x a.x x in let ly = less_second c.y a.y y in
      same_sides (sym lx.0) (sym ly.0) (sym lx.1) (sym ly.1));
}

pub falling_back : (a c : Point) (r : Rectangle) → a.x <ℤ c.x → c.y <ℤ a.y → r ≡ box a.x c.y c.x a.y → IsBox c a r
falling_back a c r x y is = record {
  wide = λ e. omega (arith, ints, x, e);
  high = λ e. omega (arith, ints, y, e);
  is = is ∙ (let lx = less_second c.x a.x x in let ly = less_first c.y a.y y in
      same_sides (sym lx.0) (sym ly.0) (sym lx.1) (sym ly.1));
}

pub ruleset corners = (rising, falling, rising_back, falling_back)
