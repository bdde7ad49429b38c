-- Shapes that pass a test together with one are those that pass among the near ones.
use Rattle.std.proofs.Common.{◌≡◌, ℕ, zero, suc, ◌<◌, ◌⊎◌, Bool, true, false, List, [], ◌∷◌, length, get_or, drop, ◌&&◌}
use Rattle.std.proofs.Common.{ℤ, Option, Some, None, refl, sym, ap, subst, ◌∙◌, arith, inl, inr}
use Rattle.std.specs.Prelude.{slice_get, slice_index, Contains, int_le}
use Rattle.std.specs.List.Sorted.{IsStrictlyIncreasing}
use Rattle.std.proofs.lemmas.Int.{ints}
use Rattle.std.specs.List.{filter}
use Rattle.std.proofs.lemmas.Bool.{both_ways, and_parts, and_from}
use Rattle.std.proofs.lemmas.Grind.{get_or_default_zero}
use Rattle.std.proofs.lemmas.List.{length-map, get_or-drop}
use Rattle.std.proofs.lemmas.List.Elements.{filter_passes}
use Rattle.std.proofs.lemmas.List.Filters.{FiltersInPlace}
use Rattle.std.proofs.lemmas.List.Kept.{AllPairs-from_increasing, IsStrictlyIncreasing-filter}
use Rattle.std.proofs.lemmas.Option.{same_Some, slice_get_within, slice_get-map}
use Rattle.geom.specs.Rectangle.{Rectangle, IsProper, AreProper, holds_point, share_x, share_y, share_point}
use Rattle.geom.specs.Near.{rects_of, IsClose, AreNear}
use Rattle.geom.specs.declared.shapes.Shape.{Shape}
use Rattle.layout_rules.specs.Reports.{PassTogether}
use Rattle.shape_extract.specs.Passing.{PassesIn}
use Rattle.shape_extract.specs.Searches.{AreThose, passes_in, passes_at, passes_with}

-- ---- filters

-- the element is the first or a later one
place_cases : (y : ℕ) (ys : List ℕ) (x k : ℕ) → k < length (y ∷ ys) → get_or (y ∷ ys) k x ≡ x → Contains ys x ⊎ (y ≡ x)
place_cases y ys x zero lt e = inr e
place_cases y ys x (suc k) lt e = inl (k, omega arith, e)

filter_head : (p : ℕ → Bool) (y : ℕ) (ys : List ℕ) (x : ℕ) → p x ≡ true → (Contains ys x → Contains (filter p ys) x)
    → (b : Bool) → p y ≡ b → Contains ys x ⊎ (y ≡ x) → Contains (filter p (y ∷ ys)) x
filter_head p y ys x h rest true e (inl later) = (let k = rest later in rw e (suc k.0, omega (arith, k.1), k.2))
filter_head p y ys x h rest true e (inr here) = rw e (0, omega arith, here)
filter_head p y ys x h rest false e (inl later) = rw e (rest later)
filter_head p y ys x h rest false e (inr here) = absurd (both_ways (p y) e (ap p here ∙ h))

contains_filter : (p : ℕ → Bool) (xs : List ℕ) (x : ℕ) → p x ≡ true → Contains xs x → Contains (filter p xs) x
contains_filter p [] x h c = absurd (let lt = c.1 in omega arith)
contains_filter p (y ∷ ys) x h c = filter_head p y ys x h (contains_filter p ys x h) (p y) refl
    (place_cases y ys x c.0 c.1 c.2)

-- ---- partners

record IsShapeAt (test : Shape → Bool) (shapes : List Shape) (n : ℕ) : Type 0 where
  pub shape : Shape
  pub shape_is : slice_get shapes n ≡ Some shape
  pub passes_so : test shape ≡ true

shape_at : (test : Shape → Bool) (shapes : List Shape) (n : ℕ) → passes_in test (slice_get shapes n) ≡ true
    → IsShapeAt test shapes n
shape_at test shapes n e = by_case (slice_get shapes n) refl
  where
    by_case : (o : Option Shape) → slice_get shapes n ≡ o → IsShapeAt test shapes n
    by_case None is = absurd (let k : false ≡ true = sym (ap (passes_in test) is) ∙ e in cc)
    by_case (Some s) is = record { shape = s; shape_is = is; passes_so = sym (ap (passes_in test) is) ∙ e }

pub rect_at : (shapes : List Shape) (n : ℕ) (s : Shape) → slice_get shapes n ≡ Some s
    → slice_get (rects_of shapes) n ≡ Some s.rect
rect_at shapes n s is = slice_get-map (λ (t : Shape). t.rect) shapes n ∙ (rw is refl)

-- ---- what a test of numbers keeps of rising ones

pub those_near : (holds : ℕ → Type 0) (p : ℕ → Bool) (near found : List ℕ) → found ≡ filter p near
    → IsStrictlyIncreasing near → ((n : ℕ) → p n ≡ true → holds n) → ((n : ℕ) → holds n → Contains near n)
    → ((n : ℕ) → holds n → p n ≡ true) → AreThose holds found
those_near holds p near found filtered up sound complete passes = subst (AreThose holds) (sym filtered) (record {
  each = λ k lt. sound (slice_index (filter p near) k) (filter_passes p near k 0 lt);
  complete = λ n h. (let kept = contains_filter p near n (passes n h) (complete n h) in
      (kept.0, (kept.1, sym (get_or_default_zero (filter p near) kept.0 n kept.1) ∙ kept.2)));
  rising = λ k l lt len. AllPairs-from_increasing (filter p near) (IsStrictlyIncreasing-filter p near up) k l 0 lt len;
})

module _ (test : Shape → Shape → Bool) (shapes : List Shape) (a : ℕ) (first : Shape) (margin : ℕ) (near found : List ℕ)
    (first_is : slice_get shapes a ≡ Some first) (close : (s t : Shape) → IsProper s.rect → IsProper t.rect
    → test s t ≡ true → IsClose s.rect t.rect margin) (proper : AreProper (rects_of shapes))
    (are : AreNear (rects_of shapes) first.rect margin near)
    (filtered : found ≡ filter (passes_with test first shapes) near) where
  pub partners_are : AreThose (PassTogether test shapes a) found
  partners_are = those_near (PassTogether test shapes a) (passes_with test first shapes) near found filtered are.rising
      (λ n e. (
      let at : IsShapeAt (test first) shapes n = shape_at (test first) shapes n e in
      record {
        first = first;
        second = at.shape;
        first_is = first_is;
        second_is = at.shape_is;
        passes_so = at.passes_so;
      }))
      (λ b pass. (
      let second = rect_at shapes b pass.second pass.second_is in
      are.complete b (record {
        other = pass.second.rect;
        other_is = second;
        close = close first pass.second (proper a first.rect (rect_at shapes a first first_is))
            (proper b pass.second.rect second) (so b pass);
      })))
      (λ b pass. ap (passes_in (test first)) pass.second_is ∙ so b pass)
    where
      so : (b : ℕ) (pass : PassTogether test shapes a b) → test first pass.second ≡ true
      so b pass = ap (λ (s : Shape). test s pass.second) (same_Some first pass.first (sym first_is ∙ pass.first_is))
          ∙ pass.passes_so

-- numbers of near ones are numbers of shapes
pub near_within : (shapes : List Shape) (rect : Rectangle) (margin : ℕ) (near : List ℕ)
    → AreNear (rects_of shapes) rect margin near → (k d : ℕ) → k < length near → get_or near k d < length shapes
near_within shapes rect margin near are k d lt =
    (let at = are.each k d lt in omega (
      arith,
      slice_get_within (rects_of shapes) (get_or near k d) at.other at.other_is,
      length-map shapes
          (λ (t : Shape). t.rect),
    ))

-- what is not yet tried is as it was
read_drop : (xs : List ℕ) (i x : ℕ) → get_or (drop i xs) 0 x ≡ get_or xs i x
read_drop xs i x = get_or-drop i xs 0 x ∙ ap (λ (n : ℕ). get_or xs n x) (omega arith)

pub untried : (p : ℕ → Bool) (xs ys : List ℕ) (k i x : ℕ) → FiltersInPlace p xs ys k i
    → x ≡ get_or ys i x → x ≡ get_or xs i x
untried p xs ys k i x f e = e ∙ (sym (read_drop ys i x) ∙ (ap (λ (l : List ℕ). get_or l 0 x) f.rest ∙ read_drop xs i x))

-- the test of a number is that of its shape
pub tested : (test : Shape → Shape → Bool) (first s : Shape) (shapes : List Shape) (n : ℕ) (b : Bool)
    → slice_get shapes n ≡ Some s → test first s ≡ b → passes_with test first shapes n ≡ b
tested test first s shapes n b is e = ap (passes_in (test first)) is ∙ e

-- a number of which the test holds is that of a shape that passes
pub passes_here : (test : Shape → Bool) (shapes : List Shape) (n : ℕ)
    → passes_at test shapes n ≡ true → PassesIn test shapes n
passes_here test shapes n e =
    (let s : IsShapeAt test shapes n =
    shape_at test shapes n e in record { item = s.shape; item_is = s.shape_is; passes_so = s.passes_so })

-- ---- labels

pub holding_share : (a b : Rectangle) (x y : ℤ) → holds_point a x y ≡ true
    → holds_point b x y ≡ true → share_point a b ≡ true
holding_share a b x y p q =
    let pa = and_parts (int_le a.x0 x && int_le x a.x1) (int_le a.y0 y && int_le y a.y1) p in
    let pb = and_parts (int_le b.x0 x && int_le x b.x1) (int_le b.y0 y && int_le y b.y1) q in
    and_from (share_x a b) (share_y a b) (along a.x0 a.x1 b.x0 b.x1 x pa.0 pb.0) (along a.y0 a.y1 b.y0 b.y1 y pa.1 pb.1)
  where
    along : (a c e g x : ℤ) → (int_le a x && int_le x c) ≡ true → (int_le e x && int_le x g) ≡ true
        → (int_le a g && int_le e c) ≡ true
    along a c e g x p q = grind (arith, ints)

pub tested_at : (test : Shape → Bool) (s : Shape) (shapes : List Shape) (n : ℕ) (b : Bool) → slice_get shapes n ≡ Some s
    → test s ≡ b → passes_at test shapes n ≡ b
tested_at test s shapes n b is e = ap (passes_in test) is ∙ e

pub point_held : (x y x0 y0 x1 y1 : ℤ) → int_le x0 x ≡ true → int_le x x1 ≡ true → int_le y0 y ≡ true
    → int_le y y1 ≡ true → holds_point (record { x0 = x0; y0 = y0; x1 = x1; y1 = y1 }) x y ≡ true
point_held x y x0 y0 x1 y1 a b c d = and_from (int_le x0 x && int_le x x1) (int_le y0 y && int_le y y1)
    (and_from (int_le x0 x) (int_le x x1) a b) (and_from (int_le y0 y) (int_le y y1) c d)
