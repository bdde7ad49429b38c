-- The frames have one order as cells.
use Rattle.std.proofs.Common.{◌≡◌, ℕ, zero, suc, ◌<◌, ◌⊎◌, inl, inr, true, List, [], ◌∷◌, Some, ℤ, refl, sym, ap, subst}
use Rattle.std.proofs.Common.{◌∙◌, arith}
use Rattle.std.specs.Prelude.{slice_get, int_lt, nat_lt, ◌&&◌, ◌||◌}
use Rattle.std.specs.Ordering.{int_eq}
use Rattle.std.proofs.lemmas.Bool.{cases_lt}
use Rattle.std.proofs.lemmas.Bool.Decides.{nat_tests}
use Rattle.std.proofs.lemmas.Int.{ints}
use Rattle.std.proofs.lemmas.Option.{same_Some}
use Rattle.geom.specs.declared.shapes.Shape.{Shape}
use Rattle.layout_rules.proofs.Deciding.{settled}
use Rattle.shape_extract.specs.Frames.{comes_before, HasPlace, AreFrames}

one_way : (a b x y : ℤ) (f g : ℕ)
    → (int_lt a b || (int_eq a b && (int_lt x y || (int_eq x y && nat_lt f g)))) ≡ true
    → (int_lt b a || (int_eq b a && (int_lt y x || (int_eq y x && nat_lt g f)))) ≡ true → ⊥
one_way a b x y f g p q = grind (arith, ints, nat_tests)

-- the frame of the first number comes before that of the second
record IsBefore (shapes : List Shape) (f g : ℕ) : Type 0 where
  pub s : Shape
  pub t : Shape
  pub s_is : slice_get shapes f ≡ Some s
  pub t_is : slice_get shapes g ≡ Some t
  pub so : comes_before s f t g ≡ true

before_once : (shapes : List Shape) (f g : ℕ) → IsBefore shapes f g → IsBefore shapes g f → ⊥
before_once shapes f g a b =
    let s : b.t ≡ a.s = same_Some b.t a.s (sym b.t_is ∙ a.s_is) in
    let t : b.s ≡ a.t = same_Some b.s a.t (sym b.s_is ∙ a.t_is) in
    one_way a.s.rect.y0 a.t.rect.y0 a.s.rect.x0 a.t.rect.x0 f g a.so (ap (λ (x : Shape). comes_before a.t g x f) (sym s)
    ∙ ap (λ (x : Shape). comes_before x g b.t f) (sym t) ∙ b.so)

Ordered : List Shape → List ℕ → Type 0
Ordered shapes frames = (c d f g : ℕ) → c < d → slice_get frames c ≡ Some f
    → slice_get frames d ≡ Some g → IsBefore shapes f g

are_ordered : (shapes : List Shape) (frames : List ℕ) → AreFrames shapes frames → Ordered shapes frames
unfolding Ordered
are_ordered shapes frames are c d f g lt p q =
    let s = are.only c f p in
    let t = are.only d g q in
    record {
      s = s.shape;
      t = t.shape;
      s_is = s.shape_is;
      t_is = t.shape_is;
      so = are.in_order c d f g s.shape t.shape lt p q s.shape_is t.shape_is;
    }

ordered_tail : (shapes : List Shape) (f : ℕ) (fs : List ℕ) → Ordered shapes (f ∷ fs) → Ordered shapes fs
unfolding Ordered
ordered_tail shapes f fs ordered c d g h lt p q = ordered (suc c) (suc d) g h (omega arith) p q

later : (f g : ℕ) (gs : List ℕ) → HasPlace (g ∷ gs) f → (g ≡ f) ⊎ HasPlace gs f
later f g gs has = by_place has.place has.there
  where
    by_place : (k : ℕ) → slice_get (g ∷ gs) k ≡ Some f → (g ≡ f) ⊎ HasPlace gs f
    by_place zero is = inl (same_Some g f is)
    by_place (suc k) is = inr (record { place = k; there = is })

earlier : (f g : ℕ) (gs : List ℕ) → HasPlace gs f → HasPlace (g ∷ gs) f
earlier f g gs has = record { place = suc has.place; there = has.there }

first_before : (shapes : List Shape) (f g : ℕ) (fs : List ℕ) → Ordered shapes (f ∷ fs)
    → HasPlace fs g → IsBefore shapes f g
unfolding Ordered
first_before shapes f g fs ordered has = ordered 0 (suc has.place) f g (omega arith) refl has.there

Within : List ℕ → List ℕ → Type 0
Within fs gs = (f : ℕ) → HasPlace fs f → HasPlace gs f

within_tail : (shapes : List Shape) (f g : ℕ) (fs gs : List ℕ) → f ≡ g → Ordered shapes (f ∷ fs)
    → Within (f ∷ fs) (g ∷ gs) → Within fs gs
unfolding Within
within_tail shapes f g fs gs e ordered all x has = elim (later x g gs (all x (earlier x f fs has))) [
  | inl same ↦ absurd (let b : IsBefore shapes f f = subst (λ (y : ℕ). IsBefore shapes f y) (sym (e ∙ same))
      (first_before shapes f x fs ordered has) in before_once shapes f f b b)
  | inr there ↦ there
]

one_list : (shapes : List Shape) (fs gs : List ℕ) → Ordered shapes fs → Ordered shapes gs
    → Within fs gs → Within gs fs → fs ≡ gs
unfolding Within
one_list shapes [] [] first second there back = refl
one_list shapes [] (g ∷ gs) first second there back =
    absurd (let has = back g (record { place = 0; there = refl }) in let e = has.there in cc)
one_list shapes (f ∷ fs) [] first second there back =
    absurd (let has = there f (record { place = 0; there = refl }) in let e = has.there in cc)
one_list shapes (f ∷ fs) (g ∷ gs) first second there back =
    let same : f ≡ g = settled f g (λ ne. elim (later f g gs (there f (record { place = 0; there = refl }))) [
      | inl e ↦ ne (sym e)
      | inr in_gs ↦ elim (later g f fs (back g (record { place = 0; there = refl }))) [
        | inl e ↦ ne e
        | inr in_fs ↦ before_once shapes f g (first_before shapes f g fs first in_fs)
            (first_before shapes g f gs second in_gs)
      ]
    ]) in
    ap (λ (x : ℕ). x ∷ fs) same
    ∙ ap (λ (xs : List ℕ). g ∷ xs)
    (one_list shapes fs gs (ordered_tail shapes f fs first) (ordered_tail shapes g gs second)
    (within_tail shapes f g fs gs same first there) (within_tail shapes g f gs fs (sym same) second back))

all_within : (shapes : List Shape) (fs gs : List ℕ) → AreFrames shapes fs → AreFrames shapes gs → Within fs gs
unfolding Within
all_within shapes fs gs first second f has = second.each f (first.only has.place f has.there)

-- the frames in order are one list
pub one_order : (shapes : List Shape) (fs gs : List ℕ) → AreFrames shapes fs → AreFrames shapes gs → fs ≡ gs
one_order shapes fs gs first second = one_list shapes fs gs (are_ordered shapes fs first) (are_ordered shapes gs second)
    (all_within shapes fs gs first second) (all_within shapes gs fs second first)

-- and each has one place
pub one_place : (shapes : List Shape) (fs : List ℕ) → AreFrames shapes fs → (c d f : ℕ) → slice_get fs c ≡ Some f
    → slice_get fs d ≡ Some f → c ≡ d
unfolding Ordered
one_place shapes fs are c d f p q = settled c d (λ ne. elim (cases_lt c d) [
  | inl lt ↦ let b = are_ordered shapes fs are c d f f lt p q in before_once shapes f f b b
  | inr ge ↦ let b = are_ordered shapes fs are d c f f (omega arith) q p in before_once shapes f f b b
])
