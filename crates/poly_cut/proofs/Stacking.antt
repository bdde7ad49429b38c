-- Rectangles of a slab, joined to those below it.
use Rattle.std.proofs.Common.{◌≡◌, ℕ, zero, suc, ◌<◌, ℤ, ◌<ℤ◌, List, [], ◌∷◌, ◌++◌, Bool, true, false, cond, length}
use Rattle.std.proofs.Common.{Some, None, refl, sym, ap, subst, ◌∙◌, arith, inl, inr}
use Rattle.std.specs.Prelude.{slice_get, slice_set, ◌&&◌}
use Rattle.std.specs.Ordering.{int_cmp, int_eq, is_eq}
use Rattle.std.specs.BTreeMap.{BTreeMap}
use Rattle.std.proofs.lemmas.Int.{ints}
use Rattle.std.proofs.lemmas.Option.{same_Some}
use Rattle.std.proofs.lemmas.List.{length-append}
use Rattle.geom.specs.Rectangle.{Rectangle, IsProper}
use Rattle.poly_cut.specs.Cuts.{box, stands_on, joined}
use Rattle.poly_cut.specs.Code.Sweeping.{last_at, InSlab, IsSupport}
use Rattle.poly_cut.proofs.Places.{push_cases, set_cases, set_length}

-- ---- joining, by place

module _ (t : Rectangle) where
  by : Bool → Rectangle → List Rectangle → List Rectangle
  by true r rs = box r.x0 r.y0 r.x1 t.y1 ∷ rs
  by false r rs = r ∷ joined rs t

  joined_so : (r : Rectangle) (rs : List Rectangle) (b : Bool) → stands_on r t ≡ b → joined (r ∷ rs) t ≡ by b r rs
  unfolding by
  joined_so r rs b e = turn (stands_on r t) ∙ ap (λ (k : Bool). by k r rs) e
    where
      turn : (k : Bool)
          → (elim k as (λ (x : Bool). List Rectangle) [
            | true ↦ box r.x0 r.y0 r.x1 t.y1 ∷ rs
            | false ↦ r ∷ joined rs t
          ]) ≡ by k r rs
      turn true = refl
      turn false = refl

  pub joined_at : (rs : List Rectangle) (n : ℕ) (r : Rectangle) → slice_get rs n ≡ Some r → stands_on r t ≡ true
      → ((m : ℕ) (s : Rectangle) → slice_get rs m ≡ Some s → stands_on s t ≡ true → m ≡ n)
      → joined rs t ≡ slice_set rs n (box r.x0 r.y0 r.x1 t.y1)
  unfolding by
  joined_at [] n r g e only = absurd cc
  joined_at (s ∷ rs) zero r g e only = let w : s ≡ r = same_Some s r g in
      joined_so s rs true (ap (λ (k : Rectangle). stands_on k t) w ∙ e)
      ∙ ap (λ (k : Rectangle). box k.x0 k.y0 k.x1 t.y1 ∷ rs) w
  joined_at (s ∷ rs) (suc n) r g e only = turn (stands_on s t) refl
      (joined_at rs n r g e (λ m k p q. let z : suc m ≡ suc n = only (suc m) k p q in omega arith))
    where
      turn : (b : Bool) → stands_on s t ≡ b → joined rs t ≡ slice_set rs n (box r.x0 r.y0 r.x1 t.y1)
          → joined (s ∷ rs) t ≡ slice_set (s ∷ rs) (suc n) (box r.x0 r.y0 r.x1 t.y1)
      turn true h ih = absurd (let z : 0 ≡ suc n = only 0 s refl h in omega arith)
      turn false h ih = joined_so s rs false h ∙ ap (λ (l : List Rectangle). s ∷ l) ih

  pub joined_new : (rs : List Rectangle) → ((m : ℕ) (s : Rectangle) → slice_get rs m ≡ Some s → stands_on s t ≡ false)
      → joined rs t ≡ rs ++ t ∷ []
  unfolding by
  joined_new [] none = refl
  joined_new (s ∷ rs) none = joined_so s rs false (none 0 s refl)
      ∙ ap (λ (l : List Rectangle). s ∷ l) (joined_new rs (λ m k p. none (suc m) k p))

record Stands (r t : Rectangle) : Type 0 where
  left : r.x0 ≡ t.x0
  right : r.x1 ≡ t.x1
  level : r.y1 ≡ t.y0

stands_so : (r t : Rectangle) → stands_on r t ≡ true → Stands r t
stands_so r t e =
    let a = both (int_eq r.x0 t.x0) (int_eq r.x1 t.x1 && int_eq r.y1 t.y0) e in
    let b = both (int_eq r.x1 t.x1) (int_eq r.y1 t.y0) a.1 in
    record { left = eq_so r.x0 t.x0 a.0; right = eq_so r.x1 t.x1 b.0; level = eq_so r.y1 t.y0 b.1 }
  where
    eq_so : (a b : ℤ) → int_eq a b ≡ true → a ≡ b
    eq_so a b e = grind (arith, ints)

    both : (p q : Bool) → (p && q) ≡ true → (p ≡ true) × (q ≡ true)
    both true q e = (refl, e)
    both false q e = absurd cc

pub left_so : (r t : Rectangle) → stands_on r t ≡ true → r.x0 ≡ t.x0
left_so r t e = (stands_so r t e).left

pub right_so : (r t : Rectangle) → stands_on r t ≡ true → r.x1 ≡ t.x1
right_so r t e = (stands_so r t e).right

pub stands_is : (r t : Rectangle) → r.x0 ≡ t.x0 → r.x1 ≡ t.x1 → r.y1 ≡ t.y0 → stands_on r t ≡ true
stands_is r t a b c = (λ n. eq_is r.x0 t.x0 a n && (eq_is r.x1 t.x1 b n && eq_is r.y1 t.y0 c n))
  where
    eq_is : (a b : ℤ) → a ≡ b → int_eq a b ≡ true
    eq_is a b e = grind (arith, ints)

pub level_so : (r t : Rectangle) → stands_on r t ≡ true → r.y1 ≡ t.y0
level_so r t e = (stands_so r t e).level

module _ (rects : List Rectangle) (last : BTreeMap ℤ ℕ) (t : Rectangle) (proper : IsProper t)
    (slab : InSlab rects last t.y0 t.y1 t.x0) where
  level_is_not : t.y1 ≡ t.y0 → ⊥
  level_is_not e = omega (arith, ints, proper.high)

  -- ---- t stands on the rectangle at place n

  module _ (n : ℕ) (r : Rectangle) (found : last_at last t.x0 ≡ Some n) (got : slice_get rects n ≡ Some r)
      (on : stands_on r t ≡ true) where
    pub joined_there : joined rects t ≡ slice_set rects n (box r.x0 r.y0 r.x1 t.y1)
    joined_there = joined_at t rects n r got on (λ m s p q.
        let h = stands_so s t q in
        let e : last_at last s.x0 ≡ Some m = slab.below m s p h.level (omega (arith, ints, h.left)) in
        same_Some m n (sym e ∙ ap (λ (x : ℤ). last_at last x) h.left ∙ found))

    pub slab_there : (left : ℤ) → t.x0 <ℤ left → InSlab (slice_set rects n (box r.x0 r.y0 r.x1 t.y1)) last
        t.y0 t.y1 left
    slab_there left lt = let whole = box r.x0 r.y0 r.x1 t.y1 in let h = stands_so r t on in record {
      stand = λ x m e. (let k : m < length rects = slab.stand x m e in rw (set_length rects n whole) k);
      below = λ m s p e le. elim (set_cases rects n whole s m p) [
        | inl old ↦ slab.below m s old e (omega (arith, ints, lt, le))
        | inr new ↦ absurd (level_is_not (ap (λ (k : Rectangle). k.y1) new.1 ∙ e))
      ];
      here = λ m s p e. elim (set_cases rects n whole s m p) [
        | inl old ↦ (let q = slab.here m s old e in (omega (arith, ints, q.0, lt), q.1))
        | inr new ↦
            let x : t.x0 ≡ s.x0 = sym h.left ∙ ap (λ (k : Rectangle). k.x0) new.1 in
            (subst (λ (v : ℤ). v <ℤ left) x lt, ap (λ (v : ℤ). last_at last v) (sym x) ∙ found ∙ ap Some (sym new.0))
      ];
      lower = λ m s p. elim (set_cases rects n whole s m p) [
        | inl old ↦ slab.lower m s old
        | inr new ↦ (let y : t.y1 ≡ s.y1 = ap (λ (k : Rectangle). k.y1) new.1 in omega (arith, ints, y))
      ];
    }

  -- ---- t stands on none

  module _ (none : IsSupport rects last t None) where
    pub joined_last : joined rects t ≡ rects ++ t ∷ []
    joined_last = joined_new t rects (λ m s p. turn m s p (stands_on s t) refl)
      where
        turn : (m : ℕ) (s : Rectangle) → slice_get rects m ≡ Some s → (b : Bool) → stands_on s t ≡ b
            → stands_on s t ≡ false
        turn m s p false q = q
        turn m s p true q =
            let h = stands_so s t q in
            let e : last_at last s.x0 ≡ Some m = slab.below m s p h.level (omega (arith, ints, h.left)) in
            none m s (ap (λ (x : ℤ). last_at last x) (sym h.left) ∙ e) p

    -- the last at t's left edge is now the one behind these, and elsewhere it is what it was
    module _ (after : BTreeMap ℤ ℕ)
        (put : (x : ℤ) → last_at after x ≡ cond (is_eq (int_cmp t.x0 x)) (Some (length rects)) (last_at last x)) where
      at_other : (x : ℤ) → (t.x0 ≡ x → ⊥) → last_at after x ≡ last_at last x
      at_other x ne = put x ∙ ap (λ (b : Bool). cond b (Some (length rects)) (last_at last x)) (is_not t.x0 x ne)
        where
          is_not : (a b : ℤ) → (a ≡ b → ⊥) → is_eq (int_cmp a b) ≡ false
          is_not a b ne = grind (arith, ints)

      at_same : last_at after t.x0 ≡ Some (length rects)
      at_same = put t.x0 ∙ ap (λ (b : Bool). cond b (Some (length rects)) (last_at last t.x0)) (is t.x0)
        where
          is : (a : ℤ) → is_eq (int_cmp a a) ≡ true
          is a = grind (arith, ints)

      stand_cases : (x : ℤ) (m : ℕ) (b : Bool) → cond b (Some (length rects)) (last_at last x) ≡ Some m
          → m < length (rects ++ t ∷ [])
      stand_cases x m true e = let k : length rects ≡ m = same_Some (length rects) m e in
          omega (arith, length-append rects (t ∷ []))
      stand_cases x m false e = let k : m < length rects = slab.stand x m e in
          omega (arith, length-append rects (t ∷ []))

      pub slab_last : (left : ℤ) → t.x0 <ℤ left → InSlab (rects ++ t ∷ []) after t.y0 t.y1 left
      slab_last left lt = record {
        stand = λ x m e. stand_cases x m (is_eq (int_cmp t.x0 x)) (sym (put x) ∙ e);
        below = λ m s p e le. elim (push_cases rects t s m p) [
          | inl old ↦ at_other s.x0 (λ x. omega (arith, ints, x, lt, le))
              ∙ slab.below m s old e (omega (arith, ints, lt, le))
          | inr new ↦ absurd (level_is_not (ap (λ (k : Rectangle). k.y1) new.1 ∙ e))
        ];
        here = λ m s p e. elim (push_cases rects t s m p) [
          | inl old ↦ (let q = slab.here m s old e in
              (omega (arith, ints, q.0, lt), at_other s.x0 (λ x. omega (arith, ints, x, q.0)) ∙ q.1))
          | inr new ↦
              let x : t.x0 ≡ s.x0 = ap (λ (k : Rectangle). k.x0) new.1 in (
                subst (λ (v : ℤ). v <ℤ left) x lt,
                ap (λ (v : ℤ). last_at after v) (sym x) ∙ at_same
                    ∙ ap Some (sym new.0),
              )
        ];
        lower = λ m s p. elim (push_cases rects t s m p) [
          | inl old ↦ slab.lower m s old
          | inr new ↦ (let y : t.y1 ≡ s.y1 = ap (λ (k : Rectangle). k.y1) new.1 in omega (arith, ints, y))
        ];
      }
