-- A boundary that is a rectangle is a ring that is cut into that rectangle alone.
use Rattle.std.proofs.Common.{◌≡◌, ℕ, ◌+◌, ◌*◌, ◌^◌, ◌<◌, ℤ, List, [], ◌∷◌, Bool, true, false, length, take, drop, refl}
use Rattle.std.proofs.Common.{sym, ap, ◌∙◌, arith, ◌⊎◌, inl, inr}
use Rattle.std.specs.Prelude.{not, ◌&&◌, ◌||◌, ◌==◌, ◌/◌}
use Rattle.std.specs.Int.{w32, from_be_bytes, cast_signed, cast_unsigned}
use Rattle.std.proofs.lemmas.Bool.{eqb-true, eqb-false}
use Rattle.std.specs.Ordering.{int_eq}
use Rattle.std.proofs.lemmas.Int.{of_z-to_z, ints}
use Rattle.std.proofs.lemmas.List.{drop-drop}
use Rattle.poly_cut.specs.declared.layout.Point.{Point}
use Rattle.poly_cut.specs.Cuts.{ring_cut, box, lesser, greater}
use Rattle.poly_cut.specs.Turns.{point}
use Rattle.gds_records.specs.Values.{at, is_rectangle}
use Rattle.gds_records.specs.Drawing.{coordinate, box_of}
use Rattle.gds_records.specs.WideValues.{some_points, points, is_round, is_ring}

-- ---- the five points

pub further : (xy : List ℕ) (i : ℕ) → coordinate (drop 8 xy) i ≡ coordinate xy (i + 2)
further xy i =
    let e : 8 + 4 * i ≡ 4 * (i + 2) = omega arith in
    ap (λ (l : List ℕ). cast_signed w32 (from_be_bytes w32 (take 4 l)))
    (drop-drop (4 * i) 8 xy ∙ ap (λ (n : ℕ). drop n xy) e)

next_point : (xy : List ℕ) (i : ℕ) → point (coordinate (drop 8 xy) i) (coordinate (drop 8 xy) (i + 1)) ≡ point
    (coordinate xy (i + 2)) (coordinate xy (i + 1 + 2))
next_point xy i = λ k. point (further xy i k) (further xy (i + 1) k)

five_points : (xy : List ℕ) → length xy ≡ 40
    → points xy ≡ point (coordinate xy 0) (coordinate xy 1) ∷ point (coordinate xy 2) (coordinate xy 3)
    ∷ point (coordinate xy 4) (coordinate xy 5) ∷ point (coordinate xy 6) (coordinate xy 7)
    ∷ point (coordinate xy 8) (coordinate xy 9) ∷ []
five_points xy e =
    ap (λ (n : ℕ). some_points (n / 8) xy) e
    ∙ (λ k. point (coordinate xy 0) (coordinate xy 1)
    ∷ point (further xy 0 k) (further xy 1 k)
    ∷ point ((further (drop 8 xy) 0 ∙ further xy 2) k) ((further (drop 8 xy) 1 ∙ further xy 3) k)
    ∷ point ((further (drop 8 (drop 8 xy)) 0 ∙ further (drop 8 xy) 2 ∙ further xy 4) k)
    ((further (drop 8 (drop 8 xy)) 1 ∙ further (drop 8 xy) 3 ∙ further xy 5) k)
    ∷ point
    ((further (drop 8 (drop 8 (drop 8 xy))) 0 ∙ further (drop 8 (drop 8 xy)) 2 ∙ further (drop 8 xy) 4
    ∙ further xy 6) k)
    ((further (drop 8 (drop 8 (drop 8 xy))) 1 ∙ further (drop 8 (drop 8 xy)) 3 ∙ further (drop 8 xy) 5
    ∙ further xy 7) k) ∷ [])

-- ---- equal bits and other bits

and_so : (p q : Bool) → (p && q) ≡ true → (p ≡ true) × (q ≡ true)
and_so true q e = (refl, e)
and_so false q e = absurd cc

or_so : (p q : Bool) → (p || q) ≡ true → (p ≡ true) ⊎ (q ≡ true)
or_so true q e = inl refl
or_so false q e = inr e

not_so : (p : Bool) → not p ≡ true → p ≡ false
not_so true e = absurd cc
not_so false e = refl

bits_same : (xy : List ℕ) (i j : ℕ) → (at xy i == at xy j) ≡ true → coordinate xy i ≡ coordinate xy j
bits_same xy i j e = ap (λ (n : ℕ). cast_signed w32 n) (eqb-true (at xy i) (at xy j) e)

bits_other : (xy : List ℕ) (i j : ℕ) → at xy i < 2 ^ 32 → at xy j < 2 ^ 32 → (at xy i == at xy j) ≡ false
    → coordinate xy i ≡ coordinate xy j → ⊥
bits_other xy i j a b e q =
    eqb-false (at xy i) (at xy j) e (sym (of_z-to_z w32 (at xy i) a) ∙ ap (λ (z : ℤ). cast_unsigned w32 z) q
    ∙ of_z-to_z w32 (at xy j) b)

-- what the test of a rectangle says
record Corners (xy : List ℕ) : Type 0 where
  five : length xy ≡ 40
  back_x : coordinate xy 0 ≡ coordinate xy 8
  back_y : coordinate xy 1 ≡ coordinate xy 9
  wide : coordinate xy 0 ≡ coordinate xy 4 → ⊥
  high : coordinate xy 1 ≡ coordinate xy 5 → ⊥
  round : ((coordinate xy 1 ≡ coordinate xy 3) × (coordinate xy 2 ≡ coordinate xy 4)
      × (coordinate xy 5 ≡ coordinate xy 7) × (coordinate xy 6 ≡ coordinate xy 0))
      ⊎ ((coordinate xy 0 ≡ coordinate xy 2) × (coordinate xy 3 ≡ coordinate xy 5) × (coordinate xy 4 ≡ coordinate xy 6)
      × (coordinate xy 7 ≡ coordinate xy 1))

corners : (xy : List ℕ) → ((k : ℕ) → at xy k < 2 ^ 32) → is_rectangle xy ≡ true → Corners xy
corners xy fits h =
    let a = and_so _ _ h in
    let b = and_so _ _ a.0 in
    let c = and_so _ _ b.0 in
    let d = and_so _ _ c.0 in
    let e = and_so _ _ d.0 in
    record {
      five = eqb-true (length xy) 40 e.0;
      back_x = bits_same xy 0 8 e.1;
      back_y = bits_same xy 1 9 d.1;
      wide = bits_other xy 0 4 (fits 0) (fits 4) (not_so (at xy 0 == at xy 4) c.1);
      high = bits_other xy 1 5 (fits 1) (fits 5) (not_so (at xy 1 == at xy 5) b.1);
      round = elim (or_so _ _ a.1) [
        | inl r ↦ (let p = and_so _ _ r in let q = and_so _ _ p.0 in let s = and_so _ _ q.0 in
            inl (bits_same xy 1 3 s.0, bits_same xy 2 4 s.1, bits_same xy 5 7 q.1, bits_same xy 6 0 p.1))
        | inr r ↦ (let p = and_so _ _ r in let q = and_so _ _ p.0 in let s = and_so _ _ q.0 in
            inr (bits_same xy 0 2 s.0, bits_same xy 3 5 s.1, bits_same xy 4 6 q.1, bits_same xy 7 1 p.1))
      ];
    }

pub rectangle_ring :
    (along_x : (a b c d : ℤ) → (a ≡ b → ⊥) → (c ≡ d → ⊥)
    → ring_cut (point a c ∷ point b c ∷ point b d ∷ point a d ∷ point a c ∷ []) ≡ box (lesser a b) (lesser c d)
    (greater a b) (greater c d) ∷ [])
    (along_y : (a b c d : ℤ) → (a ≡ b → ⊥) → (c ≡ d → ⊥)
    → ring_cut (point a c ∷ point a d ∷ point b d ∷ point b c ∷ point a c ∷ []) ≡ box (lesser a b) (lesser c d)
    (greater a b) (greater c d) ∷ [])
    (xy : List ℕ) → ((k : ℕ) → at xy k < 2 ^ 32) → is_rectangle xy ≡ true → ring_cut (points xy) ≡ box_of xy ∷ []
rectangle_ring along_x along_y xy fits h = turn (corners xy fits h)
  where
    turn : Corners xy → ring_cut (points xy) ≡ box_of xy ∷ []
    turn c = elim c.round [
      | inl r ↦
          ap (λ (l : List Point). ring_cut l) (five_points xy c.five
          ∙ (λ k. point (coordinate xy 0) (coordinate xy 1) ∷ point (r.1 k) (sym r.0 k)
          ∷ point (coordinate xy 4) (coordinate xy 5) ∷ point (r.3 k) (sym r.2 k)
          ∷ point (sym c.back_x k) (sym c.back_y k) ∷ []))
          ∙ along_x (coordinate xy 0) (coordinate xy 4) (coordinate xy 1) (coordinate xy 5) c.wide c.high
      | inr r ↦
          ap (λ (l : List Point). ring_cut l) (five_points xy c.five
          ∙ (λ k. point (coordinate xy 0) (coordinate xy 1) ∷ point (sym r.0 k) (r.1 k)
          ∷ point (coordinate xy 4) (coordinate xy 5) ∷ point (sym r.2 k) (r.3 k)
          ∷ point (sym c.back_x k) (sym c.back_y k) ∷ []))
          ∙ along_y (coordinate xy 0) (coordinate xy 4) (coordinate xy 1) (coordinate xy 5) c.wide c.high
    ]

-- ---- and it goes round

eq_is : (a b : ℤ) → a ≡ b → int_eq a b ≡ true
eq_is a b e = grind (arith, ints)

either_left : (s t : Bool) → s ≡ true → (s || t) ≡ true
either_left true t e = refl
either_left false t e = absurd cc

either_right : (s t : Bool) → t ≡ true → (s || t) ≡ true
either_right true t e = refl
either_right false t e = e

six : (a b c d e f : Bool) → a ≡ true → b ≡ true → c ≡ true → d ≡ true → e ≡ true → f ≡ true
    → (a && (b && (c && (d && (e && f))))) ≡ true
six a b c d e f p q r s t u = rw (p, q, r, s, t, u) refl

goes_round : (xy : List ℕ) → Corners xy → is_round (points xy) ≡ true
goes_round xy c =
    let x : ℕ → ℤ = λ i. coordinate xy i in
    ap (λ (l : List Point). is_round l) (five_points xy c.five) ∙ elim c.round [
      | inl r ↦ six _ _ _ _ _ _
          (either_right (int_eq (x 0) (x 2)) (int_eq (x 1) (x 3)) (eq_is _ _ r.0))
          (either_left (int_eq (x 2) (x 4)) (int_eq (x 3) (x 5)) (eq_is _ _ r.1))
          (either_right (int_eq (x 4) (x 6)) (int_eq (x 5) (x 7)) (eq_is _ _ r.2))
          (either_left (int_eq (x 6) (x 8)) (int_eq (x 7) (x 9)) (eq_is _ _ (r.3 ∙ c.back_x)))
          (eq_is _ _ (sym c.back_x)) (eq_is _ _ (sym c.back_y))
      | inr r ↦ six _ _ _ _ _ _
          (either_left (int_eq (x 0) (x 2)) (int_eq (x 1) (x 3)) (eq_is _ _ r.0))
          (either_right (int_eq (x 2) (x 4)) (int_eq (x 3) (x 5)) (eq_is _ _ r.1))
          (either_left (int_eq (x 4) (x 6)) (int_eq (x 5) (x 7)) (eq_is _ _ r.2))
          (either_right (int_eq (x 6) (x 8)) (int_eq (x 7) (x 9)) (eq_is _ _ (r.3 ∙ c.back_y)))
          (eq_is _ _ (sym c.back_x)) (eq_is _ _ (sym c.back_y))
    ]

pub rectangle_is_ring : ((xy : List ℕ) → ((k : ℕ) → at xy k < 2 ^ 32) → is_rectangle xy ≡ true
    → ring_cut (points xy) ≡ box_of xy ∷ []) → (xy : List ℕ) → ((k : ℕ) → at xy k < 2 ^ 32) → is_rectangle xy ≡ true
    → is_ring (points xy) ≡ true
rectangle_is_ring cut xy fits h =
    (λ i. goes_round xy (corners xy fits h) i && not (length (cut xy fits h i) == 0))
