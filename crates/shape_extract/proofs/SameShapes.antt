-- Shapes compare as equal exactly where they are one.
use Rattle.std.proofs.Common.{◌≡◌, ℕ, ℤ, ◌&&◌, Bool, true, eqb, ap, subst, ◌∙◌, arith}
use Rattle.std.specs.Ordering.{int_eq}
use Rattle.std.proofs.lemmas.Bool.{and_parts, and_from, eqb-true}
use Rattle.std.proofs.lemmas.Bool.Decides.{nat_tests}
use Rattle.std.proofs.lemmas.Int.{ints}
use Rattle.geom.specs.declared.shapes.Shape.{Shape}
use Rattle.geom.specs.Rectangle.{Rectangle}

pub same_int : (a b : ℤ) → int_eq a b ≡ true → a ≡ b
same_int a b h = grind (arith, ints)

same_rect : (a b : Rectangle)
    → (int_eq a.x0 b.x0 && (int_eq a.y0 b.y0 && (int_eq a.x1 b.x1 && int_eq a.y1 b.y1))) ≡ true → a ≡ b
same_rect a b h =
    let p = and_parts (int_eq a.x0 b.x0) (int_eq a.y0 b.y0 && (int_eq a.x1 b.x1 && int_eq a.y1 b.y1)) h in
    let q = and_parts (int_eq a.y0 b.y0) (int_eq a.x1 b.x1 && int_eq a.y1 b.y1) p.1 in
    let r = and_parts (int_eq a.x1 b.x1) (int_eq a.y1 b.y1) q.1 in
    by_parts a.x0 b.x0 a.y0 b.y0 a.x1 b.x1 a.y1 b.y1 (same_int a.x0 b.x0 p.0) (same_int a.y0 b.y0 q.0)
    (same_int a.x1 b.x1 r.0) (same_int a.y1 b.y1 r.1)
  where
    make : ℤ → ℤ → ℤ → ℤ → Rectangle
    make x0 y0 x1 y1 = record { x0 = x0; y0 = y0; x1 = x1; y1 = y1 }

    by_parts : (a0 b0 a1 b1 a2 b2 a3 b3 : ℤ) → a0 ≡ b0 → a1 ≡ b1 → a2 ≡ b2 → a3 ≡ b3
        → make a0 a1 a2 a3 ≡ make b0 b1 b2 b3
    by_parts a0 b0 a1 b1 a2 b2 a3 b3 e f g i = ap (λ (v : ℤ). make v a1 a2 a3) e
        ∙ (ap (λ (v : ℤ). make b0 v a2 a3) f ∙ (ap (λ (v : ℤ). make b0 b1 v a3) g ∙ ap (λ (v : ℤ). make b0 b1 b2 v) i))

pub same_shape : (s t : Shape)
    → (eqb s.layer t.layer && (eqb s.datatype
    t.datatype && (int_eq s.rect.x0
    t.rect.x0 && (int_eq s.rect.y0 t.rect.y0 && (int_eq s.rect.x1 t.rect.x1 && int_eq s.rect.y1 t.rect.y1))))) ≡ true
    → s ≡ t
same_shape s t h =
    let p = and_parts (eqb s.layer t.layer) _ h in
    let q = and_parts (eqb s.datatype t.datatype) _ p.1 in
    by_parts s.layer t.layer s.datatype t.datatype s.rect t.rect (eqb-true s.layer t.layer p.0)
    (eqb-true s.datatype t.datatype q.0) (same_rect s.rect t.rect q.1)
  where
    make : ℕ → ℕ → Rectangle → Shape
    make l d r = record { layer = l; datatype = d; rect = r }

    by_parts : (a0 b0 a1 b1 : ℕ) (a2 b2 : Rectangle) → a0 ≡ b0 → a1 ≡ b1 → a2 ≡ b2 → make a0 a1 a2 ≡ make b0 b1 b2
    by_parts a0 b0 a1 b1 a2 b2 e f g = ap (λ (v : ℕ). make v a1 a2) e
        ∙ (ap (λ (v : ℕ). make b0 v a2) f ∙ ap (λ (v : Rectangle). make b0 b1 v) g)

number_itself : (a : ℕ) → eqb a a ≡ true
number_itself a = grind (arith, nat_tests)

pub int_itself : (a : ℤ) → int_eq a a ≡ true
int_itself a = grind (arith, ints)

-- what the derived comparison of two shapes answers
abbrev compared : Shape → Shape → Bool
compared s t =
    eqb s.layer t.layer && (eqb s.datatype t.datatype && (int_eq s.rect.x0 t.rect.x0 && (int_eq s.rect.y0 t.rect.y0
    && (int_eq s.rect.x1 t.rect.x1 && int_eq s.rect.y1 t.rect.y1))))

-- a shape compares as equal to itself
shape_itself : (s : Shape) → compared s s ≡ true
shape_itself s =
    and_from (eqb s.layer s.layer) _ (number_itself s.layer)
    (and_from (eqb s.datatype s.datatype) _ (number_itself s.datatype)
    (and_from (int_eq s.rect.x0 s.rect.x0) _ (int_itself s.rect.x0)
    (and_from (int_eq s.rect.y0 s.rect.y0) _ (int_itself s.rect.y0)
    (and_from (int_eq s.rect.x1 s.rect.x1) (int_eq s.rect.y1 s.rect.y1) (int_itself s.rect.x1)
    (int_itself s.rect.y1)))))

-- so does one that is the same
pub shape_compares : (s t : Shape) → s ≡ t → compared s t ≡ true
shape_compares s t e = let P : Shape → Type 0 = λ v. compared s v ≡ true in subst P e (shape_itself s)
