-- Two proper rectangles share a point exactly where their intervals meet in both directions.
use Rattle.std.proofs.Common.{◌≡◌, ◌↔◌, ℤ, int_le, Bool, true, false, IsTrue, refl, arith, ◌<ℤ◌, ◌≤ℤ◌, ◌&&◌}
use Rattle.std.proofs.lemmas.Int.{ints, by_lt_z}
use Rattle.geom.specs.Rectangle.{Rectangle, IsProper, SharePoint, share_x, share_y, share_point}

-- a number in both intervals
record InBoth (a0 a1 b0 b1 : ℤ) : Type 0 where
  at : ℤ
  right_of_a : a0 ≤ℤ at
  left_of_a : at ≤ℤ a1
  right_of_b : b0 ≤ℤ at
  left_of_b : at ≤ℤ b1

in_both : (a0 a1 b0 b1 : ℤ) → a0 <ℤ a1 → b0 <ℤ b1 → a0 ≤ℤ b1 → b0 ≤ℤ a1 → InBoth a0 a1 b0 b1
in_both a0 a1 b0 b1 p q r s = by_lt_z a0 b0
    (λ h. record {
      at = b0;
      right_of_a = omega (arith, ints);
      left_of_a = s;
      right_of_b = omega (arith, ints);
      left_of_b = omega (arith, ints);
    })
    (λ h. record {
      at = a0;
      right_of_a = omega (arith, ints);
      left_of_a = omega (arith, ints);
      right_of_b = h;
      left_of_b = r;
    })

le_of_test : (a b : ℤ) → int_le a b ≡ true → a ≤ℤ b
le_of_test a b h = grind (arith, ints)

test_of_le : (a b : ℤ) → a ≤ℤ b → int_le a b ≡ true
test_of_le a b h = grind (arith, ints)

first_of : (p q : Bool) → p && q ≡ true → p ≡ true
first_of true q h = refl
first_of false q h = h

second_of : (p q : Bool) → p && q ≡ true → q ≡ true
second_of true q h = h
second_of false q h = absurd cc

both_of : (p q : Bool) → p ≡ true → q ≡ true → p && q ≡ true
both_of true q h k = k
both_of false q h k = h

x_in_both : (a b : Rectangle) → IsProper a → IsProper b → share_x a b ≡ true → InBoth a.x0 a.x1 b.x0 b.x1
x_in_both a b p q h = in_both a.x0 a.x1 b.x0 b.x1 p.wide q.wide (le_of_test _ _ (first_of _ _ h))
    (le_of_test _ _ (second_of _ _ h))

y_in_both : (a b : Rectangle) → IsProper a → IsProper b → share_y a b ≡ true → InBoth a.y0 a.y1 b.y0 b.y1
y_in_both a b p q h = in_both a.y0 a.y1 b.y0 b.y1 p.high q.high (le_of_test _ _ (first_of _ _ h))
    (le_of_test _ _ (second_of _ _ h))

shared : (a b : Rectangle) → InBoth a.x0 a.x1 b.x0 b.x1 → InBoth a.y0 a.y1 b.y0 b.y1 → SharePoint a b
shared a b x y = record {
  x = x.at;
  y = y.at;
  in_first = record { right_of = x.right_of_a; left_of = x.left_of_a; above = y.right_of_a; below = y.left_of_a };
  in_second = record { right_of = x.right_of_b; left_of = x.left_of_b; above = y.right_of_b; below = y.left_of_b };
}

below_both : (a b at : ℤ) → a ≤ℤ at → at ≤ℤ b → int_le a b ≡ true
below_both a b at p q = test_of_le a b (omega (arith, ints))

tested : (a b : Rectangle) → SharePoint a b → share_point a b ≡ true
tested a b s = both_of _ _
    (both_of _ _ (below_both _ _ s.x s.in_first.right_of s.in_second.left_of)
    (below_both _ _ s.x s.in_second.right_of s.in_first.left_of))
    (both_of _ _ (below_both _ _ s.y s.in_first.above s.in_second.below)
    (below_both _ _ s.y s.in_second.above s.in_first.below))

pub sharing_is : (a b : Rectangle) → IsProper a → IsProper b → IsTrue (share_point a b) ↔ SharePoint a b
sharing_is a b p q = (
  λ h. shared a b (x_in_both a b p q (first_of _ _ h))
      (y_in_both a b p q (second_of _ _ h)),
  tested a b,
)

-- the same for an answer of the test
pub sharing_meant : (a b : Rectangle) (answer : Bool) → IsProper a → IsProper b → answer ≡ share_point a b
    → IsTrue answer ↔ SharePoint a b
sharing_meant a b answer p q e = rw e (sharing_is a b p q)
