-- What the ends of a zone tell of the gap to another rectangle.
use Rattle.std.proofs.Common.{◌≡◌, ℕ, ℤ, Bool, true, false, max, ◌≤◌, ◌≤ℤ◌, ◌-ℤ◌, ◌↔◌, IsTrue, int_le, sym, ◌∙◌, arith}
use Rattle.std.proofs.lemmas.Bool.{both_ways}
use Rattle.std.proofs.lemmas.Int.{ints}
use Rattle.std.specs.Prelude.{FitsSigned}
use Rattle.std.specs.Int.{w64}
use Rattle.geom.specs.Rectangle.{positive_part}
use Rattle.geom.specs.Code.Zones.{IsLowEnd, IsHighEnd}

le_of_test : (a b : ℤ) → int_le a b ≡ true → a ≤ℤ b
le_of_test a b h = grind (arith, ints)

test_of_le : (a b : ℤ) → a ≤ℤ b → int_le a b ≡ true
test_of_le a b h = grind (arith, ints)

module _ (low high a0 a1 b0 b1 : ℤ) (margin : ℕ) (low_so : IsLowEnd low a0 margin) (high_so : IsHighEnd high a1 margin)
    (fits1 : FitsSigned w64 b1) where
  -- where the lower end has been passed, the upper one decides
  pub upper_decides : (low_is high_is : Bool) → FitsSigned w64 b0 → low_is ≡ int_le low b1 → low_is ≡ true
      → high_is ≡ int_le b0 high → IsTrue high_is ↔ max (positive_part (a0 -ℤ b1)) (positive_part (b0 -ℤ a1)) ≤ margin
  upper_decides low_is high_is fits0 is passed other =
      let left : positive_part (a0 -ℤ b1) ≤ margin = (low_so.same b1 fits1).0 (le_of_test low b1 (sym is ∙ passed)) in (
        λ h. (let right : positive_part (b0 -ℤ a1) ≤ margin =
            (high_so.same b0 fits0).0 (le_of_test b0 high (sym other ∙ h)) in omega arith),
        λ h. (let right : positive_part (b0 -ℤ a1) ≤ margin = omega arith in other
            ∙ test_of_le b0 high ((high_so.same b0 fits0).1 right)),
      )

  -- where it has not, the gap is larger
  pub lower_decides : (low_is : Bool) → low_is ≡ int_le low b1 → low_is ≡ false
      → IsTrue low_is ↔ max (positive_part (a0 -ℤ b1)) (positive_part (b0 -ℤ a1)) ≤ margin
  lower_decides low_is is short = (
    λ h. absurd (both_ways low_is short h),
    λ h. (let left : positive_part (a0 -ℤ b1) ≤ margin = omega arith in is
        ∙ test_of_le low b1 ((low_so.same b1 fits1).1 left)),
  )
