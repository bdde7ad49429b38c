-- Sums of coordinates of four bytes and lengths of paths.
use Rattle.std.proofs.Common.{◌≡◌, FitsSigned, ℤ, ◌+ℤ◌, ◌-ℤ◌, arith}
use Rattle.std.specs.Int.{w32, w64, cast_signed, cast_unsigned}
use Rattle.std.proofs.lemmas.Int.{ints}
use Rattle.geom.specs.Rectangle.{Rectangle}
use Rattle.poly_cut.specs.Code.Strokes.{IsHalfWidth}

-- a number as it is passed on
abbrev pub kept : ℤ → ℤ
kept z = cast_signed w64 (cast_unsigned w64 z)

pub more_is : (a n : ℤ) → FitsSigned w32 a → IsHalfWidth n → kept (kept a +ℤ kept n) ≡ a +ℤ n
more_is a n f s = omega (arith, ints, s.0, s.1)

pub less_is : (a n : ℤ) → FitsSigned w32 a → IsHalfWidth n → kept (kept a -ℤ kept n) ≡ a -ℤ n
less_is a n f s = omega (arith, ints, s.0, s.1)

pub same_box : {a b c d p q r s : ℤ} → a ≡ p → b ≡ q → c ≡ r → d ≡ s
    → ◌≡◌ {A = Rectangle} (record { x0 = a; y0 = b; x1 = c; y1 = d }) (record { x0 = p; y0 = q; x1 = r; y1 = s })
same_box e f g h = λ i. record { x0 = e i; y0 = f i; x1 = g i; y1 = h i }
