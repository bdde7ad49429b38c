-- Sums of coordinates of four bytes.
use Rattle.std.proofs.Common.{◌≡◌, FitsSigned, ℤ, arith}
use Rattle.std.specs.Int.{w64, cast_signed, cast_unsigned}
use Rattle.std.proofs.lemmas.Int.{ints}

-- a number as it is passed on
abbrev pub kept : ℤ → ℤ
kept z = cast_signed w64 (cast_unsigned w64 z)

pub kept_is : (a : ℤ) → FitsSigned w64 a → kept a ≡ a
kept_is a f = omega (arith, ints)
