-- Comparisons of coordinates, and of four at a time.
use Rattle.std.proofs.Common.{◌≡◌, ℕ, ◌<◌, ◌≤◌, Bool, true, false, ◌&&◌, refl, arith, pos, int_le, int_lt}
use Rattle.std.proofs.lemmas.Bool.Decides.{nat_tests}

pub four : (a b c d : Bool) → (a && b && (c && d)) ≡ true → (a ≡ true) × (b ≡ true) × (c ≡ true) × (d ≡ true)
four true true true true e = (refl, refl, refl, refl)
four true true true false e = absurd cc
four true true false d e = absurd cc
four true false c d e = absurd cc
four false b c d e = absurd cc

pub le_of : (a b : ℕ) → int_le (pos a) (pos b) ≡ true → a ≤ b
le_of a b e = grind (arith, nat_tests)

pub not_lt : (a b : ℕ) → int_lt (pos a) (pos b) ≡ false → b ≤ a
not_lt a b e = grind (arith, nat_tests)

pub lt_of : (a b : ℕ) → int_lt (pos a) (pos b) ≡ true → a < b
lt_of a b e = grind (arith, nat_tests)
